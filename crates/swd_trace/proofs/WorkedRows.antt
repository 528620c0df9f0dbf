-- The definitions at worked examples.
use Rattle.std.proofs.Common.{◌≡◌, Bool, true, false, List, [], ◌∷◌, ◌++◌, replicate, refl, take}
use Rattle.swd_bits.specs.Bits.{low_bits}
use Rattle.swd_bits.specs.declared.request.Reg4.TheVariants.{R0}
use Rattle.swd_bits.specs.declared.tx.TxEnd.TheVariants.{Moved, NoAck}
use Rattle.swd_trace.specs.declared.item.Item.TheVariants.{Reset, Switch, Idle, Tx, Junk, Cut}
use Rattle.swd_trace.specs.Reading.{switch_item, reading_of, items_after}

fifty : reading_of (replicate 50 true ++ false ∷ []) ≡ Reset 50 ∷ Idle 1 ∷ []
unfolding items_after
fifty = refl

forty_nine : reading_of (replicate 49 true ++ false ∷ []) ≡ replicate 49 (Junk true) ++ Junk false ∷ []
unfolding items_after
forty_nine = refl

switched : reading_of (replicate 56 true ++ switch_item ++ replicate 56 true ++ false ∷ false ∷ []) ≡ Reset 56
    ∷ Switch ∷ Reset 56 ∷ Idle 2 ∷ []
unfolding items_after
switched = refl

begun : reading_of (replicate 50 true ++ false ∷ true ∷ true ∷ true ∷ []) ≡ Reset 50 ∷ Idle 1 ∷ Cut
    (record { len = 3; bits = 7 }) ∷ []
unfolding items_after
begun = refl

dp_read : List Bool
dp_read = low_bits 8 165 ++ true ∷ low_bits 3 1 ++ low_bits 32 731911287 ++ false ∷ true ∷ []

moved : reading_of dp_read ≡ Tx
    (record { request = record { ap = false; read = true; addr = R0 }; result = Moved 731911287 true }) ∷ []
unfolding items_after low_bits dp_read
moved = refl

cut_off : reading_of (take 45 dp_read) ≡ Cut (record { len = 45; bits = 2997908632485 }) ∷ []
unfolding items_after low_bits dp_read
cut_off = refl

unacknowledged : reading_of (low_bits 8 165 ++ true ∷ true ∷ true ∷ true ∷ false ∷ false ∷ false ∷ []) ≡
    Tx (record { request = record { ap = false; read = true; addr = R0 }; result = NoAck 7 }) ∷ Junk false ∷ Junk
    false ∷ Junk false ∷ []
unfolding items_after low_bits
unacknowledged = refl
