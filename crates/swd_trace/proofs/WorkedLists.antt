-- The definitions of listings at worked examples.
use Rattle.std.proofs.Common.{◌≡◌, true, false, [], ◌∷◌, ◌++◌, refl}
use Rattle.std.specs.Prelude.{codes}
use Rattle.swd_bits.specs.Bits.{low_bits}
use Rattle.swd_bits.specs.declared.request.Reg4.TheVariants.{R0}
use Rattle.swd_bits.specs.declared.tx.TxEnd.TheVariants.{NoAck}
use Rattle.swd_trace.specs.declared.item.Item.TheVariants.{Idle, Tx, Junk, Cut}
use Rattle.swd_trace.specs.Listed.{listing_lines, IsNormalListing}
use Rattle.swd_trace.specs.Reading.{reading_of, items_after}
use Rattle.swd_trace.specs.Texts.{bits_of_items}

no_line : listing_lines [] ≡ []
no_line = refl

one_empty_line : listing_lines (10 ∷ []) ≡ [] ∷ []
one_empty_line = refl

ended : listing_lines (codes "idle 2" ++ 10 ∷ codes "cut 1" ++ 10 ∷ []) ≡ codes "idle 2" ∷ codes "cut 1" ∷ []
ended = refl

unended : listing_lines (codes "idle 2" ++ 10 ∷ codes "cut 1") ≡ codes "idle 2" ∷ codes "cut 1" ∷ []
unended = refl

empty_line : listing_lines (codes "idle 1" ++ 10 ∷ 10 ∷ []) ≡ codes "idle 1" ∷ [] ∷ []
empty_line = refl

normal : IsNormalListing (Idle 2 ∷ Cut (record { len = 1; bits = 1 }) ∷ [])
unfolding items_after low_bits
normal = refl

joined_runs : reading_of (bits_of_items (Idle 1 ∷ Idle 1 ∷ [])) ≡ Idle 2 ∷ []
unfolding items_after
joined_runs = refl

longer_cut : reading_of (bits_of_items (Cut (record { len = 1; bits = 1 }) ∷ Idle 1 ∷ [])) ≡ Cut
    (record { len = 2; bits = 1 }) ∷ []
unfolding items_after low_bits
longer_cut = refl

after_no_acknowledgement : reading_of
    (bits_of_items (Tx (record { request = record { ap = false; read = true; addr = R0 }; result = NoAck 7 }) ∷ Idle 1 ∷
    [])) ≡
    Tx (record { request = record { ap = false; read = true; addr = R0 }; result = NoAck 7 }) ∷ Junk false ∷ []
unfolding items_after low_bits
after_no_acknowledgement = refl
