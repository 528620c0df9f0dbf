-- Laws of what is read first, with overrun detection and without.
use Rattle.std.proofs.Common.{◌≡◌, ℕ, ◌+◌, ◌-◌, ◌<◌, ◌≤◌, Bool, true, false, List, [], ◌∷◌, ◌++◌, length, take, drop}
use Rattle.std.proofs.Common.{replicate, nat_le, refl, sym, ap, ◌∙◌, subst, arith}
use Rattle.std.specs.Prelude.{if◌then◌else◌}
use Rattle.std.proofs.lemmas.List.{length-take-le, take-append-drop, length-append, take_all, take-take, append-nil}
use Rattle.std.proofs.lemmas.List.{length-drop}
use Rattle.std.proofs.lemmas.Bool.{leb-true}
use Rattle.swd_bits.specs.Transactions.{SpellsTx}
use Rattle.swd_bits.specs.declared.tx.TxEnd.{TxEnd}
use Rattle.swd_bits.specs.declared.tx.TxEnd.TheVariants.{Moved, Wait, Fault, NoAck}
use Rattle.swd_bits.specs.declared.tx.Tx.{Tx as Transaction}
use Rattle.swd_bits.proofs.BitsLemmas.{low_bits-number}
use Rattle.swd_trace.specs.declared.item.Item.{Item}
use Rattle.swd_trace.specs.declared.item.Item.TheVariants.{Reset, Switch, Idle, Tx, Junk, Cut}
use Rattle.swd_trace.specs.declared.mode.Mode.{Mode}
use Rattle.swd_trace.specs.declared.mode.Mode.TheVariants.{Synced, AfterReset, AfterSwitch, Lost}
use Rattle.swd_trace.specs.Stands.{Stand, Whole, Begun, Broken, stands}
use Rattle.swd_trace.specs.Reading.{trace_ones, trace_zeros, trace_all_ones, trace_begins_with, switch_item, FirstItem}
use Rattle.swd_trace.specs.Reading.{whole_tx_item, cut_first_item, junk_first_item, cut_or_junk_item}
use Rattle.swd_trace.specs.Reading.{first_item_by_stand, first_item_synced, first_item_by_mode, first_item}
use Rattle.swd_trace.proofs.StandLemmas.{stand_by_test, trace_ones_le_length, trace_stand_whole_fits}
use Rattle.swd_trace.proofs.SpellingLemmas.{trace_tx_len, trace_spelling_length, trace_stand_is_spelled}
use Rattle.swd_trace.proofs.LawLemmas.{trace_prefix_test_sound}
use Rattle.swd_resync.specs.Parts.{resync_with_phase, resync_first, resync_is_refusal, resync_is_refused}
use Rattle.swd_resync.specs.Parts.{resync_is_junk}
use Rattle.swd_resync.specs.Divisions.{StretchShows}

-- ---- runs

pub resync_zeros_fit : (bits : List Bool) → trace_zeros bits ≤ length bits
resync_zeros_fit [] = omega arith
resync_zeros_fit (true ∷ bits) = omega arith
resync_zeros_fit (false ∷ bits) = let h = resync_zeros_fit bits in omega arith

pub resync_take_zeros : (bits : List Bool) → take (trace_zeros bits) bits ≡ replicate (trace_zeros bits) false
resync_take_zeros [] = refl
resync_take_zeros (true ∷ bits) = refl
resync_take_zeros (false ∷ bits) = ap (λ x. false ∷ x) (resync_take_zeros bits)

pub resync_take_ones : (bits : List Bool) → take (trace_ones bits) bits ≡ replicate (trace_ones bits) true
resync_take_ones [] = refl
resync_take_ones (false ∷ bits) = refl
resync_take_ones (true ∷ bits) = ap (λ x. true ∷ x) (resync_take_ones bits)

begins_fits : (a b : List Bool) → trace_begins_with a b ≡ true → length a ≤ length b
begins_fits a b e = let m = trace_prefix_test_sound a b e in
    let l : length b ≡ length a + length m.0 = ap length m.1 ∙ length-append a m.0 in omega arith

-- ---- what is read first takes at least one bit of those that are there, and shows them

pub record ResyncTakes (over : Bool) (bits : List Bool) (f : FirstItem) : Type 0 where
  pub some : 0 < f.taken
  pub fits : f.taken ≤ length bits
  pub shows : resync_is_junk f.item ≡ false → StretchShows over f.item (take f.taken bits)

-- how many bits a transaction has
pub resync_whole_tx_len : (bits : List Bool) (tx : Transaction) (n : ℕ) → stands bits ≡ Whole tx n
    → n ≡ trace_tx_len tx.result
resync_whole_tx_len bits tx n e =
    let s : SpellsTx tx (take n bits) = trace_stand_is_spelled bits tx n e in
    let l : length (take n bits) ≡ n = length-take-le n bits (trace_stand_whole_fits bits tx n e) in
    sym l ∙ ap length s.3 ∙ trace_spelling_length tx s.1 s.2

-- a transaction has at least twelve bits
pub resync_tx_len_least : (end : TxEnd) → 12 ≤ trace_tx_len end
resync_tx_len_least (Moved word ok) = omega arith
resync_tx_len_least Wait = omega arith
resync_tx_len_least Fault = omega arith
resync_tx_len_least (NoAck seen) = omega arith

takes_whole : (bits : List Bool) (tx : Transaction) (n : ℕ) → stands bits ≡ Whole tx n
    → ResyncTakes false bits (whole_tx_item tx n)
takes_whole bits tx n e =
    let l = resync_whole_tx_len bits tx n e in
    let s = resync_tx_len_least tx.result in
    record {
      some = omega arith;
      fits = trace_stand_whole_fits bits tx n e;
      shows = λ j. (take n bits, [], sym (append-nil (take n bits)), trace_stand_is_spelled bits tx n e, refl);
    }

takes_cut : (over : Bool) (b : Bool) (bits : List Bool) → ResyncTakes over (b ∷ bits) (cut_first_item (b ∷ bits))
takes_cut over b bits = record {
  some = omega arith;
  fits = omega arith;
  shows = λ j. (omega arith, take_all (length (b ∷ bits)) (b ∷ bits) (omega arith) ∙ sym (low_bits-number (b ∷ bits)));
}

takes_junk : (over : Bool) (b : Bool) (bits : List Bool) → ResyncTakes over (b ∷ bits) (junk_first_item b)
takes_junk over b bits = record { some = omega arith; fits = omega arith; shows = λ j. absurd cc }

takes_by_ones : (b : Bool) (bits : List Bool) → ResyncTakes false (b ∷ bits) (cut_or_junk_item b bits)
takes_by_ones b bits = stand_by_test (trace_all_ones (b ∷ bits)) (cut_first_item (b ∷ bits)) (junk_first_item b)
    (λ f. ResyncTakes false (b ∷ bits) f) (λ e. takes_cut false b bits) (λ e. takes_junk false b bits)

takes_by_stand : (s : Stand) (bits : List Bool) → stands (true ∷ bits) ≡ s
    → ResyncTakes false (true ∷ bits) (first_item_by_stand s true bits)
takes_by_stand (Whole tx n) bits e = takes_whole (true ∷ bits) tx n e
takes_by_stand Begun bits e = takes_cut false true bits
takes_by_stand Broken bits e = takes_by_ones true bits

takes_synced : (b : Bool) (bits : List Bool) → ResyncTakes false (b ∷ bits) (first_item_synced b bits)
takes_synced false bits =
    let z = resync_zeros_fit (false ∷ bits) in
    record { some = omega arith; fits = z; shows = λ j. (omega arith, resync_take_zeros (false ∷ bits)) }
takes_synced true bits = takes_by_stand (stands (true ∷ bits)) bits refl

takes_short : (mode : Mode) (b : Bool) (bits : List Bool)
    → ResyncTakes false (b ∷ bits) (first_item_by_mode mode b bits)
takes_short Synced b bits = takes_synced b bits
takes_short AfterReset b bits =
    stand_by_test (trace_begins_with switch_item (b ∷ bits)) (record { item = Switch; after = AfterSwitch; taken = 16 })
    (first_item_synced b bits) (λ f. ResyncTakes false (b ∷ bits) f)
    (λ e.
    let m = trace_prefix_test_sound switch_item (b ∷ bits) e in
    record {
      some = omega arith;
      fits = begins_fits switch_item (b ∷ bits) e;
      shows = λ j. ap (take 16) m.1;
    })
    (λ e. takes_synced b bits)
takes_short AfterSwitch b bits = takes_by_ones b bits
takes_short Lost b bits = takes_junk false b bits

-- without overrun detection, what is read first takes at least one bit of those there are, and unless it is
-- junk, the bits taken are its bits
pub resync_first_takes_in_mode : (mode : Mode) (b : Bool) (bits : List Bool)
    → ResyncTakes false (b ∷ bits) (first_item mode b bits)
resync_first_takes_in_mode mode b bits =
    stand_by_test (nat_le 50 (trace_ones (b ∷ bits))) _ (first_item_by_mode mode b bits)
    (λ f. ResyncTakes false (b ∷ bits) f) (λ e.
    let many : 50 ≤ trace_ones (b ∷ bits) = leb-true 50 (trace_ones (b ∷ bits)) e in
    record {
      some = omega arith;
      fits = trace_ones_le_length (b ∷ bits);
      shows = λ j. (many, resync_take_ones (b ∷ bits));
    })
    (λ e. takes_short mode b bits)

-- ---- with overrun detection

-- without a data phase behind it, an item shows the same bits
same_shows : (item : Item) (bits : List Bool) → resync_is_refused item ≡ false → StretchShows false item bits
    → StretchShows true item bits
same_shows (Reset n) bits e s = s
same_shows Switch bits e s = s
same_shows (Idle n) bits e s = s
same_shows (Tx tx) bits e s = let l : length s.1 ≡ 0 = s.4 in
    let n : (if resync_is_refusal tx.result then 33 else 0) ≡ 0 = ap (λ t. if t then 33 else 0) e in
    (s.0, s.1, s.2, s.3, l ∙ sym n)
same_shows (Junk b) bits e s = s
same_shows (Cut off) bits e s = s

not_junk : (item : Item) → resync_is_refused item ≡ true → resync_is_junk item ≡ false
not_junk (Reset n) e = refl
not_junk Switch e = refl
not_junk (Idle n) e = refl
not_junk (Tx tx) e = refl
not_junk (Junk b) e = absurd cc
not_junk (Cut off) e = refl

-- a transaction that ended by WAIT or FAULT has thirteen bits, not counting a data phase after it
pub resync_refused_tx_len : (tx : Transaction) (front : List Bool) → resync_is_refusal tx.result ≡ true
    → SpellsTx tx front → length front ≡ 13
resync_refused_tx_len tx front r s = ap length s.3 ∙ trace_spelling_length tx s.1 s.2 ∙ by tx.result r
  where
    by : (end : TxEnd) → resync_is_refusal end ≡ true → trace_tx_len end ≡ 13
    by (Moved word ok) r = absurd cc
    by Wait r = refl
    by Fault r = refl
    by (NoAck seen) r = absurd cc

thirteen_and_more : (bits : List Bool) → 46 ≤ length bits
    → (phase : List Bool) × (take 46 bits ≡ take 13 bits ++ phase) × (length phase ≡ 33)
thirteen_and_more bits l =
    let inner : take 13 (take 46 bits) ≡ take 13 bits = take-take 13 46 bits (omega arith) in
    let long : length (take 46 bits) ≡ 46 = length-take-le 46 bits l in
    let behind : length (drop 13 (take 46 bits)) ≡ length (take 46 bits) - 13 = length-drop 13 (take 46 bits) in
    let joined : take 13 (take 46 bits) ++ drop 13 (take 46 bits) ≡ take 46 bits =
    take-append-drop 13 (take 46 bits) in (
      drop 13 (take 46 bits),
      sym joined ∙ ap (λ x. x ++ drop 13 (take 46 bits)) inner,
      omega arith,
    )

-- 33 bits more behind a refusal
shows_phase : (item : Item) (n : ℕ) (bits : List Bool) → resync_is_refused item ≡ true → n ≤ length bits
    → 46 ≤ length bits → StretchShows false item (take n bits) → StretchShows true item (take 46 bits)
shows_phase (Reset n) k bits r h l s = absurd cc
shows_phase Switch k bits r h l s = absurd cc
shows_phase (Idle n) k bits r h l s = absurd cc
shows_phase (Junk b) k bits r h l s = absurd cc
shows_phase (Cut off) k bits r h l s = absurd cc
shows_phase (Tx tx) k bits r h l s =
    let none : length s.1 ≡ 0 = s.4 in
    let front : length s.0 ≡ 13 = resync_refused_tx_len tx s.0 r s.3 in
    let both : length (take k bits) ≡ length s.0 + length s.1 = ap length s.2 ∙ length-append s.0 s.1 in
    let all : length (take k bits) ≡ k = length-take-le k bits h in
    let n : k ≡ 13 = omega arith in
    let spelled : SpellsTx tx (take k bits) = subst (SpellsTx tx) (empty s.0 s.1 none ∙ sym s.2) s.3 in
    let parts = thirteen_and_more bits l in
    let phase : (if resync_is_refusal tx.result then 33 else 0) ≡ 33 = ap (λ t. if t then 33 else 0) r in
    let same : take k bits ≡ take 13 bits = ap (λ m. take m bits) n in
    (take 13 bits, parts.0, parts.1, subst (SpellsTx tx) same spelled, parts.2 ∙ sym phase)
  where
    empty : (x y : List Bool) → length y ≡ 0 → x ≡ x ++ y
    empty x [] e = sym (append-nil x)
    empty x (b ∷ y) e = absurd (omega arith)

takes_with_phase : (f : FirstItem) (bits : List Bool) → 0 < length bits → ResyncTakes false bits f
    → ResyncTakes true bits (resync_with_phase true f bits)
takes_with_phase f bits some t =
    stand_by_test (resync_is_refused f.item) _ f (λ g. ResyncTakes true bits g)
    (λ r. stand_by_test (nat_le 46 (length bits)) (record f { taken = 46 }) (cut_first_item bits)
    (λ g. ResyncTakes true bits g) (λ e.
    let many : 46 ≤ length bits = leb-true 46 (length bits) e in
    record {
      some = omega arith;
      fits = many;
      shows = λ j. shows_phase f.item f.taken bits r t.fits many (t.shows j);
    })
    (λ e. all bits some))
    (λ r. record { some = t.some; fits = t.fits; shows = λ j. same_shows f.item (take f.taken bits) r (t.shows j) })
  where
    all : (bits : List Bool) → 0 < length bits → ResyncTakes true bits (cut_first_item bits)
    all [] h = absurd (omega arith)
    all (b ∷ bits) h = takes_cut true b bits

-- with overrun detection or without, what is read first takes at least one bit of those there are, and unless it
-- is junk, the bits taken are its bits
pub resync_first_takes_bits : (over : Bool) (mode : Mode) (b : Bool) (bits : List Bool)
    → ResyncTakes over (b ∷ bits) (resync_first over mode (b ∷ bits))
resync_first_takes_bits false mode b bits = resync_first_takes_in_mode mode b bits
resync_first_takes_bits true mode b bits =
    takes_with_phase (first_item mode b bits) (b ∷ bits) (omega arith) (resync_first_takes_in_mode mode b bits)
