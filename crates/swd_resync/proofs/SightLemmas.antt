-- Laws of what is seen at the front of some bits.
use Rattle.std.proofs.Common.{◌≡◌, ◌≢◌, ℕ, zero, suc, ◌-◌, ◌/◌, ◌%◌, ◌<◌, ◌≤◌, Bool, true, false, List, []}
use Rattle.std.proofs.Common.{◌∷◌, ◌++◌, length, replicate, nat_le, arith, refl, sym, ap, ◌∙◌, subst, inl, inr}
use Rattle.std.specs.Prelude.{◌&&◌, ◌==◌, if◌then◌else◌}
use Rattle.std.proofs.lemmas.List.{append_assoc, append-nil, length-append, length-replicate}
use Rattle.std.proofs.lemmas.Bool.{le-leb, lt-leb}
use Rattle.swd_bits.specs.Bits.{low_bits}
use Rattle.swd_bits.specs.BitLists.{tx_bits_of, IsWellFormedTxBits}
use Rattle.swd_bits.specs.declared.tx_bits.TxBits.{TxBits}
use Rattle.swd_bits.specs.declared.tx.TxEnd.{TxEnd}
use Rattle.swd_bits.specs.declared.tx.TxEnd.TheVariants.{Moved, Wait, Fault, NoAck}
use Rattle.swd_bits.specs.declared.tx.Tx.{Tx as Transaction}
use Rattle.swd_bits.proofs.BitsLemmas.{length-low_bits}
use Rattle.swd_trace.specs.declared.mode.Mode.TheVariants.{Synced}
use Rattle.swd_trace.specs.Stands.{Whole, Begun, Broken, stands}
use Rattle.swd_trace.specs.Reading.{trace_ones, trace_all_ones, FirstItem, whole_tx_item, cut_first_item}
use Rattle.swd_trace.specs.Reading.{junk_first_item, first_item, first_item_by_stand}
use Rattle.swd_trace.proofs.StandLemmas.{trace_stand_stays_whole, trace_stand_stays_broken, trace_stand_few_ones}
use Rattle.swd_trace.proofs.StandLemmas.{trace_stand_whole_fits}
use Rattle.swd_trace.proofs.SpellingLemmas.{trace_tx_len}
use Rattle.swd_trace.proofs.ReadingLemmas.{first_item_no_reset, junk_item_in_synced, trace_ones_end_at_zero}
use Rattle.swd_trace.proofs.ReadingLemmas.{cut_item_of_begun_tx, cut_item_of_ones}
use Rattle.swd_trace.proofs.NumberLemmas.{decoder_bits_next}
use Rattle.swd_resync.specs.Parts.{resync_first, resync_with_phase, resync_is_refusal}
use Rattle.swd_resync.specs.declared.sight.Sight.{Sight}
use Rattle.swd_resync.specs.declared.sight.Sight.TheVariants.{Wait as Wait_, Cut}
use Rattle.swd_resync.specs.Sights.{IsTxSight, IsCutSight, IsSight}
use Rattle.swd_trace.proofs.GrammarLemmas.{decoder_first_bit_is_one}
use Rattle.swd_resync.proofs.FirstLemmas.{resync_whole_tx_len}

-- ---- a transaction

-- without overrun detection, a whole transaction at the front is what is read first in mode synced
pub sight_whole_tx_first : (bits : List Bool) (tx : Transaction) (n : ℕ) → stands bits ≡ Whole tx n
    → resync_first false Synced bits ≡ whole_tx_item tx n
sight_whole_tx_first [] tx n e = absurd cc
sight_whole_tx_first (false ∷ bits) tx n e = absurd cc
sight_whole_tx_first (true ∷ bits) tx n e =
    let few : trace_ones (true ∷ bits) < 50 =
    elim (trace_stand_few_ones (true ∷ bits)) [ inl b ↦ absurd cc | inr l ↦ omega arith ] in
    first_item_no_reset Synced true bits few ∙ ap (λ s. first_item_by_stand s true bits) e

-- the same with overrun detection, from what is read without
pub sight_overrun_first : (bits : List Bool) (f : FirstItem) → bits ≢ [] → resync_first false Synced bits ≡ f
    → resync_first true Synced bits ≡ resync_with_phase true f bits
sight_overrun_first [] f n e = absurd (n refl)
sight_overrun_first (b ∷ bits) f n e = ap (λ g. resync_with_phase true g (b ∷ bits)) e

-- where a whole transaction is at the front, the list of bits isn't empty
pub sight_tx_some_bits : (bits : List Bool) (tx : Transaction) (n : ℕ) → stands bits ≡ Whole tx n → bits ≢ []
sight_tx_some_bits [] tx n e = absurd cc
sight_tx_some_bits (b ∷ bits) tx n e = λ f. cc

most_len : (end : TxEnd) → trace_tx_len end ≤ 46
most_len (Moved word ok) = omega arith
most_len Wait = omega arith
most_len Fault = omega arith
most_len (NoAck seen) = omega arith

longer : (bits more : List Bool) → length bits ≤ length (bits ++ more)
longer bits more = let l = length-append bits more in omega arith

-- without a data phase behind it
pub sight_plain_tx : (over : Bool) (tx : Transaction) (n : ℕ) (bits : List Bool) → stands bits ≡ Whole tx n → 12 ≤ n
    → (over && resync_is_refusal tx.result) ≡ false → (back : List Bool) → IsTxSight over tx n (bits ++ back)
sight_plain_tx over tx n bits e some r back =
    let l = resync_whole_tx_len bits tx n e in
    let m = most_len tx.result in
    let fits : n ≤ length bits = trace_stand_whole_fits bits tx n e in
    let more_fit = longer bits back in
    record {
      some = some;
      most = omega arith;
      fits = omega arith;
      first = λ more. by over r more;
    }
  where
    at : (more : List Bool) → stands ((bits ++ back) ++ more) ≡ Whole tx n
    at more = trace_stand_stays_whole (bits ++ back) more tx n (trace_stand_stays_whole bits back tx n e)

    by : (over : Bool) → (over && resync_is_refusal tx.result) ≡ false → (more : List Bool)
        → resync_first over Synced ((bits ++ back) ++ more) ≡ whole_tx_item tx n
    by false r more = sight_whole_tx_first ((bits ++ back) ++ more) tx n (at more)
    by true r more =
        sight_overrun_first ((bits ++ back) ++ more) (whole_tx_item tx n)
        (sight_tx_some_bits ((bits ++ back) ++ more) tx n (at more))
        (sight_whole_tx_first ((bits ++ back) ++ more) tx n (at more))
        ∙ ap (λ t. if t then (if nat_le 46 (length ((bits ++ back) ++ more)) then whole_tx_item tx 46
        else cut_first_item ((bits ++ back) ++ more)) else whole_tx_item tx n) r

-- with one
pub sight_phased_tx : (tx : Transaction) (n : ℕ) (bits : List Bool) → stands bits ≡ Whole tx n
    → resync_is_refusal tx.result ≡ true → 46 ≤ length bits → (back : List Bool) → IsTxSight true tx 46 (bits ++ back)
sight_phased_tx tx n bits e r many back =
    let more_fit = longer bits back in
    record {
      some = omega arith;
      most = omega arith;
      fits = omega arith;
      first = λ more.
          let at : stands ((bits ++ back) ++ more) ≡ Whole tx n = trace_stand_stays_whole (bits ++ back) more tx n
          (trace_stand_stays_whole bits back tx n e) in
          let m = longer (bits ++ back) more in
          sight_overrun_first ((bits ++ back) ++ more) (whole_tx_item tx n)
          (sight_tx_some_bits ((bits ++ back) ++ more) tx n at) (sight_whole_tx_first ((bits ++ back) ++ more) tx n at)
          ∙ ap (λ t. if t then (if nat_le 46 (length ((bits ++ back) ++ more)) then whole_tx_item tx 46
          else cut_first_item ((bits ++ back) ++ more)) else whole_tx_item tx n) r
          ∙ ap (λ t. if t then whole_tx_item tx 46 else cut_first_item ((bits ++ back) ++ more))
          (le-leb 46 (length ((bits ++ back) ++ more)) (omega arith));
    }

-- one whose data phase is cut off
pub sight_phase_cut : (tx : Transaction) (n : ℕ) (bits : List Bool) → stands bits ≡ Whole tx n
    → resync_is_refusal tx.result ≡ true → length bits < 46 → IsCutSight true bits
sight_phase_cut tx n [] e r few = absurd cc
sight_phase_cut tx n (b ∷ bits) e r few = record {
  some = omega arith;
  few = omega arith;
  first = sight_overrun_first (b ∷ bits) (whole_tx_item tx n) (sight_tx_some_bits (b ∷ bits) tx n e)
      (sight_whole_tx_first (b ∷ bits) tx n e) ∙ ap
      (λ t. if t then (if nat_le 46 (length (b ∷ bits)) then whole_tx_item tx 46 else cut_first_item (b ∷ bits)) else
      whole_tx_item tx n) r
      ∙ ap (λ t. if t then whole_tx_item tx 46 else cut_first_item (b ∷ bits)) (lt-leb 46 (length (b ∷ bits)) few);
}

-- ---- what is cut off

cut_at_end : (over : Bool) (b : Bool) (bits : List Bool) → first_item Synced b bits ≡ cut_first_item (b ∷ bits)
    → resync_first over Synced (b ∷ bits) ≡ cut_first_item (b ∷ bits)
cut_at_end false b bits e = e
cut_at_end true b bits e = ap (λ f. resync_with_phase true f (b ∷ bits)) e

-- in mode synced, ones alone, fewer than fifty, are cut, with overrun detection or without
pub sight_ones_cut : (over : Bool) (n : ℕ) → 0 < n → n < 50 → IsCutSight over (replicate n true)
sight_ones_cut over zero some few = absurd (omega arith)
sight_ones_cut over (suc n) some few =
    let l : length (replicate (suc n) true) ≡ suc n = length-replicate (suc n) true in
    record {
      some = omega arith;
      few = omega arith;
      first = cut_at_end over true (replicate n true) (cut_item_of_ones n few);
    }

-- in mode synced, fewer than 46 bits that are no more than the beginning of a transaction are cut, with overrun
-- detection or without
pub sight_partial_tx_cut : (over : Bool) (bits : List Bool) → stands bits ≡ Begun → 0 < length bits → length bits < 46
    → IsCutSight over bits
sight_partial_tx_cut over [] e some few = absurd (omega arith)
sight_partial_tx_cut over (false ∷ bits) e some few = absurd cc
sight_partial_tx_cut over (true ∷ bits) e some few = record {
  some = some;
  few = omega arith;
  first = cut_at_end over true bits (cut_item_of_begun_tx bits e);
}

-- ---- what is neither

pub sight_broken_is_junk : (over : Bool) (bits : List Bool) → stands (true ∷ bits) ≡ Broken
    → trace_all_ones (true ∷ bits) ≡ false
    → length (true ∷ bits) ≤ 50 → (more : List Bool)
    → resync_first over Synced ((true ∷ bits) ++ more) ≡ junk_first_item true
sight_broken_is_junk over bits e z most more =
    let o = trace_ones_end_at_zero (true ∷ bits) more z in
    let same : trace_ones ((true ∷ bits) ++ more) ≡ trace_ones (true ∷ bits) = o.0 in
    let few : trace_ones (true ∷ bits) < length (true ∷ bits) = o.1.1 in
    by over (junk_item_in_synced (bits ++ more) (trace_stand_stays_broken (true ∷ bits) more e) o.1.0 (omega arith))
  where
    by : (over : Bool) → first_item Synced true (bits ++ more) ≡ junk_first_item true
        → resync_first over Synced ((true ∷ bits) ++ more) ≡ junk_first_item true
    by false f = f
    by true f = ap (λ g. resync_with_phase true g (true ∷ (bits ++ more))) f

-- ---- the beginning of a transaction or of fifty ones

-- bits that are cut if they end here are seen as cut where no more follow, and otherwise ask for more
pub sight_cut_or_wait : (over ended : Bool) (w : TxBits) (s : Sight) (bits : List Bool) → (ended ≡ true → s ≡ Cut w)
    → (ended ≡ false → s ≡ Wait_) → bits ≡ tx_bits_of w → IsWellFormedTxBits w → IsCutSight over bits
    → IsSight over ended s bits
sight_cut_or_wait over true w s bits at_end on e spelled seen =
    subst (λ s. IsSight over true s bits) (sym (at_end refl)) (refl, e, spelled, seen)
sight_cut_or_wait over false w s bits at_end on e spelled seen =
    subst (λ s. IsSight over false s bits) (sym (on refl)) (refl, seen.few)

-- with nothing behind
pub sight_nothing_behind : (bits back : List Bool) → back ≡ [] → bits ++ back ≡ bits
sight_nothing_behind bits back e = ap (λ x. bits ++ x) e ∙ append-nil bits

-- a one that begins no transaction, where a zero is among up to fifty bits, is junk in mode synced whatever follows
pub sight_junk : (over : Bool) (len v : ℕ) (back : List Bool) → 0 < len → len ≤ 50 → v % 2 ≡ 1
    → stands (low_bits len v) ≡ Broken → trace_all_ones (low_bits len v) ≡ false →
    (low_bits len v ++ back ≢ []) × ((more : List Bool)
    → resync_first over Synced ((low_bits len v ++ back) ++ more) ≡ junk_first_item true)
sight_junk over len v back some most one e z =
    let bits : List Bool = low_bits (len - 1) (v / 2) in
    let f : low_bits len v ≡ true ∷ bits = decoder_first_bit_is_one len v some one in
    let l : length (low_bits len v) ≡ len = length-low_bits len v in
    let m : length (low_bits len v) ≡ length (true ∷ bits) = ap length f in
    let short : length (true ∷ bits) ≤ 50 = omega arith in (
      (λ n. let x : true ∷ (bits ++ back) ≡ [] = sym (ap (λ y. y ++ back) f) ∙ n in cc),
      (λ more. ap (resync_first over Synced) (append_assoc (low_bits len v) back more
          ∙ ap (λ y. y ++ (back ++ more)) f)
          ∙ sight_broken_is_junk over bits (sym (ap stands f) ∙ e) (sym (ap trace_all_ones f) ∙ z) short
          (back ++ more)),
    )

-- ---- nothing, and a zero

-- where a window is empty and nothing is behind it, there are no bits
pub sight_no_bits : (all bits back : List Bool) → all ≡ bits ++ back → back ≡ [] → bits ≡ [] → all ≡ []
sight_no_bits all bits back e f g = e ∙ ap (λ x. x ++ back) g ∙ f

-- where a window begins with a zero, all the bits do
pub sight_zero : (len v : ℕ) (back all : List Bool) → all ≡ low_bits len v ++ back → 0 < len → v % 2 ≡ 0
    → (rest : List Bool) × (all ≡ false ∷ rest)
sight_zero len v back all e some z = (
  low_bits (len - 1) (v / 2) ++ back,
  e ∙ ap (λ x. x ++ back) (decoder_bits_next len v some ∙ ap (λ d. (d == 1) ∷ low_bits (len - 1) (v / 2)) z),
)
