-- Laws of the steps on held bits without a run.
use Rattle.std.proofs.Common.{◌≡◌, ℕ, zero, suc, ◌+◌, ◌-◌, ◌/◌, ◌%◌, ◌^◌, ◌<◌, ◌≤◌, Bool, true, false, List, [], ◌∷◌}
use Rattle.std.proofs.Common.{◌*◌, map, ◌++◌, length, drop, replicate, append_assoc, refl, sym, ap, ◌∙◌, subst, arith}
use Rattle.std.specs.Prelude.{◌==◌}
use Rattle.std.proofs.lemmas.List.{drop_at}
use Rattle.std.proofs.lemmas.Nat.{one_shl, pow_pos, shr-shr}
use Rattle.std.proofs.Math.Nat.{pow-suc}
use lib.Count.{count_trailing_zeros}
use Rattle.swd_bits.specs.Bits.{low_bits}
use Rattle.swd_bits.proofs.BitsLemmas.{length-low_bits}
use Rattle.swd_bits.specs.declared.tx.Tx.{Tx as Transaction}
use Rattle.swd_trace.specs.declared.item.Item.{Item}
use Rattle.swd_trace.specs.declared.item.Item.TheVariants.{Idle, Tx, Junk}
use Rattle.swd_trace.specs.declared.mode.Mode.{Mode}
use Rattle.swd_trace.specs.declared.mode.Mode.TheVariants.{Synced, AfterSwitch, Lost}
use Rattle.swd_trace.specs.Stands.{Whole, Begun, Broken, stands}
use Rattle.swd_trace.specs.Reading.{trace_ones, trace_all_ones, first_item, junk_first_item, decoder_mode_after_tx}
use Rattle.swd_trace.specs.Reading.{reading}
use Rattle.swd_trace.specs.Decided.{DecidesNoItem}
use Rattle.swd_trace.specs.Holding.{DecoderHolds}
use Rattle.swd_trace.specs.Held.{IsCutTraceEnd, IsTraceOpenAt}
use Rattle.swd_trace.proofs.NumberLemmas.{decoder_bits_next, decoder_bits_parted, decoder_bits_zero_among}
use Rattle.swd_trace.proofs.NumberLemmas.{DecoderTrailingZeros, decoder_zeros_counted}
use Rattle.swd_trace.proofs.ReadingLemmas.{idle_item_before_one, junk_item_first, junk_item_in_synced}
use Rattle.swd_trace.proofs.ReadingLemmas.{junk_item_in_lost, junk_item_after_switch, cut_item_of_begun_tx}
use Rattle.swd_trace.proofs.ReadingLemmas.{tx_item_first, trace_ones_end_at_zero}
use Rattle.swd_trace.proofs.StandLemmas.{trace_stand_stays_whole, trace_stand_stays_broken, trace_stand_whole_fits}
use Rattle.swd_trace.proofs.DecidedLemmas.{cut_item_undecided}
use Rattle.swd_trace.proofs.HoldingLemmas.{same_readings_decide_no_item}

-- without a run
pub item_after_empty_run : (mode after : Mode) (one : Bool) (run : ℕ) (item : Item) (x y : List Bool) → run ≡ 0
    → reading mode x ≡ item ∷ reading after y →
    reading mode (replicate run one ++ x) ≡ item ∷ reading after (replicate run one ++ y)
item_after_empty_run mode after one run item x y e h =
    ap (λ r. reading mode (replicate r one ++ x)) e ∙ h ∙ ap (λ r. item ∷ reading after (replicate r one ++ y)) (sym e)

-- two equal readings stay equal with an empty run put before the bits of each
pub reading_after_empty_run : (mode after : Mode) (one : Bool) (run : ℕ) (x y : List Bool) → run ≡ 0
    → reading mode x ≡ reading after y → reading mode (replicate run one ++ x) ≡ reading after (replicate run one ++ y)
reading_after_empty_run mode after one run x y e h =
    ap (λ r. reading mode (replicate r one ++ x)) e ∙ h ∙ ap (λ r. reading after (replicate r one ++ y)) (sym e)

bits_first : (len bits : ℕ) (more : List Bool) → 0 < len →
    low_bits len bits ++ more ≡ (bits % 2 == 1) ∷ (low_bits (len - 1) (bits / 2) ++ more)
bits_first len bits more h = ap (λ x. x ++ more) (decoder_bits_next len bits h)

-- ---- a bit that belongs to nothing

few_of : (len bits : ℕ) (more : List Bool) → len ≤ 50 → trace_all_ones (low_bits len bits) ≡ false
    → (trace_ones (low_bits len bits ++ more) < 50) × (trace_all_ones (low_bits len bits ++ more) ≡ false)
few_of len bits more h z =
    let r = trace_ones_end_at_zero (low_bits len bits) more z in
    let l : length (low_bits len bits) ≡ len = length-low_bits len bits in
    let e : trace_ones (low_bits len bits ++ more) ≡ trace_ones (low_bits len bits) = r.0 in
    let k : trace_ones (low_bits len bits) < length (low_bits len bits) = r.1.1 in
    (omega arith, r.1.0)

abbrev pub IsJunkItemFirst : Mode → ℕ → ℕ → Type 0
IsJunkItemFirst mode len bits = (more : List Bool)
    → reading mode (low_bits len bits ++ more) ≡ Junk (bits % 2 == 1) ∷ reading Lost
    (low_bits (len - 1) (bits / 2) ++ more)

junk_by : (mode : Mode) (len bits : ℕ) (more : List Bool) → 0 < len
    → first_item mode (bits % 2 == 1) (low_bits (len - 1) (bits / 2) ++ more) ≡ junk_first_item (bits % 2 == 1) →
    reading mode (low_bits len bits ++ more) ≡ Junk (bits % 2 == 1) ∷ reading Lost
    (low_bits (len - 1) (bits / 2) ++ more)
junk_by mode len bits more h e = ap (reading mode) (bits_first len bits more h)
    ∙ junk_item_first mode (bits % 2 == 1) (low_bits (len - 1) (bits / 2) ++ more) e

-- in mode lost, the first of up to fifty held bits is junk whatever follows, unless all of them are ones
pub decoder_junk_in_lost : (mode : Mode) (len bits : ℕ) → mode ≡ Lost → 0 < len → len ≤ 50
    → trace_all_ones (low_bits len bits) ≡ false → IsJunkItemFirst mode len bits
decoder_junk_in_lost mode len bits m h k z more =
    let r = few_of len bits more k z in
    let few : trace_ones ((bits % 2 == 1) ∷ (low_bits (len - 1) (bits / 2) ++ more)) < 50 =
    subst (λ x. trace_ones x < 50) (bits_first len bits more h) r.0 in
    ap (λ d. reading d (low_bits len bits ++ more)) m
    ∙ junk_by Lost len bits more h (junk_item_in_lost (bits % 2 == 1) (low_bits (len - 1) (bits / 2) ++ more) few)

-- a number with a zero
zero_below : (i len v : ℕ) → len ≤ 50 → v + 2 ^ i < 2 ^ len → trace_all_ones (low_bits len v) ≡ false
zero_below i len v k h =
    let some : 0 < 2 ^ i = pow_pos i in
    decoder_bits_zero_among len v (omega arith) (omega arith)
    (λ same. let e : v ≡ 2 ^ len - 1 = same ∙ ap (λ n. n - 1) (one_shl len 64 (omega arith)) in absurd (omega arith))

-- bits up to a zero
pub decoder_junks_in_lost : (i len v : ℕ) → len ≤ 50 → v + 2 ^ i < 2 ^ len → (more : List Bool)
    → reading Lost (low_bits len v ++ more)
    ≡ map Junk (low_bits (suc i) v) ++ reading Lost (low_bits (len - suc i) (v / 2 ^ suc i) ++ more)
unfolding low_bits
decoder_junks_in_lost i zero v k h more = let some : 0 < 2 ^ i = pow_pos i in let none : v + 2 ^ i < 1 = h in
    absurd (omega arith)
decoder_junks_in_lost zero (suc len) v k h more =
    decoder_junk_in_lost Lost (suc len) v refl (omega arith) k (zero_below zero (suc len) v k h) more
decoder_junks_in_lost (suc i) (suc len) v k h more =
    let d : 2 ^ suc i ≡ 2 ^ i * 2 = pow-suc 2 i in
    let e : 2 ^ suc len ≡ 2 ^ len * 2 = pow-suc 2 len in
    let less : v / 2 + 2 ^ i < 2 ^ len = omega arith in
    let one : suc len - 1 ≡ len = omega arith in
    let left : suc len - suc (suc i) ≡ len - suc i = omega arith in
    let two : 1 + suc i ≡ suc (suc i) = omega arith in
    decoder_junk_in_lost Lost (suc len) v refl (omega arith) k (zero_below (suc i) (suc len) v k h) more
    ∙ ap (λ n. Junk (v % 2 == 1) ∷ reading Lost (low_bits n (v / 2) ++ more)) one
    ∙ ap (λ x. Junk (v % 2 == 1) ∷ x) (decoder_junks_in_lost i len (v / 2) (omega arith) less more
    ∙ ap (λ b. map Junk (low_bits (suc i) (v / 2)) ++ reading Lost (low_bits (len - suc i) b ++ more))
    (shr-shr v 1 (suc i) ∙ ap (λ n. v / 2 ^ n) two)
    ∙ ap (λ n. map Junk (low_bits (suc i) (v / 2)) ++ reading Lost (low_bits n (v / 2 ^ suc (suc i)) ++ more))
    (sym left))

-- in mode lost, the first n of up to fifty held bits are junk, where the n-th of them or a later bit is a zero
pub decoder_junk_items : (mode : Mode) (one : Bool) (run len v n : ℕ) → mode ≡ Lost → run ≡ 0 → len ≤ 50 → 0 < n
    → v + 2 ^ (n - 1) < 2 ^ len → (more : List Bool)
    → reading mode (replicate run one ++ (low_bits len v ++ more))
    ≡ map Junk (low_bits n v) ++ reading mode (replicate run one ++ (low_bits (len - n) (v / 2 ^ n) ++ more))
decoder_junk_items mode one run len v zero lost none k some z more = absurd (omega arith)
decoder_junk_items mode one run len v (suc i) lost none k some z more =
    let e : suc i - 1 ≡ i = omega arith in
    let junk = map Junk (low_bits (suc i) v) in
    let x = low_bits len v ++ more in
    let y = low_bits (len - suc i) (v / 2 ^ suc i) ++ more in
    ap (λ r. reading mode (replicate r one ++ x)) none
    ∙ ap (λ d. reading d x) lost
    ∙ decoder_junks_in_lost i len v k (subst (λ n. v + 2 ^ n < 2 ^ len) e z) more
    ∙ ap (λ d. junk ++ reading d y) (sym lost)
    ∙ ap (λ r. junk ++ reading mode (replicate r one ++ y)) (sym none)

-- directly after the switch, the first of up to fifty held bits is junk whatever follows, unless all are ones
pub decoder_junk_after_switch : (mode : Mode) (len bits : ℕ) → mode ≡ AfterSwitch → 0 < len → len ≤ 50
    → trace_all_ones (low_bits len bits) ≡ false → IsJunkItemFirst mode len bits
decoder_junk_after_switch mode len bits m h k z more =
    let r = few_of len bits more k z in
    let few : trace_ones ((bits % 2 == 1) ∷ (low_bits (len - 1) (bits / 2) ++ more)) < 50 =
    subst (λ x. trace_ones x < 50) (bits_first len bits more h) r.0 in
    let zero : trace_all_ones ((bits % 2 == 1) ∷ (low_bits (len - 1) (bits / 2) ++ more)) ≡ false =
    subst (λ x. trace_all_ones x ≡ false) (bits_first len bits more h) r.1 in
    ap (λ d. reading d (low_bits len bits ++ more)) m
    ∙ junk_by AfterSwitch len bits more h
    (junk_item_after_switch (bits % 2 == 1) (low_bits (len - 1) (bits / 2) ++ more) zero few)

-- in mode synced, a held one that begins no transaction is junk whatever follows, where up to fifty bits are
-- held and not all of them are ones
pub decoder_junk_in_synced : (mode : Mode) (len bits : ℕ) → mode ≡ Synced → 0 < len → len ≤ 50
    → trace_all_ones (low_bits len bits) ≡ false → bits % 2 ≡ 1 → stands (low_bits len bits) ≡ Broken →
    IsJunkItemFirst mode len bits
decoder_junk_in_synced mode len bits m h k z o s more =
    let r = few_of len bits more k z in
    let e : low_bits len bits ++ more ≡ true ∷ (low_bits (len - 1) (bits / 2) ++ more) = bits_first len bits more h
    ∙ ap (λ d. (d == 1) ∷ (low_bits (len - 1) (bits / 2) ++ more)) o in
    let few : trace_ones (true ∷ (low_bits (len - 1) (bits / 2) ++ more)) < 50 = subst (λ x. trace_ones x < 50) e r.0 in
    let zero : trace_all_ones (true ∷ (low_bits (len - 1) (bits / 2) ++ more)) ≡ false =
    subst (λ x. trace_all_ones x ≡ false) e r.1 in
    let broken : stands (true ∷ (low_bits (len - 1) (bits / 2) ++ more)) ≡ Broken = subst (λ x. stands x ≡ Broken) e
    (trace_stand_stays_broken (low_bits len bits) more s) in
    let b : (bits % 2 == 1) ≡ true = ap (λ d. d == 1) o in
    ap (λ d. reading d (low_bits len bits ++ more)) m ∙ ap (reading Synced) e
    ∙ junk_item_first Synced true (low_bits (len - 1) (bits / 2) ++ more)
    (junk_item_in_synced (low_bits (len - 1) (bits / 2) ++ more) broken zero few)
    ∙ ap (λ d. Junk d ∷ reading Lost (low_bits (len - 1) (bits / 2) ++ more)) (sym b)

-- ---- idle cycles

-- in mode synced, held zeros before a one are one item of idle cycles, as many as the number's trailing zeros
pub decoder_idle_item : (mode : Mode) (len bits : ℕ) → mode ≡ Synced → bits % 2 ≡ 0 → len ≤ 64 → 0 < bits
    → bits < 2 ^ len → (more : List Bool) →
    reading mode (low_bits len bits ++ more) ≡ Idle (count_trailing_zeros 64 bits) ∷ reading mode
    (low_bits (len - count_trailing_zeros 64 bits) (bits / 2 ^ count_trailing_zeros 64 bits) ++ more)
decoder_idle_item mode len bits m e h p k more =
    let z = count_trailing_zeros 64 bits in
    let r : DecoderTrailingZeros len bits z = decoder_zeros_counted 64 len bits h p k in
    let some : 0 < z = positive z r.one in
    let within : z < len = r.within in
    let b : low_bits (len - z) (bits / 2 ^ z) ++ more ≡ true ∷ (low_bits (len - z - 1) (bits / 2 ^ z / 2) ++ more) =
    bits_first (len - z) (bits / 2 ^ z) more (omega arith)
    ∙ ap (λ d. (d == 1) ∷ (low_bits (len - z - 1) (bits / 2 ^ z / 2) ++ more)) r.one in
    ap (λ d. reading d (low_bits len bits ++ more)) m
    ∙ ap (λ x. reading Synced (x ++ more)) r.front
    ∙ ap (reading Synced) (append_assoc (replicate z false) (low_bits (len - z) (bits / 2 ^ z)) more)
    ∙ ap (λ x. reading Synced (replicate z false ++ x)) b
    ∙ idle_item_before_one z (low_bits (len - z - 1) (bits / 2 ^ z / 2) ++ more) some
    ∙ ap (λ x. Idle z ∷ reading Synced x) (sym b)
    ∙ ap (λ d. Idle z ∷ reading d (low_bits (len - z) (bits / 2 ^ z) ++ more)) (sym m)
  where
    positive : (z : ℕ) → bits / 2 ^ z % 2 ≡ 1 → 0 < z
    positive zero o = let f : bits / 2 ^ 0 ≡ bits = omega arith in absurd (omega arith)
    positive (suc z) o = omega arith

-- an even number other than 0 has at least one trailing zero, and fewer of them than it has bits
pub decoder_idle_zero_count : (bits : ℕ) (len : ℕ) → bits % 2 ≡ 0 → len ≤ 64 → 0 < bits → bits < 2 ^ len
    → (0 < count_trailing_zeros 64 bits) × (count_trailing_zeros 64 bits < len)
decoder_idle_zero_count bits len e h p k =
    let r : DecoderTrailingZeros len bits (count_trailing_zeros 64 bits) = decoder_zeros_counted 64 len bits h p k in
    (positive (count_trailing_zeros 64 bits) r.one, r.within)
  where
    positive : (z : ℕ) → bits / 2 ^ z % 2 ≡ 1 → 0 < z
    positive zero o = let f : bits / 2 ^ 0 ≡ bits = omega arith in absurd (omega arith)
    positive (suc z) o = omega arith

-- ---- a transaction

-- in mode synced, a whole transaction at the front of the held bits is the next item, and its result gives the
-- mode in which the bits after it are read
pub decoder_tx_item : (mode : Mode) (len bits n : ℕ) (tx : Transaction) → mode ≡ Synced
    → stands (low_bits len bits) ≡ Whole tx n → 12 ≤ n → (more : List Bool) →
    reading mode (low_bits len bits ++ more) ≡ Tx tx ∷ reading (decoder_mode_after_tx tx.result)
    (low_bits (len - n) (bits / 2 ^ n) ++ more)
decoder_tx_item mode len bits n tx m s h more =
    let fits : n ≤ length (low_bits len bits) = trace_stand_whole_fits (low_bits len bits) tx n s in
    let l : length (low_bits len bits) ≡ len = length-low_bits len bits in
    let others : drop n (low_bits len bits ++ more) ≡ low_bits (len - n) (bits / 2 ^ n) ++ more =
    ap (λ x. drop n (x ++ more)) (decoder_bits_parted n len bits (omega arith))
    ∙ ap (drop n) (append_assoc (low_bits n bits) (low_bits (len - n) (bits / 2 ^ n)) more)
    ∙ drop_at (low_bits n bits) (low_bits (len - n) (bits / 2 ^ n) ++ more) n (length-low_bits n bits) in
    ap (λ d. reading d (low_bits len bits ++ more)) m
    ∙ tx_item_first (low_bits len bits ++ more) tx n (trace_stand_stays_whole (low_bits len bits) more tx n s)
    (omega arith) ∙ ap (λ x. Tx tx ∷ reading (decoder_mode_after_tx tx.result) x) others

-- a whole transaction at the front of the held bits has at most as many bits as are held
pub decoder_tx_item_fits : (len bits n : ℕ) (tx : Transaction) → stands (low_bits len bits) ≡ Whole tx n → n ≤ len
decoder_tx_item_fits len bits n tx s = subst (λ l. n ≤ l) (length-low_bits len bits)
    (trace_stand_whole_fits (low_bits len bits) tx n s)

-- ---- the beginning of a transaction

begun_cut : (len bits : ℕ) (more : List Bool) → 0 < len → bits % 2 ≡ 1 → stands (low_bits len bits ++ more) ≡ Begun
    → IsCutTraceEnd Synced (low_bits len bits ++ more)
begun_cut len bits more h o s =
    let e : low_bits len bits ++ more ≡ true ∷ (low_bits (len - 1) (bits / 2) ++ more) = bits_first len bits more h
    ∙ ap (λ d. (d == 1) ∷ (low_bits (len - 1) (bits / 2) ++ more)) o in
    subst (IsCutTraceEnd Synced) (sym e) (cut_item_of_begun_tx (low_bits (len - 1) (bits / 2) ++ more)
    (subst (λ x. stands x ≡ Begun) e s))

pub cut_bits_decide_no_item : (mode : Mode) (bits : List Bool) → IsCutTraceEnd mode bits
    → DecidesNoItem (λ more. reading mode (bits ++ more))
cut_bits_decide_no_item mode [] h = absurd h
cut_bits_decide_no_item mode (b ∷ bits) h = cut_item_undecided mode b bits h

append_none : (bits : List Bool) → bits ++ [] ≡ bits
append_none [] = refl
append_none (b ∷ bits) = ap (λ x. b ∷ x) (append_none bits)

abbrev pub DecoderStaysBegun : ℕ → ℕ → ℕ → Type 0
DecoderStaysBegun len bits next = (more : List Bool) → length (low_bits len bits) + length more < next
    → stands (low_bits len bits ++ more) ≡ Begun

-- in mode synced, nothing is decided below a number of bits if below it the bits stay the beginning of a
-- transaction
pub decoder_holds_begun_tx : (mode : Mode) (one : Bool) (run len bits next new fed : ℕ)
    → DecoderHolds mode one run len bits next fed → run ≡ 0 → mode ≡ Synced → 0 < len → bits % 2 ≡ 1 →
    new ≤ 46 → DecoderStaysBegun len bits new → DecoderHolds mode one run len bits new fed
decoder_holds_begun_tx mode one run len bits next new fed h e m p o n s = record {
  whole = h.whole;
  short = h.short;
  stage = omega arith;
  counted = h.counted;
  ran = λ q. absurd (omega arith);
  ends = λ q. absurd (omega arith);
  idle = λ q. absurd (omega arith);
  quiet = λ q more k.
      let l : length (low_bits len bits) ≡ len = length-low_bits len bits in
      same_readings_decide_no_item (λ after. reading Synced ((low_bits len bits ++ more) ++ after))
      (λ after. reading mode (low_bits len bits ++ (more ++ after)))
      (λ after. ap (reading Synced) (append_assoc (low_bits len bits) more after)
      ∙ ap (λ d. reading d (low_bits len bits ++ (more ++ after))) (sym m))
      (cut_bits_decide_no_item Synced (low_bits len bits ++ more) (begun_cut len bits more p o (s more (omega arith))));
}

-- in mode synced, held bits that are the beginning of a transaction are cut if the trace ends with them
pub decoder_begun_tx_open : (mode : Mode) (len bits next : ℕ) → mode ≡ Synced → 0 < len → bits % 2 ≡ 1
    → length (low_bits len bits) < next → DecoderStaysBegun len bits next → IsTraceOpenAt mode (low_bits len bits)
decoder_begun_tx_open mode len bits next m p o n s =
    let l : length (low_bits len bits) + 0 ≡ length (low_bits len bits) = omega arith in
    subst (λ d. IsTraceOpenAt d (low_bits len bits)) (sym m)
    (subst (IsCutTraceEnd Synced) (append_none (low_bits len bits)) (begun_cut len bits [] p o (s [] (omega arith))))
