-- Laws of the switch among held bits.
use Rattle.std.proofs.Common.{lit<, ◌≡◌, ◌≢◌, ℕ, ◌+◌, ◌-◌, ◌*◌, ◌/◌, ◌%◌, ◌^◌, ◌<◌, ◌≤◌, Bool, true, false, List, []}
use Rattle.std.proofs.Common.{◌∷◌, ◌++◌, length, take, drop, append_assoc, refl, sym, ap, ◌∙◌, subst, arith, inl, inr}
use Rattle.std.proofs.Common.{bit_and}
use Rattle.std.proofs.lemmas.List.{take_at, take-append-le, take-append-drop}
use Rattle.std.proofs.lemmas.Nat.{pow_pos}
use Rattle.std.proofs.Math.Nat.{mod-lt}
use Rattle.swd_bits.specs.Bits.{low_bits}
use Rattle.swd_bits.proofs.BitsLemmas.{length-low_bits, low_bits_injective}
use Rattle.swd_trace.specs.declared.item.Item.TheVariants.{Switch}
use Rattle.swd_trace.specs.declared.mode.Mode.{Mode}
use Rattle.swd_trace.specs.declared.mode.Mode.TheVariants.{Synced, AfterReset, AfterSwitch}
use Rattle.swd_trace.specs.Reading.{trace_begins_with, switch_item, reading}
use Rattle.swd_trace.specs.Decided.{DecidesNoItem}
use Rattle.swd_trace.specs.Holding.{DecoderHolds}
use Rattle.swd_trace.specs.Held.{IsTraceOpenAt}
use Rattle.swd_trace.proofs.NumberLemmas.{decoder_bits_mod, decoder_bits_masked, decoder_bits_parted}
use Rattle.swd_trace.proofs.ReadingLemmas.{no_switch_item_synced, switch_item_after_reset, trace_bit_cases}
use Rattle.swd_trace.proofs.DecidedLemmas.{switch_item_undecided}
use Rattle.swd_trace.proofs.HoldingLemmas.{same_readings_decide_no_item}

-- bits that begin with others
begins_as : (a b : List Bool) → trace_begins_with a b ≡ true → (rest : List Bool) × (b ≡ a ++ rest)
begins_as [] b e = (b, refl)
begins_as (x ∷ a) [] e = absurd cc
begins_as (true ∷ a) (true ∷ b) e = let r = begins_as a b e in (r.0, ap (λ x. true ∷ x) r.1)
begins_as (true ∷ a) (false ∷ b) e = absurd cc
begins_as (false ∷ a) (true ∷ b) e = absurd cc
begins_as (false ∷ a) (false ∷ b) e = let r = begins_as a b e in (r.0, ap (λ x. false ∷ x) r.1)

-- the switch as a number
pub switch_item_number : low_bits 16 59294 ≡ switch_item
unfolding low_bits
switch_item_number = refl

-- the first bits of the switch
switch_front : (n : ℕ) → n ≤ 16 → take n switch_item ≡ low_bits n 59294
switch_front n h =
    ap (take n) (sym switch_item_number ∙ decoder_bits_parted n 16 59294 h)
    ∙ take_at (low_bits n 59294) (low_bits (16 - n) (59294 / 2 ^ n)) n (length-low_bits n 59294)

-- the mask of the low n bits, as the code computes it in 64 bits
abbrev pub decoder_mask : ℕ → ℕ
decoder_mask n = 1 * 2 ^ n % 2 ^ 64 - 1

same_masked : (n v w : ℕ) → n < 64 → low_bits n v ≡ low_bits n w
    → bit_and v (decoder_mask n) ≡ bit_and w (decoder_mask n)
same_masked n v w h e =
    let low : low_bits n (v % 2 ^ n) ≡ low_bits n (w % 2 ^ n) = decoder_bits_mod n v ∙ e ∙ sym (decoder_bits_mod n w) in
    decoder_bits_masked n v h ∙ low_bits_injective n (v % 2 ^ n) (w % 2 ^ n) (mod-lt v (pow_pos n))
    (mod-lt w (pow_pos n)) low ∙ sym (decoder_bits_masked n w h)

masked_same : (n v w : ℕ) → n < 64 → bit_and v (decoder_mask n) ≡ bit_and w (decoder_mask n)
    → low_bits n v ≡ low_bits n w
masked_same n v w h e = sym (decoder_bits_mod n v) ∙ ap (low_bits n)
    (sym (decoder_bits_masked n v h) ∙ e ∙ decoder_bits_masked n w h) ∙ decoder_bits_mod n w

-- bits that differ from a switch's are none, whatever follows
pub switch_item_excluded : (len v n : ℕ) → n ≤ len → n ≤ 16
    → (bit_and v (decoder_mask n) ≡ bit_and 59294 (decoder_mask n) → ⊥)
    → (more : List Bool) → trace_begins_with switch_item (low_bits len v ++ more) ≡ false
switch_item_excluded len v n h k d more =
    elim (trace_bit_cases (trace_begins_with switch_item (low_bits len v ++ more))) [
      | inl e ↦
          let r = begins_as switch_item (low_bits len v ++ more) e in
          let mine : take n (low_bits len v ++ more) ≡ low_bits n v =
          ap (λ x. take n (x ++ more)) (decoder_bits_parted n len v h)
          ∙ ap (take n) (append_assoc (low_bits n v) (low_bits (len - n) (v / 2 ^ n)) more)
          ∙ take_at (low_bits n v) (low_bits (len - n) (v / 2 ^ n) ++ more) n (length-low_bits n v) in
          let theirs : take n (switch_item ++ r.0) ≡ low_bits n 59294 =
          take-append-le n switch_item r.0 k ∙ switch_front n k in
          absurd (d (same_masked n v 59294 (omega arith) (sym mine ∙ ap (take n) r.1 ∙ theirs)))
      | inr e ↦ e
    ]

-- directly after a reset, bits that differ from the switch's are read as in mode synced, whatever follows
pub decoder_no_switch_item : (mode : Mode) (one : Bool) (len v n : ℕ) → mode ≡ AfterReset → n ≤ len → n ≤ 16
    → (bit_and v (decoder_mask n) ≡ bit_and 59294 (decoder_mask n) → ⊥) → (more : List Bool) →
    reading mode (low_bits len v ++ more) ≡ reading Synced (low_bits len v ++ more)
decoder_no_switch_item mode one len v n m h k d more =
    ap (λ x. reading x (low_bits len v ++ more)) m ∙ no_switch_item_synced (low_bits len v ++ more)
    (switch_item_excluded len v n h k d more)

-- fewer bits that are those of a switch
pub decoder_switch_prefix : (len v : ℕ) → len < 16 → bit_and v (decoder_mask len) ≡ bit_and 59294 (decoder_mask len)
    → switch_item ≡ low_bits len v ++ drop len switch_item
decoder_switch_prefix len v h e =
    sym (take-append-drop len switch_item) ∙ ap (λ x. x ++ drop len switch_item)
    (switch_front len (omega arith) ∙ sym (masked_same len v 59294 (omega arith) e))

some_bits : (len v : ℕ) → 0 < len → low_bits len v ≢ []
some_bits len v h = λ e. let l : length (low_bits len v) ≡ 0 = ap length e in let m = length-low_bits len v in omega
    arith

-- directly after a reset, held bits that are the beginning of the switch decide nothing before the next bit
pub decoder_holds_switch_prefix : (mode : Mode) (one : Bool) (run len bits next fed : ℕ)
    → DecoderHolds mode one run len bits next fed → run ≡ 0 → mode ≡ AfterReset → 0 < len → len < 16 →
    bit_and bits (decoder_mask len) ≡ bit_and 59294 (decoder_mask len)
    → DecoderHolds mode one run len bits (len + 1) fed
decoder_holds_switch_prefix mode one run len bits next fed h e m p k s = record {
  whole = h.whole;
  short = h.short;
  stage = omega arith;
  counted = h.counted;
  ran = λ q. absurd (omega arith);
  ends = λ q. absurd (omega arith);
  idle = λ q. absurd (omega arith);
  quiet = λ q more j. none more j;
}
  where
    none : (more : List Bool) → len + length more < len + 1
        → DecidesNoItem (λ after. reading mode (low_bits len bits ++ (more ++ after)))
    none [] j =
        let l : length (low_bits len bits) ≡ len = length-low_bits len bits in
        same_readings_decide_no_item (λ after. reading AfterReset (low_bits len bits ++ after))
        (λ after. reading mode (low_bits len bits ++ after))
        (λ after. ap (λ d. reading d (low_bits len bits ++ after)) (sym m))
        (switch_item_undecided (low_bits len bits) (drop len switch_item) (decoder_switch_prefix len bits k s)
        (some_bits len bits p) (omega arith))
    none (b ∷ more) j = absurd (omega arith)

-- directly after a reset, held bits that are the beginning of the switch may still become it
pub decoder_switch_open_end : (mode : Mode) (len bits : ℕ) → mode ≡ AfterReset → len < 16
    → bit_and bits (decoder_mask len) ≡ bit_and 59294 (decoder_mask len) → IsTraceOpenAt mode (low_bits len bits)
decoder_switch_open_end mode len bits m k s =
    let l : length (low_bits len bits) ≡ len = length-low_bits len bits in
    subst (λ d. IsTraceOpenAt d (low_bits len bits)) (sym m)
    (drop len switch_item, decoder_switch_prefix len bits k s, omega arith)

-- a whole switch
pub decoder_switch_item : (mode : Mode) (len v : ℕ) → mode ≡ AfterReset → 16 ≤ len
    → bit_and v (decoder_mask 16) ≡ bit_and 59294 (decoder_mask 16) → (more : List Bool) →
    reading mode (low_bits len v ++ more) ≡ Switch ∷ reading AfterSwitch (low_bits (len - 16) (v / 2 ^ 16) ++ more)
decoder_switch_item mode len v m h s more =
    ap (λ d. reading d (low_bits len v ++ more)) m
    ∙ ap (λ x. reading AfterReset (x ++ more))
    (decoder_bits_parted 16 len v h ∙ ap (λ x. x ++ low_bits (len - 16) (v / 2 ^ 16))
    (masked_same 16 v 59294 (lit< tt) s ∙ switch_item_number))
    ∙ ap (reading AfterReset) (append_assoc switch_item (low_bits (len - 16) (v / 2 ^ 16)) more)
    ∙ switch_item_after_reset (low_bits (len - 16) (v / 2 ^ 16) ++ more)
