-- Laws of the steps of a decoder.
use Rattle.std.proofs.Common.{◌≡◌, ◌≢◌, ℕ, ◌+◌, ◌-◌, ◌*◌, ◌/◌, ◌%◌, ◌^◌, ◌<◌, ◌≤◌, Bool, true, false, List, [], ◌∷◌}
use Rattle.std.proofs.Common.{◌++◌, replicate, append_assoc, refl, sym, ap, ◌∙◌, subst, arith, inl, inr, bit_or, Option}
use Rattle.std.proofs.Common.{Some, None}
use Rattle.std.specs.Prelude.{◌==◌}
use Rattle.std.proofs.lemmas.List.{append-nil}
use Rattle.std.proofs.lemmas.Nat.{one_shl, pow_pos}
use Rattle.std.proofs.lemmas.Bool.{cases_lt}
use Rattle.swd_bits.specs.Bits.{low_bits}
use Rattle.swd_bits.proofs.BitsLemmas.{low_bits-join, low_bits_join_lt}
use Rattle.swd_trace.specs.declared.item.Item.{Item}
use Rattle.swd_trace.specs.declared.item.Item.TheVariants.{Reset, Idle}
use Rattle.swd_trace.specs.declared.mode.Mode.{Mode}
use Rattle.swd_trace.specs.declared.mode.Mode.TheVariants.{Synced, AfterReset}
use Rattle.swd_trace.specs.declared.decoder.Decoder.{Decoder}
use Rattle.swd_trace.specs.Reading.{reading}
use Rattle.swd_trace.specs.Decided.{DecidesNoItem}
use Rattle.swd_trace.specs.Holding.{DecoderHolds}
use Rattle.swd_trace.specs.Held.{decoder_rest, decoder_fed, decoder_places, IsDecoderSettled, DecidesItem}
use Rattle.swd_trace.proofs.NumberLemmas.{decoder_bits_next, decoder_bits_none, decoder_bits_low_ones}
use Rattle.swd_trace.proofs.NumberLemmas.{decoder_bits_shifted_lt}
use Rattle.swd_trace.proofs.ReadingLemmas.{reset_item_before_zero, reset_item_at_end, idle_item_before_one}
use Rattle.swd_trace.proofs.ReadingLemmas.{idle_item_at_end, reading_no_item}
use Rattle.swd_trace.proofs.DecidedLemmas.{idle_item_undecided, reset_item_undecided}
use Rattle.swd_trace.proofs.HoldingLemmas.{decoder_holds_bits, same_readings_decide_no_item}

-- ---- what is held, after a step

-- a run is gone
pub decoder_holds_dropped_run : (mode after : Mode) (one : Bool) (run len bits next fed : ℕ)
    → DecoderHolds mode one run len bits next fed → 0 < run → DecoderHolds after one 0 len bits next fed
decoder_holds_dropped_run mode after one run len bits next fed h p =
    let counted : run + len ≤ fed = h.counted in
    subst (λ n. DecoderHolds after one 0 len bits n fed) (sym (h.ran p).0)
    (decoder_holds_bits after one len bits fed h.whole h.short (omega arith))

-- some bits are gone
pub decoder_holds_fewer_bits : (mode after : Mode) (one : Bool) (run len bits next fed n : ℕ)
    → DecoderHolds mode one run len bits next fed → run ≡ 0 → n ≤ len →
    DecoderHolds after one run (len - n) (bits / 2 ^ n) 1 fed
decoder_holds_fewer_bits mode after one run len bits next fed n h e k =
    let counted : run + len ≤ fed = h.counted in
    let short : len ≤ 50 = h.short in
    subst (λ r. DecoderHolds after one r (len - n) (bits / 2 ^ n) 1 fed) (sym e)
    (decoder_holds_bits after one (len - n) (bits / 2 ^ n) fed (decoder_bits_shifted_lt n len bits k h.whole)
    (omega arith) (omega arith))

-- ---- the end of a run

not_true : (b : Bool) → true ≢ b → b ≡ false
not_true true h = absurd (h refl)
not_true false h = refl

not_false : (b : Bool) → false ≢ b → b ≡ true
not_false true h = refl
not_false false h = absurd (h refl)

bits_after : (len bits : ℕ) (b : Bool) (more : List Bool) → 0 < len → (bits % 2 == 1) ≡ b →
    low_bits len bits ++ more ≡ b ∷ (low_bits (len - 1) (bits / 2) ++ more)
bits_after len bits b more h e = ap (λ x. x ++ more) (decoder_bits_next len bits h)
    ∙ ap (λ x. x ∷ (low_bits (len - 1) (bits / 2) ++ more)) e

-- a held run of fifty ones or more, ended by a zero, is a line reset of its length
pub decoder_reset_ended : (mode : Mode) (one : Bool) (run len bits : ℕ) → one ≡ true → 50 ≤ run → 0 < len
    → one ≢ (bits % 2 == 1) → (more : List Bool) →
    reading mode (replicate run one ++ (low_bits len bits ++ more)) ≡ Reset run ∷ reading AfterReset
    (low_bits len bits ++ more)
decoder_reset_ended mode false run len bits o h k n more = absurd cc
decoder_reset_ended mode true run len bits o h k n more =
    let e = bits_after len bits false more k (not_true _ n) in
    ap (λ x. reading mode (replicate run true ++ x)) e ∙ reset_item_before_zero mode run _ h
    ∙ ap (λ x. Reset run ∷ reading AfterReset x) (sym e)

-- a held run of fifty ones or more, at the end of a trace, is a line reset of its length
pub decoder_reset_at_end : (mode : Mode) (one : Bool) (run len bits : ℕ) → one ≡ true → 50 ≤ run → len ≡ 0 →
    reading mode (replicate run one ++ (low_bits len bits ++ [])) ≡ Reset run ∷ reading AfterReset
    (low_bits len bits ++ [])
decoder_reset_at_end mode one run len bits o h k =
    let e : low_bits len bits ++ [] ≡ [] = ap (λ x. x ++ []) (decoder_bits_none len bits k) in
    ap (λ x. reading mode (replicate run one ++ x)) e ∙ ap (reading mode) (append-nil (replicate run one))
    ∙ ap (λ b. reading mode (replicate run b)) o
    ∙ reset_item_at_end mode run h ∙ ap (λ x. Reset run ∷ x) (sym (reading_no_item AfterReset))
    ∙ ap (λ x. Reset run ∷ reading AfterReset x) (sym e)

-- in mode synced, a held run of zeros, ended by a one, is an item of that many idle cycles
pub decoder_idle_ended : (mode : Mode) (one : Bool) (run len bits : ℕ) → mode ≡ Synced → one ≡ false → 0 < run → 0 < len
    → one ≢ (bits % 2 == 1) → (more : List Bool) →
    reading mode (replicate run one ++ (low_bits len bits ++ more)) ≡ Idle run ∷ reading mode
    (low_bits len bits ++ more)
decoder_idle_ended mode true run len bits m o h k n more = absurd cc
decoder_idle_ended mode false run len bits m o h k n more =
    let e = bits_after len bits true more k (not_false _ n) in
    ap (λ d. reading d (replicate run false ++ (low_bits len bits ++ more))) m
    ∙ ap (λ x. reading Synced (replicate run false ++ x)) e ∙ idle_item_before_one run _ h
    ∙ ap (λ x. Idle run ∷ reading Synced x) (sym e)
    ∙ ap (λ d. Idle run ∷ reading d (low_bits len bits ++ more)) (sym m)

-- in mode synced, a held run of zeros, at the end of a trace, is an item of that many idle cycles
pub decoder_idle_at_end : (mode : Mode) (one : Bool) (run len bits : ℕ) → mode ≡ Synced → one ≡ false → 0 < run
    → len ≡ 0 → reading mode (replicate run one ++ (low_bits len bits ++ [])) ≡ Idle run
    ∷ reading mode (low_bits len bits ++ [])
decoder_idle_at_end mode one run len bits m o h k =
    let e : low_bits len bits ++ [] ≡ [] = ap (λ x. x ++ []) (decoder_bits_none len bits k) in
    ap (λ x. reading mode (replicate run one ++ x)) e ∙ ap (reading mode) (append-nil (replicate run one))
    ∙ ap (λ b. reading mode (replicate run b)) o
    ∙ ap (λ d. reading d (replicate run false)) m
    ∙ idle_item_at_end run h ∙ ap (λ x. Idle run ∷ x) (sym (reading_no_item mode)) ∙ ap (λ x. Idle run ∷ reading mode x)
    (sym e)

-- ---- a run and bits

-- ones in front of the bits, as a number
abbrev pub decoder_unpacked_run : ℕ → ℕ → ℕ
decoder_unpacked_run run bits = bit_or (bits * 2 ^ run % 2 ^ 64) (1 * 2 ^ run % 2 ^ 64 - 1)

ones_lt : (run : ℕ) → run < 64 → 1 * 2 ^ run % 2 ^ 64 - 1 < 2 ^ run
ones_lt run h = let e = one_shl run 64 h in let p = pow_pos run in omega arith

pub decoder_unpacked_lt : (run len bits : ℕ) → bits < 2 ^ len → len + run ≤ 63
    → decoder_unpacked_run run bits < 2 ^ (len + run)
decoder_unpacked_lt run len bits h k =
    let e : run + len ≡ len + run = omega arith in
    subst (λ n. decoder_unpacked_run run bits < 2 ^ n) e
    (low_bits_join_lt run len bits (1 * 2 ^ run % 2 ^ 64 - 1) h (ones_lt run (omega arith)) (omega arith))

pub decoder_unpacked_bits : (run len bits : ℕ) → bits < 2 ^ len → len + run ≤ 63
    → low_bits (len + run) (decoder_unpacked_run run bits) ≡ replicate run true ++ low_bits len bits
decoder_unpacked_bits run len bits h k =
    let e : len + run ≡ run + len = omega arith in
    ap (λ n. low_bits n (decoder_unpacked_run run bits)) e
    ∙ low_bits-join run len bits (1 * 2 ^ run % 2 ^ 64 - 1) h (ones_lt run (omega arith)) (omega arith)
    ∙ ap (λ x. x ++ low_bits len bits) (ap (λ x. low_bits run (x - 1)) (one_shl run 64 (omega arith)) ∙
    decoder_bits_low_ones run)

-- the invariant of a decoder holds after a run of fewer than fifty ones is held as bits
pub decoder_holds_unpacked : (mode : Mode) (one : Bool) (run len bits next fed : ℕ)
    → DecoderHolds mode one run len bits next fed → 0 < run → run < 50 →
    DecoderHolds mode one 0 (len + run) (decoder_unpacked_run run bits) next fed
decoder_holds_unpacked mode one run len bits next fed h p k =
    let counted : run + len ≤ fed = h.counted in
    let one_bit : len ≤ 1 = (h.ran p).1 in
    subst (λ n. DecoderHolds mode one 0 (len + run) (decoder_unpacked_run run bits) n fed) (sym (h.ran p).0)
    (decoder_holds_bits mode one (len + run) (decoder_unpacked_run run bits) fed
    (decoder_unpacked_lt run len bits h.whole (omega arith)) (omega arith) (omega arith))

-- a run of fewer than fifty ones, held as bits, is read as before
pub decoder_unpacked_reading : (mode : Mode) (one : Bool) (run len bits next fed : ℕ)
    → DecoderHolds mode one run len bits next fed → 0 < run → run < 50 → one ≡ true → (more : List Bool) →
    reading mode (replicate run one ++ (low_bits len bits ++ more)) ≡ reading mode
    (low_bits (len + run) (decoder_unpacked_run run bits) ++ more)
decoder_unpacked_reading mode one run len bits next fed h p k o more =
    let one_bit : len ≤ 1 = (h.ran p).1 in
    ap (λ b. reading mode (replicate run b ++ (low_bits len bits ++ more))) o
    ∙ ap (reading mode) (sym (append_assoc (replicate run true) (low_bits len bits) more)
    ∙ ap (λ x. x ++ more) (sym (decoder_unpacked_bits run len bits h.whole (omega arith))))

-- the bits become a run
pub decoder_packed_reading : (mode : Mode) (one bit : Bool) (run len bits count : ℕ) → run ≡ 0 → count ≡ len
    → low_bits len bits ≡ replicate len bit → (more : List Bool) →
    reading mode (replicate run one ++ (low_bits len bits ++ more)) ≡ reading mode
    (replicate count bit ++ (low_bits 0 0 ++ more))
decoder_packed_reading mode one bit run len bits count e f g more =
    ap (λ r. reading mode (replicate r one ++ (low_bits len bits ++ more))) e ∙ ap (λ x. reading mode (x ++ more)) g
    ∙ ap (λ n. reading mode (replicate n bit ++ more)) (sym f)
    ∙ ap (λ x. reading mode (replicate count bit ++ (x ++ more))) (sym (decoder_bits_none 0 0 refl))

-- ---- steps one after the other

-- what a decoder decides after a step that changed neither its reading, its places nor its fed bits, it
-- decides from before that step, too
pub decoder_decides_after_step : (old mid new : Decoder) (result : Option Item) → DecidesItem mid new result
    → ((more : List Bool) → decoder_rest old more ≡ decoder_rest mid more) → decoder_places mid ≡ decoder_places old →
    decoder_fed mid ≡ decoder_fed old → DecidesItem old new result
decoder_decides_after_step old mid new (Some item) g l p f =
    record { law = λ more. l more ∙ g.law more; fewer = subst (λ n. decoder_places new < n) p g.fewer; fed = g.fed ∙ f }
decoder_decides_after_step old mid new None g l p f = record {
  law = λ more. l more ∙ g.law more;
  open_end = g.open_end;
  settled = g.settled;
  places = subst (λ n. decoder_places new ≤ n) p g.places;
  fed = g.fed ∙ f;
}

-- ---- what nothing more comes from

-- a decoder at which no item is due holds nothing that decides an item
pub decoder_settled_undecided : (d : Decoder) → IsDecoderSettled d → DecidesNoItem (decoder_rest d)
decoder_settled_undecided d s = elim (cases_lt 0 d.run) [
  | inl p ↦
      let last : d.next ≡ 1 = (d.holds.ran p).0 in
      let none : d.len ≡ 0 = omega arith in
      same_readings_decide_no_item (λ more. reading d.mode (replicate d.run d.one ++ more)) (decoder_rest d)
      (λ more. ap (λ x. reading d.mode (replicate d.run d.one ++ (x ++ more)))
      (sym (decoder_bits_none d.len d.bits none))) (run_undecided d.mode d.one d.run p (d.holds.idle p))
  | inr q ↦
      let none : d.run ≡ 0 = omega arith in
      let settled : d.len < d.next = s in
      same_readings_decide_no_item (λ more. reading d.mode (low_bits d.len d.bits ++ more)) (decoder_rest d)
      (λ more. ap (λ r. reading d.mode (replicate r d.one ++ (low_bits d.len d.bits ++ more))) (sym none))
      (d.holds.quiet none [] (omega arith))
]
  where
    run_undecided : (mode : Mode) (one : Bool) (run : ℕ) → 0 < run → (one ≡ false → mode ≡ Synced)
        → DecidesNoItem (λ more. reading mode (replicate run one ++ more))
    run_undecided mode true run p i = reset_item_undecided mode run p
    run_undecided mode false run p i =
        same_readings_decide_no_item (λ more. reading Synced (replicate run false ++ more))
        (λ more. reading mode (replicate run false ++ more))
        (λ more. ap (λ m. reading m (replicate run false ++ more)) (sym (i refl))) (idle_item_undecided run p)
