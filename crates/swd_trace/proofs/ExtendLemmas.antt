-- Laws of a run that is held and goes on.
use Rattle.std.proofs.Common.{◌≡◌, ℕ, zero, suc, ◌+◌, ◌-◌, ◌*◌, ◌%◌, ◌^◌, ◌<◌, Bool, true, false, List, [], ◌∷◌, ◌++◌}
use Rattle.std.proofs.Common.{length, replicate, append_assoc, refl, sym, ap, ◌∙◌, arith}
use Rattle.std.proofs.lemmas.List.{length-append, length-replicate, replicate-append-replicate, append-nil}
use Rattle.std.proofs.lemmas.Nat.{one_shl, pow_pos}
use Rattle.swd_bits.specs.Bits.{low_bits}
use Rattle.swd_bits.proofs.BitsLemmas.{length-low_bits, low_bits_injective}
use Rattle.swd_trace.specs.declared.item.Item.TheVariants.{Junk}
use Rattle.swd_trace.specs.declared.mode.Mode.{Mode}
use Rattle.swd_trace.specs.declared.mode.Mode.TheVariants.{Synced, AfterReset, AfterSwitch, Lost}
use Rattle.swd_trace.specs.declared.decoder.Decoder.{Decoder}
use Rattle.swd_trace.specs.Reading.{reading}
use Rattle.swd_trace.specs.Decided.{DecidesNoItem}
use Rattle.swd_trace.specs.Held.{decoder_held, decoder_rest, IsDecoderSettled}
use Rattle.swd_trace.proofs.NumberLemmas.{decoder_bits_none, decoder_bits_low_ones, decoder_bits_low_zeros}
use Rattle.swd_trace.proofs.ReadingLemmas.{no_switch_item_synced, junk_item_first}
use Rattle.swd_trace.proofs.HoldingLemmas.{same_readings_decide_no_item}
use Rattle.swd_trace.proofs.HeldLemmas.{decoder_settled_undecided}

-- ---- whether a run is held

alone : (one : Bool) (run len bits : ℕ) → len ≡ 0 → replicate run one ++ low_bits len bits ≡ replicate run one
alone one run len bits e = ap (λ x. replicate run one ++ x) (decoder_bits_none len bits e) ∙ append-nil
    (replicate run one)

-- a held run with nothing after it is a run of its bit
pub decoder_held_run : (one bit : Bool) (run len bits : ℕ) → 0 < run → len ≡ 0 → one ≡ bit
    → (n : ℕ) × (0 < n) × (replicate run one ++ low_bits len bits ≡ replicate n bit)
decoder_held_run one bit run len bits p e o = (run, p, alone one run len bits e ∙ ap (replicate run) o)

-- held bits without a run before them, all of one value, are a run of that value
pub decoder_bits_are_run : (one bit : Bool) (run len bits : ℕ) → run ≡ 0 → 0 < len
    → low_bits len bits ≡ replicate len bit
    → (n : ℕ) × (0 < n) × (replicate run one ++ low_bits len bits ≡ replicate n bit)
decoder_bits_are_run one bit run len bits r p e = (len, p, ap (λ m. replicate m one ++ low_bits len bits) r ∙ e)

same_number : (len v w : ℕ) (bit : Bool) (n : ℕ) → v < 2 ^ len → w < 2 ^ len → low_bits len w ≡ replicate len bit
    → low_bits len v ≡ replicate n bit → v ≡ w
same_number len v w bit n h k e f =
    let l : n ≡ len = sym (length-replicate n bit) ∙ ap length (sym f) ∙ length-low_bits len v in
    low_bits_injective len v w h k (f ∙ ap (λ m. replicate m bit) l ∙ sym e)

-- held bits whose number isn't that of ones alone aren't a run of ones
pub decoder_run_not_ones : (one : Bool) (run len bits : ℕ) → run ≡ 0 → len < 64 → bits < 2 ^ len
    → (bits ≡ 1 * 2 ^ len % 2 ^ 64 - 1 → ⊥) → (n : ℕ) → 0 < n →
    replicate run one ++ low_bits len bits ≡ replicate n true → ⊥
decoder_run_not_ones one run len bits r k h d n p e =
    let shl : 1 * 2 ^ len % 2 ^ 64 ≡ 2 ^ len = one_shl len 64 k in
    let pos : 0 < 2 ^ len = pow_pos len in
    d (same_number len bits (2 ^ len - 1) true n h (omega arith) (decoder_bits_low_ones len)
    (ap (λ m. replicate m one ++ low_bits len bits) (sym r) ∙ e) ∙ ap (λ x. x - 1) (sym shl))

-- held bits whose number isn't 0 aren't a run of zeros
pub decoder_run_not_zeros : (one : Bool) (run len bits : ℕ) → run ≡ 0 → bits < 2 ^ len → (bits ≡ 0 → ⊥) → (n : ℕ)
    → 0 < n → replicate run one ++ low_bits len bits ≡ replicate n false → ⊥
decoder_run_not_zeros one run len bits r h d n p e =
    d (same_number len bits 0 false n h (pow_pos len) (decoder_bits_low_zeros len)
    (ap (λ m. replicate m one ++ low_bits len bits) (sym r) ∙ e))

-- where nothing is held, the held bits aren't a run of either value
pub decoder_holds_no_run : (one bit : Bool) (run len bits : ℕ) → run ≡ 0 → len ≡ 0 → (n : ℕ) → 0 < n
    → replicate run one ++ low_bits len bits ≡ replicate n bit → ⊥
decoder_holds_no_run one bit run len bits r e n p f =
    let none : replicate run one ++ low_bits len bits ≡ [] = ap (λ m. replicate m one ++ low_bits len bits) r
    ∙ decoder_bits_none len bits e in
    let l : n ≡ 0 = sym (length-replicate n bit) ∙ ap length (sym f ∙ none) in
    omega arith

-- ---- a run that goes on

goes_on : (mode : Mode) (one bit : Bool) (run len bits n count : ℕ)
    → replicate run one ++ low_bits len bits ≡ replicate n bit → (more : List Bool) →
    reading mode (replicate run one ++ (low_bits len bits ++ (replicate count bit ++ more))) ≡ reading mode
    (replicate (n + count) bit ++ more)
goes_on mode one bit run len bits n count e more =
    ap (reading mode) (sym (append_assoc (replicate run one) (low_bits len bits) (replicate count bit ++ more))
    ∙ ap (λ x. x ++ (replicate count bit ++ more)) e
    ∙ sym (append_assoc (replicate n bit) (replicate count bit) more)
    ∙ ap (λ x. x ++ more) (replicate-append-replicate n count bit))

whole_run : (one bit : Bool) (run len bits n : ℕ) → replicate run one ++ low_bits len bits ≡ replicate n bit
    → n ≡ run + len
whole_run one bit run len bits n e =
    sym (length-replicate n bit) ∙ ap length (sym e) ∙ length-append (replicate run one) (low_bits len bits)
    ∙ ap (λ m. m + length (low_bits len bits)) (length-replicate run one) ∙ ap (λ m. run + m) (length-low_bits len bits)

new_run : (mode : Mode) (bit : Bool) (m : ℕ) (more : List Bool)
    → reading mode (replicate m bit ++ more) ≡ reading mode (replicate m bit ++ (low_bits 0 0 ++ more))
new_run mode bit m more = ap (λ x. reading mode (replicate m bit ++ (x ++ more))) (sym (decoder_bits_none 0 0 refl))

-- held bits that are a run, and more bits of the same value, are read as one longer run in the same mode
pub decoder_run_extended : (mode : Mode) (one bit : Bool) (run len bits n count : ℕ)
    → replicate run one ++ low_bits len bits ≡ replicate n bit → (more : List Bool) →
    reading mode (replicate (run + (len + count)) bit ++ (low_bits 0 0 ++ more)) ≡ reading mode
    (replicate run one ++ (low_bits len bits ++ (replicate count bit ++ more)))
decoder_run_extended mode one bit run len bits n count e more =
    let l = whole_run one bit run len bits n e in
    let m : run + (len + count) ≡ n + count = omega arith in
    sym (new_run mode bit (run + (len + count)) more) ∙ ap (λ k. reading mode (replicate k bit ++ more)) m
    ∙ sym (goes_on mode one bit run len bits n count e more)

-- zeros, and one more: no switch
more_zeros : (mode : Mode) (n m : ℕ) → 0 < m → DecidesNoItem (λ more. reading mode (replicate n false ++ more)) → 0 < n
    → (more : List Bool) →
    reading Synced (replicate (n + m) false ++ more) ≡ reading mode (replicate (n + m) false ++ more)
more_zeros Synced n m h u p more = refl
more_zeros AfterReset zero m h u p more = absurd (omega arith)
more_zeros AfterReset (suc n) zero h u p more = absurd (omega arith)
more_zeros AfterReset (suc n) (suc m) h u p more =
    let e : suc n + suc m ≡ suc (suc (n + m)) = omega arith in
    ap (λ k. reading Synced (replicate k false ++ more)) e
    ∙ sym (no_switch_item_synced (false ∷ false ∷ (replicate (n + m) false ++ more)) refl)
    ∙ ap (λ k. reading AfterReset (replicate k false ++ more)) (sym e)
more_zeros AfterSwitch zero m h u p more = absurd (omega arith)
more_zeros AfterSwitch (suc n) m h u p more =
    absurd (u (Junk false) (λ more c.
    (reading Lost (replicate n false ++ more), junk_item_first AfterSwitch false (replicate n false ++ more) refl)))
more_zeros Lost zero m h u p more = absurd (omega arith)
more_zeros Lost (suc n) m h u p more =
    absurd (u (Junk false) (λ more c.
    (reading Lost (replicate n false ++ more), junk_item_first Lost false (replicate n false ++ more) refl)))

-- zeros that a settled decoder holds, and at least one more, are read as one longer run in mode synced
pub decoder_idle_run_extended : (d : Decoder) (n count : ℕ) → IsDecoderSettled d → 0 < n → 0 < count
    → decoder_held d ≡ replicate n false → (more : List Bool) →
    reading Synced (replicate (d.run + (d.len + count)) false ++ (low_bits 0 0 ++ more)) ≡ decoder_rest d
    (replicate count false ++ more)
decoder_idle_run_extended d n count s p q e more =
    let l = whole_run d.one false d.run d.len d.bits n e in
    let m : d.run + (d.len + count) ≡ n + count = omega arith in
    let open_zeros : DecidesNoItem (λ after. reading d.mode (replicate n false ++ after)) =
    same_readings_decide_no_item (decoder_rest d) (λ after. reading d.mode (replicate n false ++ after))
    (λ after. ap (reading d.mode)
    (sym (append_assoc (replicate d.run d.one) (low_bits d.len d.bits) after) ∙ ap (λ x. x ++ after) e))
    (decoder_settled_undecided d s) in
    sym (new_run Synced false (d.run + (d.len + count)) more) ∙ ap (λ k. reading Synced (replicate k false ++ more)) m
    ∙ more_zeros d.mode n count q open_zeros p more ∙ sym (goes_on d.mode d.one false d.run d.len d.bits n count e more)
