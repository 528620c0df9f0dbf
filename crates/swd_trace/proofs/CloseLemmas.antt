-- Laws of the end of a trace.
use Rattle.std.proofs.Common.{◌≡◌, ℕ, zero, suc, ◌+◌, ◌-◌, ◌*◌, ◌/◌, ◌%◌, ◌^◌, ◌<◌, ◌≤◌, Bool, true, false, List, []}
use Rattle.std.proofs.Common.{◌∷◌, ◌++◌, length, replicate, refl, sym, ap, ◌∙◌, subst, arith}
use Rattle.std.specs.Prelude.{◌==◌}
use Rattle.std.proofs.lemmas.List.{append-nil}
use Rattle.std.proofs.lemmas.Nat.{one_shl, pow_pos}
use Rattle.swd_bits.specs.Bits.{low_bits, bits_number}
use Rattle.swd_bits.proofs.BitsLemmas.{length-low_bits, number-low_bits}
use Rattle.swd_trace.specs.declared.item.Item.{Item}
use Rattle.swd_trace.specs.declared.item.Item.TheVariants.{Idle, Junk, Cut}
use Rattle.swd_trace.specs.declared.mode.Mode.{Mode}
use Rattle.swd_trace.specs.declared.mode.Mode.TheVariants.{Synced, AfterReset, AfterSwitch, Lost}
use Rattle.swd_trace.specs.Reading.{switch_item, reading}
use Rattle.swd_trace.specs.Holding.{DecoderHolds}
use Rattle.swd_trace.specs.Held.{IsCutTraceEnd, IsTraceOpenAt}
use Rattle.swd_trace.proofs.NumberLemmas.{decoder_bits_next, decoder_bits_none, decoder_bits_low_ones}
use Rattle.swd_trace.proofs.ReadingLemmas.{idle_item_before_one, idle_item_at_end, junk_item_first, junk_item_of_ones}
use Rattle.swd_trace.proofs.ReadingLemmas.{cut_item_alone, cut_item_of_ones, cut_item_ones_after_switch}
use Rattle.swd_trace.proofs.ReadingLemmas.{cut_item_ones_after_reset, no_switch_item_synced, reading_no_item}
use Rattle.swd_trace.proofs.DecidedLemmas.{switch_item_needs_16_bits}
use Rattle.swd_trace.proofs.HoldingLemmas.{decoder_holds_bits}

-- a shorter run
pub decoder_holds_shorter_run : (mode : Mode) (one : Bool) (run len bits next fed : ℕ)
    → DecoderHolds mode one run len bits next fed → 0 < run → DecoderHolds mode one (run - 1) len bits next fed
decoder_holds_shorter_run mode one run len bits next fed h p =
    let counted : run + len ≤ fed = h.counted in
    let last : next ≡ 1 = (h.ran p).0 in
    record {
      whole = h.whole;
      short = h.short;
      stage = h.stage;
      counted = omega arith;
      ran = λ q. h.ran p;
      ends = λ q. h.ends p;
      idle = λ q. h.idle p;
      quiet = λ e more k.
          let fresh : DecoderHolds mode one 0 len bits 1 fed = decoder_holds_bits mode one len bits fed h.whole h.short
          (omega arith) in
          fresh.quiet refl more (omega arith);
    }

-- nothing is held
pub trace_end_no_item : (mode : Mode) (one : Bool) (run len bits : ℕ) → run ≡ 0 → len ≡ 0
    → reading mode (replicate run one ++ (low_bits len bits ++ [])) ≡ []
trace_end_no_item mode one run len bits e f =
    ap (λ r. reading mode (replicate r one ++ (low_bits len bits ++ []))) e
    ∙ ap (λ x. reading mode (x ++ [])) (decoder_bits_none len bits f) ∙ reading_no_item mode

run_alone : (mode : Mode) (one : Bool) (run len bits : ℕ) → len ≡ 0 → one ≡ true
    → reading mode (replicate run one ++ (low_bits len bits ++ [])) ≡ reading mode (replicate run true)
run_alone mode one run len bits e o =
    ap (λ b. reading mode (replicate run b ++ (low_bits len bits ++ []))) o
    ∙ ap (λ x. reading mode (replicate run true ++ (x ++ []))) (decoder_bits_none len bits e)
    ∙ ap (reading mode) (append-nil (replicate run true))

-- fewer than fifty ones, in mode lost
pub trace_end_lost_ones_junk : (mode : Mode) (one : Bool) (run len bits : ℕ) → mode ≡ Lost → one ≡ true → 0 < run
    → run < 50 → len ≡ 0 → reading mode (replicate run one ++ (low_bits len bits ++ [])) ≡ Junk true ∷ reading mode
    (replicate (run - 1) one ++ (low_bits len bits ++ []))
trace_end_lost_ones_junk mode one zero len bits m o p k e = absurd (omega arith)
trace_end_lost_ones_junk mode one (suc run) len bits m o p k e =
    let less : run ≡ suc run - 1 = omega arith in
    run_alone mode one (suc run) len bits e o ∙ ap (λ d. reading d (replicate (suc run) true)) m
    ∙ junk_item_first Lost true (replicate run true) (junk_item_of_ones run k)
    ∙ ap (λ d. Junk true ∷ reading d (replicate run true)) (sym m)
    ∙ ap (λ x. Junk true ∷ x) (sym (run_alone mode one run len bits e o))
    ∙ ap (λ n. Junk true ∷ reading mode (replicate n one ++ (low_bits len bits ++ []))) less

abbrev cut_of : ℕ → ℕ → Item
cut_of len bits = Cut (record { len = len; bits = bits })

-- as an item, in any other mode
pub trace_end_cut_item : (mode : Mode) (bits : List Bool) → IsCutTraceEnd mode bits
    → reading mode bits ≡ cut_of (length bits) (bits_number bits) ∷ []
trace_end_cut_item mode [] h = absurd h
trace_end_cut_item mode (b ∷ bits) h = cut_item_alone mode b bits h

ones_cut : (mode : Mode) (n : ℕ) → (mode ≡ Lost → ⊥) → suc n < 50 → IsCutTraceEnd mode (replicate (suc n) true)
ones_cut Synced n m k = cut_item_of_ones n k
ones_cut AfterReset n m k = cut_item_ones_after_reset n k
ones_cut AfterSwitch n m k = cut_item_ones_after_switch n k
ones_cut Lost n m k = absurd (m refl)

cut_bits : (n v : ℕ) → v < 2 ^ n → cut_of (length (low_bits n v)) (bits_number (low_bits n v)) ≡ cut_of n v
cut_bits n v h = ap (λ l. cut_of l (bits_number (low_bits n v))) (length-low_bits n v)
    ∙ ap (cut_of n) (number-low_bits n v h)

-- at the end of a trace, a held run of fewer than fifty ones is cut, in any mode but lost
pub trace_end_run_cut : (mode : Mode) (one : Bool) (run len bits : ℕ) → (mode ≡ Lost → ⊥) → one ≡ true → 0 < run
    → run < 50 → len ≡ 0 →
    reading mode (replicate run one ++ (low_bits len bits ++ [])) ≡ cut_of run (1 * 2 ^ run % 2 ^ 64 - 1) ∷ reading mode
    (replicate 0 one ++ (low_bits len bits ++ []))
trace_end_run_cut mode one zero len bits m o p k e = absurd (omega arith)
trace_end_run_cut mode one (suc n) len bits m o p k e =
    let shl : 1 * 2 ^ suc n % 2 ^ 64 ≡ 2 ^ suc n = one_shl (suc n) 64 (omega arith) in
    let pos : 0 < 2 ^ suc n = pow_pos (suc n) in
    let same : replicate (suc n) true ≡ low_bits (suc n) (2 ^ suc n - 1) = sym (decoder_bits_low_ones (suc n)) in
    let open_cut : IsCutTraceEnd mode (low_bits (suc n) (2 ^ suc n - 1)) =
    subst (IsCutTraceEnd mode) same (ones_cut mode n m k) in
    run_alone mode one (suc n) len bits e o ∙ ap (reading mode) same
    ∙ trace_end_cut_item mode (low_bits (suc n) (2 ^ suc n - 1)) open_cut
    ∙ ap (λ i. i ∷ []) (cut_bits (suc n) (2 ^ suc n - 1) (omega arith) ∙ ap (λ x. cut_of (suc n) (x - 1)) (sym shl))
    ∙ ap (λ x. cut_of (suc n) (1 * 2 ^ suc n % 2 ^ 64 - 1) ∷ x) (sym (trace_end_no_item mode one 0 len bits refl e))

-- the beginning of a switch
switch_cut : (l : List Bool) (back : List Bool) → switch_item ≡ l ++ back → length l < 16 → (l ≡ [] → ⊥)
    → (rest : List Bool) × (l ≡ false ∷ rest) × (reading AfterReset l ≡ Idle 1 ∷ reading Synced rest)
switch_cut [] back e k n = absurd (n refl)
switch_cut (true ∷ l) back e k n = absurd cc
switch_cut (false ∷ []) back e k n = (
  [],
  refl,
  no_switch_item_synced (false ∷ []) (switch_item_needs_16_bits (false ∷ []) k) ∙ idle_item_at_end 1 (omega arith)
      ∙ ap (λ x. Idle 1 ∷ x) (sym (reading_no_item Synced)),
)
switch_cut (false ∷ false ∷ l) back e k n = absurd cc
switch_cut (false ∷ true ∷ l) back e k n = (
  true ∷ l,
  refl,
  no_switch_item_synced (false ∷ true ∷ l) (switch_item_needs_16_bits (false ∷ true ∷ l) k) ∙
      idle_item_before_one 1 l (omega arith),
)

same_tail : (a b : Bool) (x y : List Bool) → a ∷ x ≡ b ∷ y → x ≡ y
same_tail a b x y e = cc

append_none : (bits : List Bool) → bits ++ [] ≡ bits
append_none [] = refl
append_none (b ∷ bits) = ap (λ x. b ∷ x) (append_none bits)

-- at the end of a trace, the held beginning of a switch is one idle cycle, and the rest of it is read in mode synced
pub trace_end_switch_idle : (mode : Mode) (one : Bool) (run len bits : ℕ) → mode ≡ AfterReset → run ≡ 0 → 0 < len
    → IsTraceOpenAt mode (low_bits len bits) →
    reading mode (replicate run one ++ (low_bits len bits ++ [])) ≡ Idle 1 ∷ reading Synced
    (replicate run one ++ (low_bits (len - 1) (bits / 2) ++ []))
trace_end_switch_idle mode one run len bits m e p open_end =
    let at : IsTraceOpenAt AfterReset (low_bits len bits) =
    subst (λ d. IsTraceOpenAt d (low_bits len bits)) m open_end in
    let l : length (low_bits len bits) ≡ len = length-low_bits len bits in
    let r = switch_cut (low_bits len bits) at.0 at.1 at.2
    (λ none. let z : length (low_bits len bits) ≡ 0 = ap length none in omega arith) in
    let tail : r.0 ≡ low_bits (len - 1) (bits / 2) = same_tail false (bits % 2 == 1) r.0 (low_bits (len - 1) (bits / 2))
    (sym r.1 ∙ decoder_bits_next len bits p) in
    ap (λ n. reading mode (replicate n one ++ (low_bits len bits ++ []))) e
    ∙ ap (reading mode) (append_none (low_bits len bits)) ∙ ap (λ d. reading d (low_bits len bits)) m
    ∙ r.2 ∙ ap (λ x. Idle 1 ∷ reading Synced x) (tail ∙ sym (append_none (low_bits (len - 1) (bits / 2))))
    ∙ ap (λ n. Idle 1 ∷ reading Synced (replicate n one ++ (low_bits (len - 1) (bits / 2) ++ []))) (sym e)

-- all other bits
open_cut : (mode : Mode) (bits : List Bool) → (mode ≡ AfterReset → ⊥) → IsTraceOpenAt mode bits
    → IsCutTraceEnd mode bits
open_cut Synced bits n h = h
open_cut AfterReset bits n h = absurd (n refl)
open_cut AfterSwitch bits n h = absurd h
open_cut Lost bits n h = absurd h

-- at the end of a trace, held bits that later bits might have completed are cut, in any mode but after a reset
pub trace_end_held_bits_cut : (mode : Mode) (one : Bool) (run len bits : ℕ) → (mode ≡ AfterReset → ⊥) → run ≡ 0
    → bits < 2 ^ len → IsTraceOpenAt mode (low_bits len bits) →
    reading mode (replicate run one ++ (low_bits len bits ++ [])) ≡ cut_of len bits ∷ reading mode
    (replicate run one ++ (low_bits 0 0 ++ []))
trace_end_held_bits_cut mode one run len bits m e h open_end =
    ap (λ n. reading mode (replicate n one ++ (low_bits len bits ++ []))) e
    ∙ ap (reading mode) (append_none (low_bits len bits))
    ∙ trace_end_cut_item mode (low_bits len bits) (open_cut mode (low_bits len bits) m open_end)
    ∙ ap (λ i. i ∷ []) (cut_bits len bits h)
    ∙ ap (λ x. cut_of len bits ∷ x) (sym (trace_end_no_item mode one run 0 0 e refl))
