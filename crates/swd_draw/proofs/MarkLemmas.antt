-- Laws of the pieces of a drawing.
use Rattle.std.proofs.Common.{◌≡◌, ℕ, ◌+◌, ◌-◌, ◌/◌, ◌%◌, ◌<◌, ◌≤◌, List, ◌∷◌, ◌++◌, sym, ap, ◌∙◌, add-one}
use Rattle.std.proofs.Common.{append_assoc, arith}
use Rattle.std.specs.Prelude.{◌==◌}
use Rattle.std.proofs.lemmas.List.{append-nil}
use Rattle.swd_bits.specs.Bits.{low_bits}
use Rattle.swd_trace.proofs.NumberLemmas.{decoder_bits_next, decoder_bits_none}
use Rattle.swd_draw.specs.Marks.{level_piece, times, wave}

-- nothing is repeated 0 times
pub svg_times_none : (old piece : List ℕ) → old ++ times 0 piece ≡ old
unfolding times
svg_times_none old piece = append-nil old

-- one piece more
pub svg_times_more : (old piece : List ℕ) (n : ℕ) → (old ++ times n piece) ++ piece ≡ old ++ times (n + 1) piece
unfolding times
svg_times_more old piece n = append_assoc old (times n piece) piece ∙ ap (λ k. old ++ times k piece) (sym (add-one n))

-- one bit more is drawn, and one fewer is left
pub svg_wave_more : (old new all : List ℕ) (len at v : ℕ) → at < len → new ≡ old ++ level_piece (v % 2 == 1) →
    old ++ wave (low_bits (len - at) v) ≡ all → new ++ wave (low_bits (len - (at + 1)) (v / 2)) ≡ all
unfolding wave
svg_wave_more old new all len at v h e k =
    let less : len - at - 1 ≡ len - (at + 1) = omega arith in
    let front : low_bits (len - at) v ≡ (v % 2 == 1) ∷ low_bits (len - (at + 1)) (v / 2) =
    decoder_bits_next (len - at) v (omega arith) ∙ ap (λ n. (v % 2 == 1) ∷ low_bits n (v / 2)) less in
    ap (λ x. x ++ wave (low_bits (len - (at + 1)) (v / 2))) e
    ∙ append_assoc old (level_piece (v % 2 == 1)) (wave (low_bits (len - (at + 1)) (v / 2)))
    ∙ ap (λ x. old ++ wave x) (sym front) ∙ k

-- where no bit is left, the whole wave is written
pub svg_wave_done : (text all : List ℕ) (len at v : ℕ) → len ≤ at → text ++ wave (low_bits (len - at) v) ≡ all
    → text ≡ all
unfolding wave
svg_wave_done text all len at v h k =
    let none : len - at ≡ 0 = omega arith in
    sym (append-nil text) ∙ ap (λ x. text ++ wave x) (sym (decoder_bits_none (len - at) v none)) ∙ k
