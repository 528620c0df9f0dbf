use Rattle.std.proofs.Common.{◌≡◌, ℕ, ◌<◌, ◌≤◌, true, get_or, List, take, length, map, refl, sym, ap, ◌∙◌, subst, arith}
use Rattle.std.specs.Prelude.{◌==◌}
use Rattle.std.specs.Simd.Lanes.{mask_l, chunk}
use Rattle.std.proofs.lemmas.List.{get_or-take, take-take}
use Rattle.std.proofs.lemmas.Simd.{length-chunk}
use lib.Count.{count_trailing_zeros, trailing_le}
use Rattle.swd_bits.specs.Bits.{low_bits}
use Rattle.swd_trace.specs.Texts.{trace_digit}
use Rattle.swd_text.specs.Digits.{is_not_text_digit}
use Rattle.swd_text.proofs.DigitLemmas.{text_digits_front, text_digits_in_front, text_digits_stop_at_other}
use Rattle.swd_text.proofs.digits.digits_of.Goals as goal

-- of the first 64 bytes, so of the text
found : (text : List ℕ) (ones others n : ℕ) → 64 ≤ length text
    → ones ≡ mask_l (map (λ byte. byte == 49) (chunk 0 64 text))
    → others ≡ mask_l (map is_not_text_digit (chunk 0 64 text)) → n ≤ count_trailing_zeros 64 others
    → take n text ≡ map trace_digit (low_bits n ones)
found text ones others n long e f h =
    let few : n ≤ 64 = omega (arith, trailing_le 64 others) in
    let all : length (chunk 0 64 text) ≡ 64 = length-chunk 0 64 text long in
    let within = subst (λ m. n ≤ count_trailing_zeros 64 m) f h in
    sym (take-take n 64 text few) ∙ text_digits_front (chunk 0 64 text) n
    (omega (arith, text_digits_in_front (chunk 0 64 text) all, within))
    ∙ ap (λ m. map trace_digit (low_bits n m)) (sym e)

pub returns-clause-bits : goal.returns-clause-bits
returns-clause-bits c = λ n h. found c.args.text.now c.ones.result c.others.result n c.requires c.ones.ensures
    c.others.ensures h

-- the byte behind them
ended : (text : List ℕ) (others k : ℕ) → 64 ≤ length text → others ≡ mask_l (map is_not_text_digit (chunk 0 64 text))
    → k ≡ count_trailing_zeros 64 others → k < 64 → is_not_text_digit (get_or text k 0) ≡ true
ended text others k long f e less =
    let all : length (chunk 0 64 text) ≡ 64 = length-chunk 0 64 text long in
    let same : k ≡ count_trailing_zeros 64 (mask_l (map is_not_text_digit (chunk 0 64 text))) =
    e ∙ ap (count_trailing_zeros 64) f in
    ap is_not_text_digit (sym (get_or-take 64 text k 0 less)) ∙ text_digits_stop_at_other (chunk 0 64 text) k all same
    less

pub returns-clause-ends : goal.returns-clause-ends
returns-clause-ends c = λ less.
    ended c.args.text.now c.others.result _ c.requires c.others.ensures refl less
