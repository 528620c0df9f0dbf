use Rattle.std.proofs.Common.{◌≡◌, ℕ, ◌+◌, ◌-◌, ◌/◌, ◌<◌, ◌≤◌, List, ◌++◌, length, take, get_or, replicate}
use Rattle.std.proofs.Common.{sym, ap, ◌∙◌, arith, rules}
use Rattle.std.proofs.Math.Seq.{take-append-add, take-append_seam}
use Rattle.std.proofs.lemmas.List.{get_or-append-add, get_or-replicate, length-append, length-replicate, take-replicate}
use Rattle.std.specs.String.Boundary.{IsSplitPoint}
use Rattle.swd_capture.specs.Places.{capture_tens_prefix}
use Rattle.swd_capture.proofs.junk_line.Tens.push.Goals as goal

-- a text with spaces after it, cut off
cut : (t : List ℕ) → length t ≤ 20 → take 20 (t ++ replicate 20 32) ≡ t ++ replicate (20 - length t) 32
cut t h =
    let e : 20 ≡ length t + (20 - length t) = omega arith in
    ap (λ n. take n (t ++ replicate 20 32)) e ∙ take-append-add t (replicate 20 32) (20 - length t)
    ∙ ap (λ x. t ++ x) (take-replicate (20 - length t) 20 32 (omega arith))

-- what follows the text is a space
space : (t : List ℕ) (m n : ℕ) → n < m → get_or (t ++ replicate m 32) (length t + n) 0 ≡ 32
space t m n h = get_or-append-add t (replicate m 32) n 0 ∙ get_or-replicate m n 32 0 h

-- a place before spaces is the end of a character
boundary : (old t all : List ℕ) (m at : ℕ) → all ≡ old ++ (t ++ replicate m 32) → at ≡ length old + length t
    → IsSplitPoint all at
boundary old t all m at is end =
    let len : length all ≡ length old + (length t + m) = ap length is ∙ length-append old (t ++ replicate m 32)
    ∙ ap (λ n. length old + n) (length-append t (replicate m 32)
    ∙ ap (λ n. length t + n) (length-replicate m 32)) in (
      omega (arith, len, end),
      λ some more high.
          let zero : length t ≡ length t + 0 = omega arith in
          let blank : get_or all at 0 ≡ 32 =
          ap (λ x. get_or x at 0) is ∙ ap (λ n. get_or (old ++ (t ++ replicate m 32)) n 0) end
          ∙ get_or-append-add old (t ++ replicate m 32) (length t) 0
          ∙ ap (λ n. get_or (t ++ replicate m 32) n 0) zero ∙ space t m 0 (omega (arith, len, end, more)) in
          absurd (omega (arith, blank, high)),
    )

pub overflow_add-end : goal.overflow_add-end
overflow_add-end g c = omega (arith, g.N.fits, c.len.ensures.value, c.requires, c.args.self.now.short)

pub range-requires-clause-end_boundary : goal.range-requires-clause-end_boundary
range-requires-clause-end_boundary g c =
    let self = c.args.self.now in
    let t = capture_tens_prefix (self.start / 10) in
    let is = c.as_str.ensures.value ∙ self.holds in
    let len : length c.as_str.result.now ≡ length t + 20 = ap length is ∙ length-append t (replicate 20 32) in
    let few : length t ≤ 20 = omega (arith, self.counts, self.short) in (
      omega (arith, len),
      λ more high.
          let at : length t + (20 - length t) ≡ 20 = omega (arith, few) in
          let blank : get_or c.as_str.result.now 20 0 ≡ 32 =
          ap (λ x. get_or x 20 0) is ∙ ap (λ n. get_or (t ++ replicate 20 32) n 0) (sym at)
          ∙ space t 20 (20 - length t) (omega (arith, len, more)) in
          absurd (omega (arith, blank, high)),
    )

pub truncate-requires : goal.truncate-requires
truncate-requires g c =
    let self = c.args.self.now in
    let old = c.args.text.now.bytes in
    let t = capture_tens_prefix (self.start / 10) in
    let m = 20 - length t in
    let few : length t ≤ 20 = omega (arith, self.counts, self.short) in
    let all : c.push_str.new.self.bytes ≡ old ++ (t ++ replicate m 32) =
    c.push_str.ensures.bytes ∙ ap (λ x. old ++ x) (c.range.ensures.value
    ∙ ap (take 20) (c.as_str.ensures.value ∙ self.holds) ∙ cut t few) in
    let end : c.len.result + self.len ≡ length old + length t =
    ap (λ n. n + self.len) c.len.ensures.value ∙ ap (λ n. length old + n) self.counts in
    (search rules, λ _. boundary old t c.push_str.new.self.bytes m (c.len.result + self.len) all end)

pub returns-clause-bytes : goal.returns-clause-bytes
returns-clause-bytes g c =
    let self = c.args.self.now in
    let old = c.args.text.now.bytes in
    let t = capture_tens_prefix (self.start / 10) in
    let m = 20 - length t in
    let few : length t ≤ 20 = omega (arith, self.counts, self.short) in
    let range : c.range.result.now ≡ t ++ replicate m 32 =
    c.range.ensures.value ∙ ap (take 20) (c.as_str.ensures.value ∙ self.holds) ∙ cut t few in
    let end : c.len.result + self.len ≡ length old + length t =
    ap (λ n. n + self.len) c.len.ensures.value ∙ ap (λ n. length old + n) self.counts in
    c.truncate.ensures ∙ ap (λ n. take n c.push_str.new.self.bytes) end
    ∙ ap (take (length old + length t)) (c.push_str.ensures.bytes ∙ ap (λ x. old ++ x) range)
    ∙ take-append-add old (t ++ replicate m 32) (length t)
    ∙ ap (λ x. old ++ x) (take-append_seam t (replicate m 32))
