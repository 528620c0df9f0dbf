use Rattle.std.proofs.Common.{◌≡◌, ℕ, suc, ◌+◌, ◌-◌, ◌/◌, ◌%◌, ◌^◌, ◌<◌, List, [], ◌∷◌, ◌++◌, length, take, get_or}
use Rattle.std.proofs.Common.{replicate, sym, ap, ◌∙◌, append_assoc, arith, rules}
use Rattle.std.proofs.Math.Seq.{take-append_seam}
use Rattle.std.proofs.lemmas.List.{get_or-append-add, length-append}
use Rattle.std.specs.String.Boundary.{IsSplitPoint}
use Rattle.swd_capture.specs.Places.{capture_tens_prefix}
use Rattle.swd_capture.proofs.PlaceLemmas.{capture_tens_split}
use Rattle.swd_capture.proofs.junk_line.change_tens.Goals as goal

-- a text with spaces after it, split before its last digit
before_digit : (text : List ℕ) (n : ℕ) → 0 < n → n < 2 ^ 64 → text ≡ capture_tens_prefix n ++ replicate 20 32
    → text ≡ capture_tens_prefix (n / 10) ++ ((48 + n % 10) ∷ replicate 20 32)
before_digit text n some h is =
    is ∙ ap (λ x. x ++ replicate 20 32) (capture_tens_split n some h)
    ∙ append_assoc (capture_tens_prefix (n / 10)) ((48 + n % 10) ∷ []) (replicate 20 32)

-- and how many bytes are before it
len_before : (n len : ℕ) → 0 < n → n < 2 ^ 64 → len ≡ length (capture_tens_prefix n)
    → len ≡ length (capture_tens_prefix (n / 10)) + 1
len_before n len some h is =
    is ∙ ap length (capture_tens_split n some h) ∙ length-append (capture_tens_prefix (n / 10)) ((48 + n % 10) ∷ [])

-- a place before a digit is the end of a character
boundary : (t rest text : List ℕ) (d at : ℕ) → text ≡ t ++ (48 + d) ∷ rest → d < 10 → at ≡ length t
    → IsSplitPoint text at
boundary t rest text d at is small end =
    let len : length text ≡ length t + suc (length rest) = ap length is ∙ length-append t ((48 + d) ∷ rest) in (
      omega (arith, len, end),
      λ some more high.
          let zero : length t ≡ length t + 0 = omega arith in
          let digit : get_or text at 0 ≡ 48 + d =
          ap (λ x. get_or x at 0) is ∙ ap (λ n. get_or (t ++ (48 + d) ∷ rest) n 0) (end ∙ zero)
          ∙ get_or-append-add t ((48 + d) ∷ rest) 0 0 in
          absurd (omega (arith, digit, high, small)),
    )

pub truncate-requires : goal.truncate-requires
truncate-requires c =
    let from = c.args.from in
    let some : 0 < from = omega (arith, c.if-from-ge10.true) in
    let len = len_before from c.args.len some c.ranges.from.fits c.requires.counts in
    let is = before_digit c.args.text.now.bytes from some c.ranges.from.fits c.requires.holds in (
      search rules,
      λ _. boundary (capture_tens_prefix (from / 10)) (replicate 20 32) c.args.text.now.bytes (from % 10)
          (c.args.len - 1) is (omega arith) (omega (arith, len)),
    )

pub returns-then-to-from-clause-bytes : goal.returns-then-to-from-clause-bytes
returns-then-to-from-clause-bytes c =
    let from = c.args.from in
    let to = c.args.to in
    let q = capture_tens_prefix (from / 10) in
    let some : 0 < from = omega (arith, c.if-from-ge10.true) in
    let other : 0 < to = omega (arith, c.if-from-ge10.true, c.if-to-from.true) in
    let len = len_before from c.args.len some c.ranges.from.fits c.requires.counts in
    let at : c.args.len - 1 ≡ length q = omega (arith, len) in
    c.push_str.ensures.bytes ∙ ap (λ x. x ++ c.digit.result.now) (
    c.truncate.ensures ∙ ap (λ n. take n c.args.text.now.bytes) at
    ∙ ap (take (length q)) (before_digit c.args.text.now.bytes from some c.ranges.from.fits c.requires.holds)
    ∙ take-append_seam q ((48 + from % 10) ∷ replicate 20 32)
    )
    ∙ ap (λ x. q ++ x) c.digit.ensures.bytes
    ∙ ap (λ n. capture_tens_prefix n ++ (48 + to % 10) ∷ []) (sym c.if-to-from.true)
    ∙ sym (capture_tens_split to other c.ranges.to.fits)
