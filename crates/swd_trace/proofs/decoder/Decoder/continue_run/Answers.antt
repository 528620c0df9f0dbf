use Rattle.std.proofs.Common.{◌≡◌, ℕ, ◌-◌, ◌^◌, ◌<◌, ◌≤◌, Bool, true, false, ◌++◌, replicate, sym, ap, ◌∙◌, subst}
use Rattle.std.proofs.Common.{arith}
use Rattle.std.proofs.lemmas.List.{append-nil}
use lib.Count.{count_trailing_zeros}
use Rattle.swd_bits.specs.Bits.{low_bits}
use Rattle.swd_trace.specs.Held.{decoder_rest}
use Rattle.swd_trace.proofs.NumberLemmas.{decoder_zeros_at_front, decoder_ones_at_front, decoder_zeros_most}
use Rattle.swd_trace.proofs.NumberLemmas.{decoder_ones_most, decoder_bits_one_bit, decoder_bits_none}
use Rattle.swd_trace.proofs.decoder.Decoder.continue_run.Goals as goal
use Rattle.swd_trace.proofs.decoder.Decoder.continue_run.Goals.{then-self, else-self}

ones : (one : Bool) (bits others n : ℕ) → one ≡ true → others ≡ 2 ^ 64 - 1 - bits → bits < 2 ^ 64
    → n ≤ count_trailing_zeros 64 others → low_bits n bits ≡ replicate n one
ones one bits others n e f h c = decoder_ones_at_front 64 n bits h (subst (λ m. n ≤ count_trailing_zeros 64 m) f c)
    ∙ ap (replicate n) (sym e)

zeros : (one : Bool) (bits others n : ℕ) → one ≡ false → others ≡ bits → n ≤ count_trailing_zeros 64 others
    → low_bits n bits ≡ replicate n one
zeros one bits others n e f c = decoder_zeros_at_front 64 n bits (subst (λ m. n ≤ count_trailing_zeros 64 m) f c)
    ∙ ap (replicate n) (sym e)

pub returns-clause-law : goal.returns-clause-law
returns-clause-law c = λ more.
    let n = c.min-same.result in
    let few : n ≤ count_trailing_zeros 64 c.if-self.others = omega arith in
    let front : low_bits n c.args.bits ≡ replicate n c.args.self.now.one =
    elim c.if-self.branch [
      | then-self w ↦ ones c.args.self.now.one c.args.bits c.if-self.others n w.if-self.true w.others-is
          c.ranges.bits.fits few
      | else-self w ↦ zeros c.args.self.now.one c.args.bits c.if-self.others n w.if-self.false w.others-is few
    ] in
    c.extend_run.ensures.law more ∙ ap (λ x. decoder_rest c.args.self.now (x ++ more))
    (ap (λ k. replicate k c.args.self.now.one) c.from-2.ensures ∙ sym front)

pub returns-then-same-eq0-clause-law : goal.returns-then-same-eq0-clause-law
returns-then-same-eq0-clause-law c = λ more. c.take.ensures.law more
    ∙ ap (decoder_rest c.args.self.now) (decoder_bits_one_bit c.args.bits more)

pub extend_run-requires-clause-run : goal.extend_run-requires-clause-run
extend_run-requires-clause-run c =
    let last : c.args.self.now.next ≡ 1 = (c.args.self.now.holds.ran c.requires.run).0 in
    let none : c.args.self.now.len ≡ 0 = omega (arith, c.requires.settled) in (
      c.args.self.now.run,
      c.requires.run,
      ap (λ x. replicate c.args.self.now.run c.args.self.now.one ++ x)
          (decoder_bits_none c.args.self.now.len c.args.self.now.bits none)
          ∙ append-nil (replicate c.args.self.now.run c.args.self.now.one),
    )

most_ones : (one : Bool) (bits others n : ℕ) → one ≡ true → others ≡ 2 ^ 64 - 1 - bits → bits < 2 ^ 64 → n ≤ 64
    → low_bits n bits ≡ replicate n one → n ≤ count_trailing_zeros 64 others
most_ones one bits others n e f s h r = subst (λ m. n ≤ count_trailing_zeros 64 m) (sym f)
    (decoder_ones_most 64 n bits s h (r ∙ ap (replicate n) e))

most_zeros : (one : Bool) (bits others n : ℕ) → one ≡ false → others ≡ bits → n ≤ 64 → low_bits n bits ≡ replicate n one
    → n ≤ count_trailing_zeros 64 others
most_zeros one bits others n e f h r = subst (λ m. n ≤ count_trailing_zeros 64 m) (sym f)
    (decoder_zeros_most 64 n bits h (r ∙ ap (replicate n) e))

pub returns-then-same-eq0-clause-many : goal.returns-then-same-eq0-clause-many
returns-then-same-eq0-clause-many c = λ n h r.
    let few : n ≤ count_trailing_zeros 64 c.if-self.others =
    elim c.if-self.branch [
      | then-self w ↦ most_ones c.args.self.now.one c.args.bits c.if-self.others n w.if-self.true w.others-is
          c.ranges.bits.fits (omega arith) r
      | else-self w ↦ most_zeros c.args.self.now.one c.args.bits c.if-self.others n w.if-self.false w.others-is
          (omega arith) r
    ] in
    omega arith

pub returns-clause-many : goal.returns-clause-many
returns-clause-many c = λ n h r.
    let few : n ≤ count_trailing_zeros 64 c.if-self.others =
    elim c.if-self.branch [
      | then-self w ↦ most_ones c.args.self.now.one c.args.bits c.if-self.others n w.if-self.true w.others-is
          c.ranges.bits.fits (omega arith) r
      | else-self w ↦ most_zeros c.args.self.now.one c.args.bits c.if-self.others n w.if-self.false w.others-is
          (omega arith) r
    ] in
    omega arith
