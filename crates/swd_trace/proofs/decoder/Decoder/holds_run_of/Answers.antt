use Rattle.std.proofs.Common.{◌≡◌, ◌<◌, ◌≤◌, replicate, sym, ap, ◌∙◌, arith}
use Rattle.std.proofs.lemmas.Bool.{eqb-true, eqb-false}
use Rattle.swd_bits.specs.Bits.{low_bits}
use Rattle.swd_trace.proofs.NumberLemmas.{decoder_bits_ones_alone, decoder_bits_low_zeros}
use Rattle.swd_trace.proofs.HoldingLemmas.{decoder_equal_bits}
use Rattle.swd_trace.proofs.ExtendLemmas.{decoder_held_run, decoder_bits_are_run, decoder_run_not_ones}
use Rattle.swd_trace.proofs.ExtendLemmas.{decoder_run_not_zeros, decoder_holds_no_run}
use Rattle.swd_trace.proofs.decoder.Decoder.holds_run_of.Goals as goal

pub returns-then-self-gt0-clause-run : goal.returns-then-self-gt0-clause-run
returns-then-self-gt0-clause-run c = λ e.
    let last : c.args.self.now.next ≡ 1 = (c.args.self.now.holds.ran c.if-self-gt0.true).0 in
    let settled : c.args.self.now.len < c.args.self.now.next = c.requires in
    decoder_held_run c.args.self.now.one c.args.bit c.args.self.now.run c.args.self.now.len c.args.self.now.bits
    c.if-self-gt0.true (omega arith) (decoder_equal_bits _ _ e)

pub returns-then-self-eq0-clause-none : goal.returns-then-self-eq0-clause-none
returns-then-self-eq0-clause-none c = λ e.
    decoder_holds_no_run c.args.self.now.one c.args.bit c.args.self.now.run c.args.self.now.len c.args.self.now.bits
    (omega arith) c.if-self-eq0.true

pub returns-then-bit-clause-run : goal.returns-then-bit-clause-run
returns-then-bit-clause-run c = λ e.
    let short : c.args.self.now.len ≤ 50 = c.args.self.now.holds.short in
    decoder_bits_are_run c.args.self.now.one c.args.bit c.args.self.now.run c.args.self.now.len c.args.self.now.bits
    (omega arith) (omega arith)
    (decoder_bits_ones_alone c.args.self.now.len c.args.self.now.bits (omega arith) (eqb-true _ _ e)
    ∙ ap (replicate c.args.self.now.len) (sym c.if-bit.true))

pub returns-then-bit-clause-none : goal.returns-then-bit-clause-none
returns-then-bit-clause-none c = λ e n p f.
    let short : c.args.self.now.len ≤ 50 = c.args.self.now.holds.short in
    decoder_run_not_ones c.args.self.now.one c.args.self.now.run c.args.self.now.len c.args.self.now.bits (omega arith)
    (omega arith) c.args.self.now.holds.whole (eqb-false _ _ e) n p
    (f ∙ ap (replicate n) c.if-bit.true)

pub returns-else-bit-clause-run : goal.returns-else-bit-clause-run
returns-else-bit-clause-run c = λ e.
    decoder_bits_are_run c.args.self.now.one c.args.bit c.args.self.now.run c.args.self.now.len c.args.self.now.bits
    (omega arith) (omega arith)
    (ap (low_bits c.args.self.now.len) (eqb-true _ _ e) ∙ decoder_bits_low_zeros c.args.self.now.len
    ∙ ap (replicate c.args.self.now.len) (sym c.if-bit.false))

pub returns-else-bit-clause-none : goal.returns-else-bit-clause-none
returns-else-bit-clause-none c = λ e n p f.
    decoder_run_not_zeros c.args.self.now.one c.args.self.now.run c.args.self.now.len c.args.self.now.bits (omega arith)
    c.args.self.now.holds.whole (eqb-false _ _ e) n p
    (f ∙ ap (replicate n) c.if-bit.false)
