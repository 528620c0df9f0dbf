use Rattle.swd_trace.specs.declared.mode.Mode.TheVariants.{AfterReset}
use Rattle.swd_trace.proofs.HeldLemmas.{decoder_holds_dropped_run, decoder_reset_ended, decoder_reset_at_end}
use Rattle.swd_trace.proofs.HeldLemmas.{decoder_idle_ended, decoder_idle_at_end}
use Rattle.swd_trace.proofs.decoder.Decoder.end_run.Goals as goal

pub invariant_of-self : goal.invariant_of-self
invariant_of-self c = record {
  holds = decoder_holds_dropped_run c.args.self.now.mode AfterReset c.args.self.now.one c.args.self.now.run
      c.args.self.now.len c.args.self.now.bits c.args.self.now.next c.args.self.now.fed
      c.args.self.now.holds c.requires.run;
}

pub invariant_of-self-else-self : goal.invariant_of-self-else-self
invariant_of-self-else-self c = record {
  holds = decoder_holds_dropped_run c.args.self.now.mode c.args.self.now.mode c.args.self.now.one c.args.self.now.run
      c.args.self.now.len c.args.self.now.bits c.args.self.now.next c.args.self.now.fed
      c.args.self.now.holds c.requires.run;
}

pub returns-then-self-clause-law : goal.returns-then-self-clause-law
returns-then-self-clause-law c = λ p.
    decoder_reset_ended c.args.self.now.mode c.args.self.now.one c.args.self.now.run c.args.self.now.len
    c.args.self.now.bits c.if-self.true (c.requires.long c.if-self.true) p
    (c.args.self.now.holds.ends c.requires.run p)

pub returns-then-self-clause-last : goal.returns-then-self-clause-last
returns-then-self-clause-last c = λ e.
    decoder_reset_at_end c.args.self.now.mode c.args.self.now.one c.args.self.now.run c.args.self.now.len
    c.args.self.now.bits c.if-self.true (c.requires.long c.if-self.true) e

pub returns-else-self-clause-law : goal.returns-else-self-clause-law
returns-else-self-clause-law c = λ p.
    decoder_idle_ended c.args.self.now.mode c.args.self.now.one c.args.self.now.run c.args.self.now.len
    c.args.self.now.bits (c.args.self.now.holds.idle c.requires.run c.if-self.false) c.if-self.false c.requires.run p
    (c.args.self.now.holds.ends c.requires.run p)

pub returns-else-self-clause-last : goal.returns-else-self-clause-last
returns-else-self-clause-last c = λ e.
    decoder_idle_at_end c.args.self.now.mode c.args.self.now.one c.args.self.now.run c.args.self.now.len
    c.args.self.now.bits (c.args.self.now.holds.idle c.requires.run c.if-self.false) c.if-self.false c.requires.run e
