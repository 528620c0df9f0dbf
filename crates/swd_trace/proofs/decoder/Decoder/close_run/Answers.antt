use Rattle.std.proofs.Common.{refl, arith}
use Rattle.swd_trace.proofs.HeldLemmas.{decoder_holds_dropped_run}
use Rattle.swd_trace.proofs.CloseLemmas.{decoder_holds_shorter_run, trace_end_lost_ones_junk, trace_end_run_cut}
use Rattle.swd_trace.proofs.decoder.Decoder.close_run.Goals as goal

pub invariant_of-self : goal.invariant_of-self
invariant_of-self c = record {
  holds = decoder_holds_shorter_run c.args.self.now.mode c.args.self.now.one c.args.self.now.run c.args.self.now.len
      c.args.self.now.bits c.args.self.now.next c.args.self.now.fed
      c.args.self.now.holds c.requires.run;
}

pub invariant_of-self-2 : goal.invariant_of-self-2
invariant_of-self-2 c = record {
  holds = decoder_holds_dropped_run c.args.self.now.mode c.args.self.now.mode c.args.self.now.one c.args.self.now.run
      c.args.self.now.len c.args.self.now.bits c.args.self.now.next c.args.self.now.fed
      c.args.self.now.holds c.requires.run;
}

pub returns-in-Lost : goal.returns-in-Lost
returns-in-Lost c = record {
  law = trace_end_lost_ones_junk c.args.self.now.mode c.args.self.now.one c.args.self.now.run c.args.self.now.len
      c.args.self.now.bits c.in-Lost.is c.if-not-self.false c.requires.run c.if-self-ge-RESET_ONES.false
      c.requires.alone;
  fewer = omega arith;
  fed = refl;
}

pub returns : goal.returns
returns c = record {
  law = trace_end_run_cut c.args.self.now.mode c.args.self.now.one c.args.self.now.run c.args.self.now.len
      c.args.self.now.bits c.in_default.not-Lost c.if-not-self.false c.requires.run c.if-self-ge-RESET_ONES.false
      c.requires.alone;
  fewer = omega arith;
  fed = refl;
}
