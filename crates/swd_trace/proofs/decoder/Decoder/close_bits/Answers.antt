use Rattle.std.proofs.Common.{◌≤◌, ◌+◌, refl, sym, subst, lit<, arith}
use Rattle.swd_trace.specs.declared.mode.Mode.TheVariants.{Synced}
use Rattle.swd_trace.specs.Holding.{DecoderHolds}
use Rattle.swd_trace.proofs.HoldingLemmas.{decoder_holds_bits}
use Rattle.swd_trace.proofs.HeldLemmas.{decoder_holds_fewer_bits}
use Rattle.swd_trace.proofs.CloseLemmas.{trace_end_switch_idle, trace_end_held_bits_cut}
use Rattle.swd_trace.proofs.decoder.Decoder.close_bits.Goals as goal

pub invariant_of-self : goal.invariant_of-self
invariant_of-self c = record {
  holds = decoder_holds_fewer_bits c.args.self.now.mode Synced c.args.self.now.one c.args.self.now.run
      c.args.self.now.len c.args.self.now.bits c.args.self.now.next c.args.self.now.fed
      1 c.args.self.now.holds c.requires.run c.requires.some;
}

pub returns-in-AfterReset : goal.returns-in-AfterReset
returns-in-AfterReset c = record {
  law = trace_end_switch_idle c.args.self.now.mode c.args.self.now.one c.args.self.now.run c.args.self.now.len
      c.args.self.now.bits c.in-AfterReset.is c.requires.run c.requires.some c.requires.open_end;
  fewer = omega arith;
  fed = refl;
}

pub invariant_of-self-2 : goal.invariant_of-self-2
invariant_of-self-2 c =
    let counted : c.args.self.now.run + c.args.self.now.len ≤ c.args.self.now.fed = c.args.self.now.holds.counted in
    record {
      holds = subst (λ r. DecoderHolds c.args.self.now.mode c.args.self.now.one r 0 0 1 c.args.self.now.fed)
          (sym c.requires.run)
          (decoder_holds_bits c.args.self.now.mode c.args.self.now.one 0 0 c.args.self.now.fed (lit< tt) (omega arith)
          (omega arith));
    }

pub returns : goal.returns
returns c = record {
  law = trace_end_held_bits_cut c.args.self.now.mode c.args.self.now.one c.args.self.now.run c.args.self.now.len
      c.args.self.now.bits c.in_default.not-AfterReset c.requires.run c.args.self.now.holds.whole c.requires.open_end;
  fewer = omega arith;
  fed = refl;
}
