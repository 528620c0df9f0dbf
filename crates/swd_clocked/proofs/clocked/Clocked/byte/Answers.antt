use Rattle.std.proofs.Common.{sym, subst, ap, refl}
use Rattle.swd_bits.specs.declared.request.Request.{Request}
use Rattle.swd_clocked.specs.declared.frame.Frame.TheVariants.{Lost}
use Rattle.swd_clocked.specs.Cycles.{ClockedRequested}
use Rattle.swd_clocked.proofs.clocked.Clocked.byte.Goals as goal

pub returns-in-Some-clause-came : goal.returns-in-Some-clause-came
returns-in-Some-clause-came g c = record {
  whole = λ q e. subst (λ (x : Request). ClockedRequested g.D.Device.bus x c.args.self.now.target c.args.self.now.waits
      c.request.new.self) (sym (c.in-Some.ensures.only q e)) c.request.ensures.requested;
  broken = λ none. absurd (none c.in-Some.request c.in-Some.ensures.found);
}

pub returns-in-None-clause-came : goal.returns-in-None-clause-came
returns-in-None-clause-came g c = record {
  whole = λ q e. absurd (c.in-None.ensures.none q e);
  broken = λ none. record { frame = ap Lost c.leading_ones.ensures; target = refl; waits = refl };
}
