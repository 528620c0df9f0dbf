use Rattle.std.proofs.Common.{ℕ, refl, sym, subst, inl}
use Rattle.swd_port.specs.declared.cue.Cue.{Cue}
use Rattle.swd_port.specs.Asking.{PortAsks}
use Rattle.swd_port.specs.Steps.{IsPortStep}
use Rattle.swd_target.specs.Benches.{bench_port}
use Rattle.swd_target.proofs.bench.BenchWire.step.Goals as goal

pub returns-in-Ask-clause-step : goal.returns-in-Ask-clause-step
returns-in-Ask-clause-step g c =
    let s = bench_port g.D.Device.bus c.args.self.now in
    let t = bench_port g.D.Device.bus c.ask_now.new.self in
    subst (λ (cue : Cue). IsPortStep cue c.from.result s t) (sym c.in-Ask.is)
    (subst (λ (n : ℕ). PortAsks s c.in-Ask.request n t) (sym c.from.ensures) c.ask_now.ensures.step)

pub returns-in-Lead-clause-step : goal.returns-in-Lead-clause-step
returns-in-Lead-clause-step g c =
    let s = bench_port g.D.Device.bus c.args.self.now in
    let t = bench_port g.D.Device.bus c.lead_now.new.self in
    subst (λ (cue : Cue). IsPortStep cue 0 s t) (sym c.in-Lead.is) (s, t, inl refl, c.lead_now.ensures.now, inl refl)
