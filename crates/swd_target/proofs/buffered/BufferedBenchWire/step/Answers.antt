use Rattle.std.proofs.Common.{ℕ, ◌≡◌, refl, sym, ap, subst, inl}
use Rattle.swd_port.specs.declared.cue.Cue.{Cue}
use Rattle.swd_port.specs.Asking.{PortAsks}
use Rattle.swd_port.specs.Steps.{IsPortStep}
use Rattle.swd_target.specs.Benches.{bench_port}
use Rattle.swd_target.specs.Buffered.{buffered_port, buffered_simulation, buffered_link, buffered_next_mark}
use Rattle.swd_target.specs.Buffered.{port_giving, simulation_giving_at_cue}
use Rattle.swd_target.specs.Stepping.{simulation_after_cue}
use Rattle.swd_target.proofs.GivingLemmas.{gives_data_buffered}
use Rattle.swd_target.proofs.buffered.BufferedBenchWire.step.Goals as goal

pub returns-in-Ask-clause-step : goal.returns-in-Ask-clause-step
returns-in-Ask-clause-step g c =
    let s = buffered_port g.D.Device.bus c.args.self.now in
    let t = buffered_port g.D.Device.bus c.ask_now.new.self in
    subst (λ (cue : Cue). IsPortStep cue c.from.result s t) (sym c.in-Ask.is)
    (subst (λ (n : ℕ). PortAsks s c.in-Ask.request n t) (sym c.from.ensures) c.ask_now.ensures.step)

pub returns-in-Ask-clause-exact : goal.returns-in-Ask-clause-exact
returns-in-Ask-clause-exact g c =
    let s = c.args.self.now in
    subst (λ (cue : Cue). buffered_simulation g.D.Device.bus c.ask_now.new.self
    ≡ simulation_after_cue (buffered_next_mark s) cue (buffered_link s)
    (simulation_giving_at_cue (buffered_next_mark s) cue (buffered_simulation g.D.Device.bus s)))
    (sym c.in-Ask.is) c.ask_now.ensures.exact

pub returns-in-Take-clause-step : goal.returns-in-Take-clause-step
returns-in-Take-clause-step g c =
    let old = c.args.self.now in
    let n : ℕ = old.given_up.ticks in
    let s = buffered_port g.D.Device.bus old in
    let t = port_giving n (bench_port g.D.Device.bus c.take_now.new.self) in
    let now = c.take_now.ensures.now in
    subst (λ (cue : Cue). IsPortStep cue c.take_now.result s t) (sym c.in-Take.is)
    (s, t, inl refl, record { gets = now.gets; after = ap (port_giving n) now.after }, inl refl)

pub returns-in-Lead-clause-step : goal.returns-in-Lead-clause-step
returns-in-Lead-clause-step g c =
    let old = c.args.self.now in
    let n : ℕ = old.given_up.ticks in
    let s = buffered_port g.D.Device.bus old in
    let t = port_giving n (bench_port g.D.Device.bus c.lead_now.new.self) in
    subst (λ (cue : Cue). IsPortStep cue 0 s t) (sym c.in-Lead.is)
    (s, t, inl refl, record { after = ap (port_giving n) c.lead_now.ensures.now.after }, inl refl)

pub returns-in-Give-clause-step : goal.returns-in-Give-clause-step
returns-in-Give-clause-step g c =
    let old = c.args.self.now in
    let n : ℕ = old.given_up.ticks in
    let s = bench_port g.D.Device.bus old.bench in
    let t = bench_port g.D.Device.bus c.give_now.new.self in
    let is = c.give_now.ensures in
    subst (λ (cue : Cue). IsPortStep cue 0 (port_giving n s) (port_giving n t)) (sym c.in-Give.is)
    (gives_data_buffered n _ s t is.any is.link is.tally)

pub returns-in-Pass-clause-step : goal.returns-in-Pass-clause-step
returns-in-Pass-clause-step g c =
    let old = c.args.self.now in
    let n : ℕ = old.given_up.ticks in
    let s = buffered_port g.D.Device.bus old in
    let t = port_giving n (bench_port g.D.Device.bus c.pass_now.new.self) in
    subst (λ (cue : Cue). IsPortStep cue 0 s t) (sym c.in-Pass.is)
    (s, t, inl refl, record { after = ap (port_giving n) c.pass_now.ensures.now.after }, inl refl)
