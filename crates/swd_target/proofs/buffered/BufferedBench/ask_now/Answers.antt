use Rattle.std.proofs.Common.{ap, ◌∙◌}
use Rattle.swd_port.specs.declared.mark.Mark.{Mark}
use Rattle.swd_target.specs.Benches.{bench_port, bench_next_mark}
use Rattle.swd_target.specs.Buffered.{buffered_port, buffered_simulation}
use Rattle.swd_target.specs.Simulations.{simulation_asked}
use Rattle.swd_target.proofs.GivingLemmas.{asks_buffered}
use Rattle.swd_target.proofs.buffered.BufferedBench.ask_now.Goals as goal

pub returns-clause-step : goal.returns-clause-step
returns-clause-step g c =
    let old = c.args.self.now in
    let mid = c.give_up_before.new.self in
    let is = c.give_up_before.ensures in
    asks_buffered (bench_next_mark old.bench) (bench_next_mark mid.bench) c.args.request c.ask_now.result
    mid.given_up.ticks (buffered_port g.D.Device.bus old) (bench_port g.D.Device.bus mid.bench)
    (bench_port g.D.Device.bus c.ask_now.new.self) is.gives is.mark c.ask_now.ensures.any c.ask_now.ensures.tally

pub returns-clause-exact : goal.returns-clause-exact
returns-clause-exact g c =
    let old = c.args.self.now in
    let mid = c.give_up_before.new.self in
    let is = c.give_up_before.ensures in
    c.ask_now.ensures.exact
    ∙ ap (λ (mark : Mark). simulation_asked mark c.args.request (buffered_simulation g.D.Device.bus mid)) is.mark
    ∙ ap (simulation_asked (bench_next_mark old.bench) c.args.request) is.exact
