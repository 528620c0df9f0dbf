use Rattle.std.proofs.Common.{ap, ◌∙◌}
use Rattle.swd_port.specs.declared.mark.Mark.{Mark}
use Rattle.swd_target.specs.Benches.{bench_link, bench_next_mark}
use Rattle.swd_target.specs.Giving.{is_giving_up}
use Rattle.swd_target.specs.Targets.{target_state}
use Rattle.swd_target.proofs.GivingLemmas.{target_keeps_or_gives_up}
use Rattle.swd_target.proofs.bench.Bench.give_up_before.Goals as goal

pub returns-clause-gives : goal.returns-clause-gives
returns-clause-gives g c = λ n.
    let old = c.args.self.now in
    let is = c.give_up_before.ensures in
    let s = target_state g.D.Device.bus old.target in
    target_keeps_or_gives_up c.give_up_before.result (bench_next_mark old) c.args.request (bench_link old) n s
    (target_state g.D.Device.bus c.give_up_before.new.self)
    (is.gave ∙ ap (λ (m : Mark). is_giving_up m c.args.request s) c.next_mark.ensures.mark) is.state
