use Rattle.std.proofs.Common.{refl, subst}
use Rattle.swd_port.specs.declared.mark.Mark.{Mark}
use Rattle.swd_port.specs.Asking.{port_tally_after}
use Rattle.swd_target.specs.Requests.{target_port_at, TargetAsksUnder}
use Rattle.swd_target.specs.Targets.{target_state}
use Rattle.swd_target.specs.Benches.{bench_link, bench_tally}
use Rattle.swd_target.proofs.AskLemmas.{bench_asks_lawful, simulated_asks_lawful}
use Rattle.swd_target.proofs.bench.Bench.ask_now.Goals as goal

pub returns-clause-step : goal.returns-clause-step
returns-clause-step g c =
    let old = c.args.self.now in
    let used = c.use_mark-mark.ensures in
    simulated_asks_lawful _ _ _ _ _ (bench_asks_lawful g.D.Device.bus c.use_mark-mark.result c.args.request old.target
    c.request_under-reply.new.self _
    _ (bench_link old) (bench_tally old) _ _ _ _ _ _ c.request_under-reply.ensures.answers
    c.seen_under-seen.ensures.value c.after-self.ensures c.enter_phase.ensures.line used.asked used.disturbed
    used.lost)

pub returns-clause-any : goal.returns-clause-any
returns-clause-any g c = λ n.
    let old = c.args.self.now in
    subst (λ (mark : Mark). TargetAsksUnder mark
    (target_port_at (bench_link old) n (target_state g.D.Device.bus old.target)) c.args.request c.seen_under-seen.result
    (target_port_at (record { due = c.after-self.result; line = c.enter_phase.new.line }) (port_tally_after mark n)
    (target_state g.D.Device.bus c.request_under-reply.new.self))) c.use_mark-mark.ensures.mark
    (bench_asks_lawful g.D.Device.bus c.use_mark-mark.result c.args.request old.target
    c.request_under-reply.new.self _
    _ (bench_link old) n _ _ _ _ _ _ c.request_under-reply.ensures.answers
    c.seen_under-seen.ensures.value c.after-self.ensures c.enter_phase.ensures.line refl refl refl)
