use Rattle.swd_host.proofs.Words.{◌≡◌, ◌+◌, arith, false, subst, sym, At, EngineBefore, hand_of_engine}
use Rattle.swd_host.proofs.StepLemmas.{engine_owed_lands, engine_checks_cleared, engine_repeat_before}
use Rattle.swd_host.proofs.StepLemmas.{engine_repeat_lands}
use Rattle.swd_host.proofs.engine.Engine.check.Goals as goal

pub returns-then-now-owed-clause-lands : goal.returns-then-now-owed-clause-lands
returns-then-now-owed-clause-lands c =
    engine_owed_lands c.args.place c.args.owed.error c.args.owed.damaged c.args.now.error c.args.now.damaged
    c.args.self.now c.event.new.self (grind (arith, c.if-now-owed.true)) c.event.ensures.lands

pub returns-then-owed-clause-tracks : goal.returns-then-owed-clause-tracks
returns-then-owed-clause-tracks c base m t task error damaged h =
    c.finish_clear.ensures.tracks base m t task
    (engine_checks_cleared c.args.place c.args.owed c.args.now.damaged _ _ _ t c.if-owed.true c.if-not-now-2.true
    damaged h)

pub returns-else-owed-clause-tracks : goal.returns-else-owed-clause-tracks
returns-else-owed-clause-tracks c base m t task error damaged h =
    let e = c.args.self.now in
    let clear : t.target.write_error ≡ false = grind (arith, damaged, c.if-not-now-2.true) in
    subst (λ p. EngineBefore (At p) (base.disturbed + e.events) e.begun (hand_of_engine e m) t)
    (sym c.repeats-again.ensures)
    (engine_repeat_before e.bursts c.args.place c.args.owed _ _ _ t c.if-owed.false clear h)

pub returns-else-owed-clause-lands : goal.returns-else-owed-clause-lands
returns-else-owed-clause-lands c =
    engine_repeat_lands c.args.place c.repeats-again.result c.args.owed.error c.args.owed.damaged c.args.self.now
    c.if-owed.false c.repeats-again.ensures
