use Rattle.swd_host.proofs.Words.{event_requests}
use Rattle.swd_host.proofs.Words.{◌-◌, ◌+◌, sym, subst, Ask, Data, Doing, engine_left_for, engine_least_for}
use Rattle.swd_host.proofs.Words.{EngineLands}
use Rattle.swd_host.proofs.StepLemmas.{engine_resend_lands}
use Rattle.swd_host.proofs.engine.Engine.take_damage.Goals as goal

pub returns-in-At-2-clause-lands : goal.returns-in-At-2-clause-lands
returns-in-At-2-clause-lands c =
    let e = c.args.self.now in
    subst (λ j. EngineLands (engine_left_for e.bursts j - 1) (engine_least_for e.aims j + 1) (Doing j Data) e
    c.event.new.self)
    (sym c.in-At-2.is) (engine_resend_lands c.in-At-2.place e c.event.new.self (subst
    (λ j. EngineLands (engine_left_for e.bursts j - event_requests e.bursts) (engine_least_for e.aims j) (Doing j Ask) e
    c.event.new.self)
    c.again.ensures c.event.ensures.lands))
