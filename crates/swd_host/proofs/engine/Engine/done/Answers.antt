use Rattle.swd_host.proofs.Words.{◌≡◌, ◌+◌, ap, subst, ◌∙◌, Waited, Doing, EngineHoldsAfterCue, hand_of_engine}
use Rattle.swd_host.proofs.engine.Engine.done.Goals as goal

pub returns-in-Waited-clause-tracks : goal.returns-in-Waited-clause-tracks
returns-in-Waited-clause-tracks c base m t h =
    let e = c.args.self.now in
    let is : e.state ≡ Doing c.in-Doing.job Waited = c.in-Doing.is ∙ ap (Doing c.in-Doing.job) c.in-Waited.is in
    c.take_wait.ensures.tracks base m t h.0 (subst
    (λ x. EngineHoldsAfterCue x (base.disturbed + e.events) e.begun (hand_of_engine e m) t) is h.1)
