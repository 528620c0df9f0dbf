use Rattle.swd_host.proofs.Words.{◌≡◌, ◌+◌, ap, subst, sym, ◌∙◌, max, engine_job_starts, engine_job, EngineSawResult}
use Rattle.swd_host.proofs.Words.{EngineStateTracks, hand_of_engine}
use Rattle.swd_host.specs.Tracks.{engine_begun_once_sent}
use Rattle.swd_host.proofs.StepLemmas.{engine_saw_tracks}
use Rattle.swd_host.proofs.engine.Engine.seen.Goals as goal

pub returns-clause-tracks : goal.returns-clause-tracks
returns-clause-tracks c base m t h =
    let e = c.args.self.now in
    let job = c.in-Doing.job in
    let n = base.disturbed + e.events in
    let is : engine_job e.state ≡ job = ap engine_job c.in-Doing.is in
    let begun : engine_begun_once_sent e.state e.task e.begun ≡ c.max-self.result =
    ap (λ j. max e.begun (engine_job_starts j e.task)) is ∙
    (ap (max e.begun) (sym c.begins.ensures) ∙ sym c.max-self.ensures) in
    let saw : EngineSawResult job c.args.seen n base c.max-self.result (hand_of_engine e m) t =
    subst (λ j. EngineSawResult j c.args.seen n base c.max-self.result (hand_of_engine e m) t) is
    (subst (λ b. EngineSawResult (engine_job e.state) c.args.seen n base b (hand_of_engine e m) t) begun h) in
    subst (λ x. EngineStateTracks x n e.tries base c.max-self.result (hand_of_engine e m) t)
    (sym c.after_ack-self.ensures) (engine_saw_tracks job c.args.seen n e.tries base _ _ t saw)
