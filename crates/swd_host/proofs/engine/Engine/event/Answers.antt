use Rattle.swd_host.proofs.Words.{◌≡◌, ◌+◌, ◌≤◌, arith, subst, EngineBefore, hand_of_engine, ResumedOpeningAnywhere}
use Rattle.swd_host.proofs.Frames.{host_job_in_flight, host_job_events_paid}
use Rattle.swd_host.proofs.Sends.{host_job_select}
use Rattle.swd_host.proofs.EarlyFrames.{opening_job_any}
use Rattle.swd_host.proofs.engine.Engine.event.Goals as goal

pub returns-then-self-clause-tracks : goal.returns-then-self-clause-tracks
returns-then-self-clause-tracks c base m t task h =
    let paid : base.disturbed + c.args.self.now.events + 1 ≤ t.tally.disturbed =
    host_job_events_paid c.args.job _ _ _ t h in
    (host_job_in_flight c.args.job _ _ _ t h, omega arith, host_job_select c.args.job _ _ _ t h)

pub returns-else-self-clause-tracks : goal.returns-else-self-clause-tracks
returns-else-self-clause-tracks c base m t task h =
    let more : base.disturbed + c.args.self.now.events + 1 ≡ base.disturbed + (c.args.self.now.events + 1) =
    omega arith in
    subst (λ n. EngineBefore c.args.job n c.args.self.now.begun (hand_of_engine c.args.self.now m) t) more h

pub returns-then-self-clause-early : goal.returns-then-self-clause-early
returns-then-self-clause-early c base start t h =
    let any : ResumedOpeningAnywhere (base.disturbed + c.args.self.now.events + 1) c.args.self.now.stray start t =
    opening_job_any c.args.job _ _ start t h in
    (any.comes, omega (arith, any.paid), any.select)
