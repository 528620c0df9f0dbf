use Rattle.swd_host.proofs.Words.{true, ap, engine_state_is_of}
use Rattle.swd_host.proofs.Ends.{engine_opened_state, engine_stopped_state}
use Rattle.swd_host.proofs.running.open.Goals as goal

pub returns-in-Stopped-clause-finished : goal.returns-in-Stopped-clause-finished
returns-in-Stopped-clause-finished g c =
    engine_stopped_state c.drive.new.engine.state c.drive.new.engine.task c.in-Stopped.end c.in-Stopped.ensures.finished

pub returns-in_default-clause-finished : goal.returns-in_default-clause-finished
returns-in_default-clause-finished g c =
    engine_opened_state c.drive.new.engine.state c.drive.new.engine.task c.drive.result
    (c.drive.ensures.works.part true (ap (engine_state_is_of true) c.requires.new.leads)) c.drive.ensures.finished
    (λ end is. c.in_default.not-Stopped end is)
