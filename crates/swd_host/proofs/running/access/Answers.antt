use Rattle.swd_host.proofs.Words.{false}
use Rattle.swd_host.proofs.Starts.{engine_due_at_start, start_access}
use Rattle.swd_host.proofs.Ends.{engine_access_not_opened}
use Rattle.swd_host.proofs.Making.{host_calls_weaken}
use Rattle.swd_host.proofs.running.access.Goals as goal

pub drive-requires : goal.drive-requires
drive-requires g c =
    engine_due_at_start c.args.access c.args.following c.args.engine.now c.start.new.self
    (g.W.Wire.port c.args.wire.now) c.start.ensures.starts c.requires.rests c.requires.chain c.requires.due

pub unreachable-requires : goal.unreachable-requires
unreachable-requires g c =
    engine_access_not_opened c.drive.new.engine.state c.drive.new.engine.task
    (c.drive.ensures.works.part false (start_access c.args.access c.args.following c.args.engine.now c.start.new.self
    c.start.ensures.starts))
    c.in-Opened.ensures.finished

pub returns-in-Answered-clause-goes : goal.returns-in-Answered-clause-goes
returns-in-Answered-clause-goes g c = λ lawful.
    let was = c.drive.ensures.goes lawful in
    (was.0, (c.start.new.self, c.start.ensures.starts, was.1))

pub returns-in-Stopped-clause-goes : goal.returns-in-Stopped-clause-goes
returns-in-Stopped-clause-goes g c = λ lawful.
    let was = c.drive.ensures.goes lawful in
    (was.0, (c.start.new.self, c.start.ensures.starts, was.1))

pub returns-in-Answered-clause-made : goal.returns-in-Answered-clause-made
returns-in-Answered-clause-made g c = host_calls_weaken g.W.Wire.notes _ _ _ _
    (λ calls turns. (c.start.new.self, c.start.ensures.starts, turns)) c.drive.ensures.made

pub returns-in-Stopped-clause-made : goal.returns-in-Stopped-clause-made
returns-in-Stopped-clause-made g c = host_calls_weaken g.W.Wire.notes _ _ _ _
    (λ calls turns. (c.start.new.self, c.start.ensures.starts, turns)) c.drive.ensures.made
