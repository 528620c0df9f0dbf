use Rattle.swd_port.proofs.AnswerLaws.{port_seen_driven}
use Rattle.swd_port.proofs.laws.wire.answers.Goals as goal

pub returns-clause-seen : goal.returns-clause-seen
returns-clause-seen c = port_seen_driven
