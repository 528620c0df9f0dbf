use Rattle.swd_port.proofs.NeverStuckLaws.{port_request_never_stuck, port_call_never_stuck}
use Rattle.swd_port.proofs.laws.steps.never_stuck.Goals as goal

pub returns-clause-requests : goal.returns-clause-requests
returns-clause-requests c = port_request_never_stuck

pub returns-clause-others : goal.returns-clause-others
returns-clause-others c = port_call_never_stuck
