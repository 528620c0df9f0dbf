use Rattle.swd_port.proofs.CallLaws.{port_due_after_step, port_ack_seen, port_no_ack_seen, port_request_counted}
use Rattle.swd_port.proofs.CallLaws.{port_others_uncounted, port_identification_kept, port_counted_apart}
use Rattle.swd_port.proofs.laws.wire.calls.Goals as goal

pub returns-clause-due : goal.returns-clause-due
returns-clause-due c = port_due_after_step

pub returns-clause-acknowledged : goal.returns-clause-acknowledged
returns-clause-acknowledged c = port_ack_seen

pub returns-clause-unacknowledged : goal.returns-clause-unacknowledged
returns-clause-unacknowledged c = port_no_ack_seen

pub returns-clause-counted : goal.returns-clause-counted
returns-clause-counted c = port_request_counted

pub returns-clause-uncounted : goal.returns-clause-uncounted
returns-clause-uncounted c = port_others_uncounted

pub returns-clause-apart : goal.returns-clause-apart
returns-clause-apart c = port_counted_apart

pub returns-clause-identified : goal.returns-clause-identified
returns-clause-identified c = port_identification_kept
