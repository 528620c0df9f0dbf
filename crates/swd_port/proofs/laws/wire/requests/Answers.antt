use Rattle.swd_port.proofs.RequestLaws.{port_exempt_request, port_exempt_at_rest, port_identification_read}
use Rattle.swd_port.proofs.RequestLaws.{port_identification_at_rest, port_flagged_request, port_flagged_at_rest}
use Rattle.swd_port.proofs.RequestLaws.{port_unpowered_at_rest, port_free_request, port_free_at_rest, port_free_exact}
use Rattle.swd_port.proofs.RequestLaws.{port_lost_request, port_refused_with_power, port_unmoved_by_exempt}
use Rattle.swd_port.proofs.RequestLaws.{port_unmoved_by_free, port_unmoved_by_refused, port_confirming_request}
use Rattle.swd_port.proofs.GivingUpLaws.{port_asks_split}
use Rattle.swd_port.proofs.laws.wire.requests.Goals as goal

pub returns-clause-split : goal.returns-clause-split
returns-clause-split c = port_asks_split

pub returns-clause-exempt : goal.returns-clause-exempt
returns-clause-exempt c = port_exempt_request

pub returns-clause-exempt_at_rest : goal.returns-clause-exempt_at_rest
returns-clause-exempt_at_rest c = port_exempt_at_rest

pub returns-clause-identification : goal.returns-clause-identification
returns-clause-identification c = port_identification_read

pub returns-clause-identification_at_rest : goal.returns-clause-identification_at_rest
returns-clause-identification_at_rest c = port_identification_at_rest

pub returns-clause-flagged : goal.returns-clause-flagged
returns-clause-flagged c = port_flagged_request

pub returns-clause-flagged_at_rest : goal.returns-clause-flagged_at_rest
returns-clause-flagged_at_rest c = port_flagged_at_rest

pub returns-clause-unpowered_at_rest : goal.returns-clause-unpowered_at_rest
returns-clause-unpowered_at_rest c = port_unpowered_at_rest

pub returns-clause-free : goal.returns-clause-free
returns-clause-free c = port_free_request

pub returns-clause-free_at_rest : goal.returns-clause-free_at_rest
returns-clause-free_at_rest c = port_free_at_rest

pub returns-clause-free_exact : goal.returns-clause-free_exact
returns-clause-free_exact c = port_free_exact

pub returns-clause-lost : goal.returns-clause-lost
returns-clause-lost c = port_lost_request

pub returns-clause-refused : goal.returns-clause-refused
returns-clause-refused c = port_refused_with_power

pub returns-clause-unmoved_by_exempt : goal.returns-clause-unmoved_by_exempt
returns-clause-unmoved_by_exempt c = port_unmoved_by_exempt

pub returns-clause-unmoved_by_free : goal.returns-clause-unmoved_by_free
returns-clause-unmoved_by_free c = port_unmoved_by_free

pub returns-clause-unmoved_by_refused : goal.returns-clause-unmoved_by_refused
returns-clause-unmoved_by_refused c = port_unmoved_by_refused

pub returns-clause-confirming : goal.returns-clause-confirming
returns-clause-confirming c = port_confirming_request
