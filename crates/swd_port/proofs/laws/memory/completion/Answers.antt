use Rattle.swd_port.proofs.CompletionLaws.{port_completion_not_yet, no_pending_same, port_completion_twice, port_kept}
use Rattle.swd_port.proofs.CompletionLaws.{port_may_become_stays, port_may_become_carried, port_may_become_of_none}
use Rattle.swd_port.proofs.laws.memory.completion.Goals as goal

pub returns-clause-not_yet : goal.returns-clause-not_yet
returns-clause-not_yet c = port_completion_not_yet

pub returns-clause-of_none : goal.returns-clause-of_none
returns-clause-of_none c = no_pending_same

pub returns-clause-twice : goal.returns-clause-twice
returns-clause-twice c = port_completion_twice

pub returns-clause-keeps : goal.returns-clause-keeps
returns-clause-keeps c = port_kept

pub returns-clause-may_become_stays : goal.returns-clause-may_become_stays
returns-clause-may_become_stays c = port_may_become_stays

pub returns-clause-may_become_carried : goal.returns-clause-may_become_carried
returns-clause-may_become_carried c = port_may_become_carried

pub returns-clause-may_become_of_none : goal.returns-clause-may_become_of_none
returns-clause-may_become_of_none c = port_may_become_of_none
