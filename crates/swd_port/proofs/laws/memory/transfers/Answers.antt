use Rattle.swd_port.proofs.CompletionLaws.{port_drw_read_sent, port_drw_write_sent, port_sent_stays, port_sent_carried}
use Rattle.swd_port.proofs.CompletionLaws.{port_sent_succeeds, port_sent_fails, port_sent_becomes, port_becomes_stays}
use Rattle.swd_port.proofs.CompletionLaws.{port_becomes_carried, port_becomes_is, port_becomes_completed}
use Rattle.swd_port.proofs.CompletionLaws.{port_sent_memory, port_aimed_carried, port_aimed_by_tar}
use Rattle.swd_port.proofs.CompletionLaws.{port_aimed_by_transfer}
use Rattle.swd_port.proofs.laws.memory.transfers.Goals as goal

pub returns-clause-read_begins : goal.returns-clause-read_begins
returns-clause-read_begins c = port_drw_read_sent

pub returns-clause-write_begins : goal.returns-clause-write_begins
returns-clause-write_begins c = port_drw_write_sent

pub returns-clause-sent_stays : goal.returns-clause-sent_stays
returns-clause-sent_stays c = port_sent_stays

pub returns-clause-sent_carried : goal.returns-clause-sent_carried
returns-clause-sent_carried c = port_sent_carried

pub returns-clause-sent_succeeds : goal.returns-clause-sent_succeeds
returns-clause-sent_succeeds c = port_sent_succeeds

pub returns-clause-sent_fails : goal.returns-clause-sent_fails
returns-clause-sent_fails c = port_sent_fails

pub returns-clause-sent_becomes : goal.returns-clause-sent_becomes
returns-clause-sent_becomes c = port_sent_becomes

pub returns-clause-becomes_stays : goal.returns-clause-becomes_stays
returns-clause-becomes_stays c = port_becomes_stays

pub returns-clause-becomes_carried : goal.returns-clause-becomes_carried
returns-clause-becomes_carried c = port_becomes_carried

pub returns-clause-becomes_is : goal.returns-clause-becomes_is
returns-clause-becomes_is c = port_becomes_is

pub returns-clause-becomes_completed : goal.returns-clause-becomes_completed
returns-clause-becomes_completed c = port_becomes_completed

pub returns-clause-sent_memory : goal.returns-clause-sent_memory
returns-clause-sent_memory c = port_sent_memory

pub returns-clause-aimed_carried : goal.returns-clause-aimed_carried
returns-clause-aimed_carried c = port_aimed_carried

pub returns-clause-aimed_by_tar : goal.returns-clause-aimed_by_tar
returns-clause-aimed_by_tar c = port_aimed_by_tar

pub returns-clause-aimed_by_transfer : goal.returns-clause-aimed_by_transfer
returns-clause-aimed_by_transfer c = port_aimed_by_transfer
