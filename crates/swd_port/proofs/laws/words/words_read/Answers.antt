use Rattle.swd_port.proofs.StatusLaws.{ctrl_stat_word_reads, port_identification_returned, ctrl_stat_returned}
use Rattle.swd_port.proofs.StatusLaws.{port_buffer_returned, port_value_resent, port_carried_by_request}
use Rattle.swd_port.proofs.StatusLaws.{port_carried_where_held, port_carried_where_refused, port_carried_where_passed}
use Rattle.swd_port.proofs.StatusLaws.{port_carried_by_reset, port_abort_clears_flags}
use Rattle.swd_port.proofs.laws.words.words_read.Goals as goal

pub returns-clause-status : goal.returns-clause-status
returns-clause-status c = ctrl_stat_word_reads

pub returns-clause-identification_returned : goal.returns-clause-identification_returned
returns-clause-identification_returned c = port_identification_returned

pub returns-clause-status_returned : goal.returns-clause-status_returned
returns-clause-status_returned c = ctrl_stat_returned

pub returns-clause-buffer : goal.returns-clause-buffer
returns-clause-buffer c = port_buffer_returned

pub returns-clause-resent : goal.returns-clause-resent
returns-clause-resent c = port_value_resent

pub returns-clause-carried : goal.returns-clause-carried
returns-clause-carried c = port_carried_by_request

pub returns-clause-held : goal.returns-clause-held
returns-clause-held c = port_carried_where_held

pub returns-clause-refused : goal.returns-clause-refused
returns-clause-refused c = port_carried_where_refused

pub returns-clause-passed : goal.returns-clause-passed
returns-clause-passed c = port_carried_where_passed

pub returns-clause-reset : goal.returns-clause-reset
returns-clause-reset c = port_carried_by_reset

pub returns-clause-cleared : goal.returns-clause-cleared
returns-clause-cleared c = port_abort_clears_flags
