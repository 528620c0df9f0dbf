use Rattle.swd_port.proofs.AccessLaws.{port_word_written, port_word_read}
use Rattle.swd_port.proofs.laws.memory.accesses.Goals as goal

pub returns-clause-written : goal.returns-clause-written
returns-clause-written c = port_word_written

pub returns-clause-read : goal.returns-clause-read
returns-clause-read c = port_word_read
