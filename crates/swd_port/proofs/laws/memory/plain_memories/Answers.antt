use Rattle.std.proofs.Common.{refl}
use Rattle.swd_port.proofs.PlainLaws.{bus_of_answer, bus_of_after}
use Rattle.swd_port.proofs.laws.memory.plain_memories.Goals as goal

pub returns-clause-answers : goal.returns-clause-answers
returns-clause-answers c = bus_of_answer

pub returns-clause-changes : goal.returns-clause-changes
returns-clause-changes c = bus_of_after

pub returns-clause-holds : goal.returns-clause-holds
returns-clause-holds c m = refl
