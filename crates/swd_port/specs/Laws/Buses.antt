-- Laws of a plain memory as a bus. So whatever is proved for every bus holds for every plain memory.
use Rattle.std.specs.Prelude.{◌≡◌}
use Rattle.swd_port.specs.declared.access.Access.{Access}
use Rattle.swd_port.specs.PlainMemory.{PlainMemory}
use Rattle.swd_port.specs.PlainAnswers.{plain_answer, plain_after}
use Rattle.swd_port.specs.Bus.{bus_answer, bus_after}
use Rattle.swd_port.specs.PlainBus.{bus_of, plain_of}

-- it answers as the memory does
abbrev pub BusOfAnswers : Type 0
BusOfAnswers = (a : Access) (m : PlainMemory) → bus_answer a (bus_of m) ≡ plain_answer a m

-- after an access it is the bus of the memory after this access
abbrev pub BusOfChanges : Type 0
BusOfChanges = (a : Access) (m : PlainMemory) → bus_after a (bus_of m) ≡ bus_of (plain_after a m)

-- its memory is this one, so that the buses of two memories differ
abbrev pub BusOfHolds : Type 0
BusOfHolds = (m : PlainMemory) → plain_of (bus_of m) ≡ m
