-- Lists of accesses over a bus.
use Rattle.std.specs.Prelude.{◌≡◌, ◌%◌, ◌^◌, ◌<◌, ◌==◌, Bool, List, [], ◌∷◌}
use Rattle.swd_port.specs.declared.access.Access.{Access}
use Rattle.swd_port.specs.declared.access.Access.TheVariants.{Read, Write}
use Rattle.swd_port.specs.declared.access.Answer.{Answer}
use Rattle.swd_port.specs.Bus.{Bus, bus_answer, bus_after}
use Rattle.swd_port.specs.PlainMemory.{plain_address}

-- the bus after a list of accesses, in order
abbrev pub memory_after : List Access → Bus → Bus
memory_after [] m = m
memory_after (a ∷ list) m = memory_after list (bus_after a m)

-- the answers to them
abbrev pub answers_of : List Access → Bus → List Answer
answers_of [] m = []
answers_of (a ∷ list) m = bus_answer a m ∷ answers_of list (bus_after a m)

-- the address is a multiple of 4
abbrev pub host_access_is_aligned : Access → Bool
host_access_is_aligned a = plain_address a % 4 == 0

-- words and addresses are in their ranges, and the address is a multiple of 4
abbrev pub IsHostAccess : Access → Type 0
IsHostAccess (Read at) = (at < 2 ^ 32) × (at % 4 ≡ 0)
IsHostAccess (Write at word) = (at < 2 ^ 32) × (at % 4 ≡ 0) × (word < 2 ^ 32)

-- the same for every access of a list
abbrev pub AreHostAccesses : List Access → Type 0
AreHostAccesses [] = Unit {0}
AreHostAccesses (a ∷ list) = IsHostAccess a × AreHostAccesses list
