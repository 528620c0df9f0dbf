-- Addresses along a burst.
use Rattle.std.specs.Prelude.{ℕ, ◌+◌, ◌/◌, ◌==◌, Bool, false, if◌then◌else◌, Option, Some, None}
use Rattle.swd_port.specs.declared.access.Access.{Access}
use Rattle.swd_port.specs.declared.access.Access.TheVariants.{Read, Write}

-- the next word's address, where it is in the same kilobyte: there TAR is defined after a transfer (IHI 0031, MEM-AP,
-- "Auto-incrementing the Transfer Address Register (TAR)")
abbrev pub burst_next_address : ℕ → Option ℕ
burst_next_address at = if (at + 4) / 1024 == at / 1024 then Some (at + 4) else None

-- an address is known to be this one
abbrev pub engine_knows_address : Option ℕ → ℕ → Bool
engine_knows_address None at = false
engine_knows_address (Some known) at = known == at

-- the following access continues this one: the same direction, at the next address in the same kilobyte
abbrev pub continues_burst : Access → Option Access → Bool
continues_burst (Read at) (Some (Read next)) = engine_knows_address (burst_next_address at) next
continues_burst (Write at word) (Some (Write next more)) = engine_knows_address (burst_next_address at) next
continues_burst a following = false
