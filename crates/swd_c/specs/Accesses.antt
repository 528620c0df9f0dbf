-- The accesses of a list in the caller's memory.
use Rattle.std.specs.Prelude.{ℕ, ◌==◌, if◌then◌else◌, Option, List, slice_get, option_map}
use Rattle.swd_port.specs.declared.access.Access.{Access}
use Rattle.swd_port.specs.declared.access.Access.TheVariants.{Read, Write}
use Rattle.swd_c.specs.declared.access.SwdAccess.{SwdAccess}

-- an access from its integers: `write` is 0 for a read
abbrev pub c_api_access : SwdAccess → Access
c_api_access a = if a.write == 0 then Read a.addr else Write a.addr a.word

-- the access at an index of a list, if there is one
abbrev pub c_api_access_at_index : List SwdAccess → ℕ → Option Access
c_api_access_at_index list index = option_map c_api_access (slice_get list index)
