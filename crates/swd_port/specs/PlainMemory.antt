-- The memory behind the access port: words at addresses, a log of transfers, and its capacity. All of it is this
-- project's choice; the standard leaves the memory system open.
use Rattle.std.specs.Prelude.{ℕ, List}
use Rattle.std.specs.Ordering.{nat_cmp}
use Rattle.std.specs.FinMap.{FinMap}
use Rattle.swd_port.specs.declared.access.Access.{Access}
use Rattle.swd_port.specs.declared.access.Access.TheVariants.{Read, Write}
use Rattle.swd_port.specs.declared.access.Transfer.{Transfer}

-- a finite map from byte addresses to words; the transfers that succeeded so far, the oldest first; and the capacity of
-- that log
pub record PlainMemory : Type 0 where
  pub words : FinMap nat_cmp ℕ
  pub log : List Transfer
  pub room : ℕ

-- the address of an access
abbrev pub plain_address : Access → ℕ
plain_address (Read at) = at
plain_address (Write at word) = at
