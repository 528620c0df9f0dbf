-- What one access does to a memory with a core beside it that keeps a log, and the bus that it is.
use Rattle.std.specs.Prelude.{ℕ, ◌++◌, ◌∷◌, [], List, length, nat_lt, Bool, Option, None, is_some, if◌then◌else◌}
use Rattle.swd_port.specs.declared.access.Access.{Access}
use Rattle.swd_port.specs.declared.access.Transfer.{Transfer}
use Rattle.swd_port.specs.Bus.{Bus, bus_transfer_of}
use Rattle.swd_target.specs.Devices.{bus_by}
use Rattle.swd_devices.specs.declared.core_target.CoreTarget.{CoreTarget}
use Rattle.swd_devices.specs.declared.logged_core.LoggedCore.{LoggedCore}
use Rattle.swd_devices.specs.CoreTargets.{core_target_after, core_target_answer}

-- the memory and the core, the transfers that succeeded, the oldest first, and how many may
pub record LoggedCoreState : Type 0 where
  pub target : CoreTarget (Unit {0})
  pub log : List Transfer
  pub room : ℕ

-- a memory and a core, whatever allocates
abbrev pub core_target_parts : {A : Type 0} → CoreTarget A → CoreTarget (Unit {0})
core_target_parts s = record { memory = s.memory; core = s.core; table = s.table }

abbrev pub logged_core_state : {A : Type 0} → LoggedCore A → LoggedCoreState
logged_core_state s = record { target = core_target_parts s.target; log = s.log.items; room = s.room }

-- a further transfer can succeed
abbrev pub logged_core_has_room : LoggedCoreState → Bool
logged_core_has_room s = nat_lt (length s.log) s.room

-- the answer to an access: once the log is full a bus error
abbrev pub logged_core_answer : Access → LoggedCoreState → Option ℕ
logged_core_answer a s = if logged_core_has_room s then core_target_answer a s.target else None

-- without a log: what was answered is that of a bus with this answer
abbrev pub logged_core_transfer : Access → LoggedCoreState → Transfer
logged_core_transfer a s = bus_transfer_of a (bus_by logged_core_answer (λ _ state. state) [] s)

-- the memory, the core and the log after an access
abbrev pub logged_core_after : Access → LoggedCoreState → LoggedCoreState
logged_core_after a s = record s {
  target = if logged_core_has_room s then core_target_after a s.target else s.target;
  log = if is_some (logged_core_answer a s) then s.log ++ logged_core_transfer a s ∷ [] else s.log;
}

-- the bus that it is
abbrev pub logged_core_bus : LoggedCoreState → Bus
logged_core_bus s = bus_by logged_core_answer logged_core_after s.log s
