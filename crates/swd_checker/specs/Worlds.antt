-- Worlds: what the steps of the port model leave of the states that a world describes. The rules are those of swd_port.
pub use Rattle.swd_checker.specs.declared.world.World.{World}
pub use Rattle.swd_checker.specs.declared.world.Power.{Power}
pub use Rattle.swd_checker.specs.declared.world.Power.TheVariants.{Off as PowerOff, Unseen as PowerUnseen}
pub use Rattle.swd_checker.specs.declared.world.Power.TheVariants.{Late as PowerLate, Seen as PowerSeen}
pub use Rattle.swd_checker.specs.declared.world.Transfer.{Transfer}
pub use Rattle.swd_checker.specs.declared.world.Transfer.TheVariants.{Read as TransferRead, Write as TransferWrite}
pub use Rattle.swd_checker.specs.declared.tar.Tar.{Tar}
pub use Rattle.swd_checker.specs.declared.tar.Tar.TheVariants.{Unknown as TarUnknown, From as TarFrom}
pub use Rattle.swd_checker.specs.declared.held.Held.{Held}
pub use Rattle.swd_checker.specs.declared.held.Held.TheVariants.{Unknown as HeldUnknown, Word as HeldWord}
pub use Rattle.swd_checker.specs.declared.held.Held.TheVariants.{Csw as HeldCsw, Seen as HeldSeen}
use Rattle.std.specs.Prelude.{◌+◌, ◌*◌, ◌%◌, ◌&&◌, ◌||◌, not, Bool, true, false, if◌then◌else◌, Option, Some, None}
use Rattle.std.specs.Prelude.{nat_lt}
use Rattle.swd_port.specs.declared.register.Register.{Register}
use Rattle.swd_port.specs.declared.state.Reset.TheVariants.{Unreset, Fresh}
use Rattle.swd_port.specs.Answers.{is_port_unpowered}
use Rattle.swd_port.specs.Asking.{is_port_posted}

-- a target in its reset state
abbrev pub world_made : World
world_made = record {
  reset = Unreset;
  sticky_error = false;
  write_error = false;
  read_ok = false;
  debug = PowerOff;
  system = PowerOff;
  mem_ap = true;
  bank0 = true;
  increments = false;
  pending = None;
  awaits = false;
  tar = TarFrom 0 0;
  buffer = HeldUnknown;
  last_returned = HeldUnknown;
}

-- TAR after an increment: at the end of a kilobyte it is unknown
abbrev pub checked_tar_incremented : Tar → Tar
checked_tar_incremented TarUnknown = TarUnknown
checked_tar_incremented (TarFrom first more) =
    if nat_lt (first % 1024 + 4 * more + 4) 1024 then TarFrom (first + 4) more else TarUnknown

-- the read buffer once a transfer succeeded
abbrev pub checked_buffer_moved : Transfer → Held → Held
checked_buffer_moved TransferRead buffer = HeldWord
checked_buffer_moved TransferWrite buffer = buffer

-- the pending transfer succeeded
abbrev pub world_success_of : Option Transfer → World → World
world_success_of None w = w
world_success_of (Some transfer) w = record w {
  pending = None;
  tar = if w.increments then checked_tar_incremented w.tar else w.tar;
  buffer = checked_buffer_moved transfer w.buffer;
}

abbrev pub world_succeeded : World → World
world_succeeded w = world_success_of w.pending w

-- the pending transfer was a bus error
abbrev pub world_failed : World → World
world_failed w = record w { pending = None; sticky_error = true; tar = TarUnknown; buffer = HeldUnknown }

-- a line reset
abbrev pub world_after_reset : World → World
world_after_reset w = record w { reset = Fresh; write_error = w.write_error || w.awaits; awaits = false }

-- an access port may work with the power
abbrev pub is_checked_power_there : Power → Bool
is_checked_power_there PowerUnseen = true
is_checked_power_there PowerSeen = true
is_checked_power_there power = false

-- WAIT
abbrev pub world_after_wait : Register → World → World
world_after_wait r w = record w { read_ok = w.read_ok && not (is_port_posted r) }

-- FAULT, where nothing is pending
abbrev pub world_after_fault : Register → Bool → World → World
world_after_fault r ap w = record w {
  read_ok = w.read_ok && not (is_port_posted r);
  sticky_error = w.sticky_error || is_port_unpowered ap (is_checked_power_there w.debug);
}

-- OK to a request that can be refused: the pending transfer succeeded, and an access port has power
abbrev pub world_confirmed : Bool → World → World
world_confirmed ap w = record (world_succeeded w) { debug = if ap then PowerSeen else (world_succeeded w).debug }

-- a write's data arrived damaged
abbrev pub world_after_damage : World → World
world_after_damage w = record w { write_error = true }

-- the pending write was given up
abbrev pub world_given_up : World → World
world_given_up w = record w { pending = None; write_error = true }
