-- Which worlds explain all that others do.
use Rattle.std.specs.Prelude.{ℕ, ◌≡◌, ◌≤◌, ◌+◌, ◌*◌, Bool, Option, Some, None}
use Rattle.swd_port.specs.declared.state.PowerUp.{PowerUp}
use Rattle.swd_port.specs.Port.{Target}
use Rattle.swd_checker.specs.Worlds.{World, Power, Tar, TarUnknown, TarFrom}
use Rattle.swd_checker.specs.Described.{CheckedPower, WorldDescribes}
use Rattle.swd_checker.specs.Words.{HeldIncludes}

-- each address of the first is one of the second
abbrev pub IsTarWithin : Tar → Tar → Type 0
IsTarWithin tar TarUnknown = Unit {0}
IsTarWithin TarUnknown (TarFrom first more) = ⊥
IsTarWithin (TarFrom from count) (TarFrom first more) =
    (apart : ℕ) × (from ≡ first + 4 * apart) × (apart + count ≤ more)

-- an address that has those of both, if any
abbrev pub AreTarsJoined : Tar → Tar → Option Tar → Type 0
AreTarsJoined tar other None = Unit {0}
AreTarsJoined tar other (Some joined) = IsTarWithin tar joined × IsTarWithin other joined

pub record PowerIncludes (power other : Power) : Type 0 where
  pub each : (on : Bool) (up : PowerUp) → CheckedPower other on up → CheckedPower power on up

-- they differ at most in the powers, TAR, the read buffer and the last returned value
pub record IsWorldAlike (w other : World) : Type 0 where
  pub reset : w.reset ≡ other.reset
  pub sticky_error : w.sticky_error ≡ other.sticky_error
  pub write_error : w.write_error ≡ other.write_error
  pub read_ok : w.read_ok ≡ other.read_ok
  pub mem_ap : w.mem_ap ≡ other.mem_ap
  pub bank0 : w.bank0 ≡ other.bank0
  pub increments : w.increments ≡ other.increments
  pub pending : w.pending ≡ other.pending
  pub awaits : w.awaits ≡ other.awaits

-- the first explains all that the second does, but for TAR
pub record IsWorldWider (w other : World) : Type 0 where
  pub alike : IsWorldAlike w other
  pub debug : PowerIncludes w.debug other.debug
  pub system : PowerIncludes w.system other.system
  pub buffer : HeldIncludes w.buffer other.buffer
  pub last_returned : HeldIncludes w.last_returned other.last_returned

abbrev pub IsWorldWithTar : World → Option Tar → Option World → Type 0
IsWorldWithTar w None result = result ≡ None
IsWorldWithTar w (Some tar) result = result ≡ Some (record w { tar = tar })

-- all that the second describes is described by the first
pub record WorldIncludes (w other : World) : Type 0 where
  pub awaits : w.awaits ≡ other.awaits
  pub each : (x : Target) → WorldDescribes other x → WorldDescribes w x

abbrev pub AreWorldsJoined : World → World → Option World → Type 0
AreWorldsJoined w other None = Unit {0}
AreWorldsJoined w other (Some joined) = WorldIncludes joined w × WorldIncludes joined other
