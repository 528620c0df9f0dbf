-- Words of which something is known: that were seen, or that a register may return.
pub use Rattle.swd_checker.specs.declared.near.Words.{Words}
pub use Rattle.swd_checker.specs.declared.near.Words.TheVariants.{Odd as WordsOdd, Csw as WordsOfCsw}
pub use Rattle.swd_checker.specs.declared.near.Words.TheVariants.{Status as WordsOfStatus, Near as WordsNear}
use Rattle.std.specs.Prelude.{ℕ, ◌≡◌, Bool, true, false, Option, Some, None}
use Rattle.swd_port.specs.Registers.{register_bit}
use Rattle.swd_checker.specs.declared.near.Near.{Near}
use Rattle.swd_checker.specs.Worlds.{World, Power, PowerOff, PowerSeen, Held}
use Rattle.swd_checker.specs.Described.{IsCheckedNear, IsCheckedCsw, checked_near_at, CheckedHeld}

-- a power that is requested, and one that is acknowledged
abbrev pub is_checked_power_on : Power → Bool
is_checked_power_on PowerOff = false
is_checked_power_on power = true

abbrev pub is_checked_power_seen : Power → Bool
is_checked_power_seen PowerSeen = true
is_checked_power_seen power = false

-- CTRL/STAT in a world in which the acknowledgement of each power was seen, or seen to be late
pub record IsCheckedStatus (w : World) (word : ℕ) : Type 0 where
  pub sticky_error : register_bit 5 word ≡ w.sticky_error
  pub read_ok : register_bit 6 word ≡ w.read_ok
  pub write_error : register_bit 7 word ≡ w.write_error
  pub debug : register_bit 28 word ≡ is_checked_power_on w.debug
  pub debug_there : register_bit 29 word ≡ is_checked_power_seen w.debug
  pub system : register_bit 30 word ≡ is_checked_power_on w.system
  pub system_there : register_bit 31 word ≡ is_checked_power_seen w.system

abbrev pub IsCheckedWord : Words → ℕ → Type 0
IsCheckedWord WordsOdd word = register_bit 0 word ≡ true
IsCheckedWord (WordsOfCsw increments) word = IsCheckedCsw increments word
IsCheckedWord (WordsOfStatus w) word = IsCheckedStatus w word
IsCheckedWord (WordsNear near) word = IsCheckedNear near word

-- there are such words, and this is one of them
abbrev pub IsSomeNear : Option Near → ℕ → Type 0
IsSomeNear None word = ⊥
IsSomeNear (Some near) word = IsCheckedNear near word

abbrev pub IsSomeHeld : Option Held → Option ℕ → Type 0
IsSomeHeld None value = ⊥
IsSomeHeld (Some held) value = CheckedHeld held value

-- all that the second allows is allowed by the first
pub record HeldIncludes (held other : Held) : Type 0 where
  pub each : (value : Option ℕ) → CheckedHeld other value → CheckedHeld held value

pub record NearIncludes (words : Words) (near : Near) : Type 0 where
  pub each : (word : ℕ) → IsCheckedNear near word → IsCheckedWord words word

-- the word at a place, if it is one of the near ones, and one of these
abbrev pub IsCheckedNearAt : Near → ℕ → Words → Option ℕ → Type 0
IsCheckedNearAt near place words None = register_bit place near.places ≡ true
    → IsCheckedWord words (checked_near_at near place) → ⊥
IsCheckedNearAt near place words (Some word) = (register_bit place near.places ≡ true)
    × (word ≡ checked_near_at near place) × IsCheckedWord words word
