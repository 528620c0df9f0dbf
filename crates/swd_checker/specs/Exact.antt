-- The states of the port model that a world stands for exactly: not more than those to which a run leads.
use Rattle.std.specs.Prelude.{ℕ, ◌≡◌, ◌≢◌, ◌<◌, ◌+◌, ◌*◌, ◌%◌, ◌^◌, true, List, Option, Some, None}
use Rattle.swd_port.specs.declared.access.Access.{Access}
use Rattle.swd_port.specs.declared.state.PowerUp.{PowerUp}
use Rattle.swd_port.specs.declared.state.PowerUp.TheVariants.{Unseen}
use Rattle.swd_port.specs.Registers.{register_bit}
use Rattle.swd_port.specs.Port.{Port, Target}
use Rattle.swd_port.specs.Leading.{port_line_awaits}
use Rattle.swd_checker.specs.declared.near.Near.{Near}
use Rattle.swd_checker.specs.Worlds.{World, Power, PowerUnseen, Tar, TarUnknown, TarFrom, Held, HeldUnknown, HeldWord}
use Rattle.swd_checker.specs.Worlds.{HeldCsw, HeldSeen, TransferRead}
use Rattle.swd_checker.specs.Described.{IsCheckedNear, IsCheckedCsw, CheckedTar, IsWorldNow}

-- the words of a target that a world may leave open
pub record WorldWords : Type 0 where
  pub tar : Option ℕ
  pub buffer : Option ℕ
  pub last_returned : Option ℕ

-- what a bus answers from now on
abbrev pub CheckedAnswers : Type 0
CheckedAnswers = List Access → Access → Option ℕ

-- TAR: where the world knows nothing, the model doesn't, so that any address may replace it
abbrev pub IsTarExact : Tar → Option ℕ → Type 0
IsTarExact TarUnknown tar = tar ≡ None
IsTarExact (TarFrom first more) tar = CheckedTar (TarFrom first more) tar

-- the read buffer, or the last returned value
abbrev pub IsHeldExact : Held → Option ℕ → Type 0
IsHeldExact HeldUnknown value = value ≡ None
IsHeldExact HeldWord value = (word : ℕ) × (value ≡ Some word) × (word < 2 ^ 32)
IsHeldExact (HeldCsw increments) value = (word : ℕ) × (value ≡ Some word) × (word < 2 ^ 32)
    × IsCheckedCsw increments word
IsHeldExact (HeldSeen near) value = (word : ℕ) × (value ≡ Some word) × IsCheckedNear near word

-- a power that is requested, and of which nothing was seen
abbrev pub IsPowerExact : Power → PowerUp → Type 0
IsPowerExact PowerUnseen up = up ≡ Unseen
IsPowerExact power up = Unit {0}

-- the words that a world allows
pub record IsWorldExact (w : World) (v : WorldWords) : Type 0 where
  pub tar : IsTarExact w.tar v.tar
  pub buffer : IsHeldExact w.buffer v.buffer
  pub last_returned : IsHeldExact w.last_returned v.last_returned

-- all addresses of an interval are words, in one kilobyte
abbrev pub IsTarSound : Tar → Type 0
IsTarSound TarUnknown = Unit {0}
IsTarSound (TarFrom first more) = (first < 2 ^ 32) × (first % 1024 + 4 * more < 1024)

-- there is such a word, and each is below 2^32
pub record IsNearSound (near : Near) : Type 0 where
  pub small : near.word < 2 ^ 32
  pub place : ℕ
  pub inside : place < 33
  pub is : register_bit place near.places ≡ true

abbrev pub IsHeldSound : Held → Type 0
IsHeldSound (HeldSeen near) = IsNearSound near
IsHeldSound held = Unit {0}

-- there are words that the world allows
pub record IsWorldSound (w : World) : Type 0 where
  pub tar : IsTarSound w.tar
  pub buffer : IsHeldSound w.buffer
  pub last_returned : IsHeldSound w.last_returned

-- the target has the world's fields and these words, this identification, and a bus that answers so
pub record IsWorldTarget (w : World) (n : ℕ) (v : WorldWords) (answers : CheckedAnswers) (x : Target) : Type 0 where
  pub now : IsWorldNow w x
  pub debug : IsPowerExact w.debug x.debug_up
  pub system : IsPowerExact w.system x.system_up
  pub tar : x.tar ≡ v.tar
  -- while a read is pending, the read buffer is of no meaning: the transfer replaces it
  pub buffer : w.pending ≢ Some TransferRead → x.buffer ≡ v.buffer
  pub last_returned : x.last_returned ≡ v.last_returned
  pub identification : x.identification ≡ n
  pub bus : x.memory.answers ≡ answers

pub record IsWorldPort (w : World) (n : ℕ) (v : WorldWords) (answers : CheckedAnswers) (s : Port) : Type 0 where
  pub target : IsWorldTarget w n v answers s.target
  pub awaits : port_line_awaits s.link.line ≡ w.awaits

-- the two differ at most in the words that they allow
pub record IsWorldSame (w other : World) : Type 0 where
  pub reset : w.reset ≡ other.reset
  pub sticky_error : w.sticky_error ≡ other.sticky_error
  pub write_error : w.write_error ≡ other.write_error
  pub read_ok : w.read_ok ≡ other.read_ok
  pub debug : w.debug ≡ other.debug
  pub system : w.system ≡ other.system
  pub mem_ap : w.mem_ap ≡ other.mem_ap
  pub bank0 : w.bank0 ≡ other.bank0
  pub increments : w.increments ≡ other.increments
  pub pending : w.pending ≡ other.pending
  pub awaits : w.awaits ≡ other.awaits
