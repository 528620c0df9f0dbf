-- The states of the port model that a world describes.
use Rattle.std.specs.Prelude.{ℕ, ◌≡◌, ◌≢◌, ◌<◌, ◌≤◌, ◌+◌, ◌*◌, ◌^◌, ◌==◌, Bool, true, false, if◌then◌else◌, Option}
use Rattle.std.specs.Prelude.{Some, is_some, bit_xor}
use Rattle.std.specs.Option.{option_map}
use Rattle.swd_port.specs.Registers.{register_bit, csw_of}
use Rattle.swd_port.specs.declared.state.PowerUp.{PowerUp}
use Rattle.swd_port.specs.declared.state.PowerUp.TheVariants.{Late, Seen}
use Rattle.swd_port.specs.declared.state.Drw.{Drw}
use Rattle.swd_port.specs.declared.state.Drw.TheVariants.{Reads, Writes}
use Rattle.swd_port.specs.Port.{Target, port_selects_mem_ap}
use Rattle.swd_checker.specs.declared.near.Near.{Near}
use Rattle.swd_checker.specs.Worlds.{World, Power, PowerOff, PowerUnseen, PowerLate, PowerSeen, Transfer, TransferRead}
use Rattle.swd_checker.specs.Worlds.{TransferWrite, Tar, TarUnknown, TarFrom, Held, HeldUnknown, HeldWord, HeldCsw}
use Rattle.swd_checker.specs.Worlds.{HeldSeen, world_succeeded, world_failed}

-- a word with the bit at a place of its data phase changed; place 32 is that of the parity
abbrev pub checked_changed_at : ℕ → ℕ → ℕ
checked_changed_at word place = if place == 32 then word else bit_xor word (2 ^ place)

abbrev pub checked_near_at : Near → ℕ → ℕ
checked_near_at near place = checked_changed_at near.word place

-- one of the words of which one bit of a data phase may have been changed
abbrev pub IsCheckedNear : Near → ℕ → Type 0
IsCheckedNear near word = (place : ℕ) × (place < 33) × (register_bit place near.places ≡ true)
    × (word ≡ checked_near_at near place)

-- Size is a word, AddrInc is single or off, DeviceEn is 1
pub record IsCheckedCsw (increments : Bool) (word : ℕ) : Type 0 where
  pub size : (csw_of word).size ≡ 2
  pub addr_inc : (csw_of word).addr_inc ≡ (if increments then 1 else 0)
  pub device_en : (csw_of word).device_en ≡ true

-- the read buffer, or the last returned value
abbrev pub CheckedHeld : Held → Option ℕ → Type 0
CheckedHeld HeldUnknown value = Unit {0}
CheckedHeld HeldWord value = (word : ℕ) × (value ≡ Some word)
CheckedHeld (HeldCsw increments) value = (word : ℕ) × (value ≡ Some word) × IsCheckedCsw increments word
CheckedHeld (HeldSeen near) value = (word : ℕ) × (value ≡ Some word) × IsCheckedNear near word

-- TAR; all addresses of an interval are in one kilobyte
abbrev pub CheckedTar : Tar → Option ℕ → Type 0
CheckedTar TarUnknown tar = Unit {0}
CheckedTar (TarFrom first more) tar = (index : ℕ) × (index ≤ more) × (tar ≡ Some (first + 4 * index))

-- one of the powers: whether it is requested, and acknowledged
abbrev pub CheckedPower : Power → Bool → PowerUp → Type 0
CheckedPower PowerOff on up = on ≡ false
CheckedPower PowerUnseen on up = (on ≡ true) × (up ≢ Late)
CheckedPower PowerLate on up = (on ≡ true) × (up ≡ Late)
CheckedPower PowerSeen on up = (on ≡ true) × (up ≡ Seen)

-- the direction of a DRW transfer
abbrev pub checked_transfer_of : Drw → Transfer
checked_transfer_of Reads = TransferRead
checked_transfer_of (Writes word) = TransferWrite

-- the world has this target's fields, and the transfer that is pending there
pub record IsWorldNow (w : World) (x : Target) : Type 0 where
  pub reset : x.reset ≡ w.reset
  pub sticky_error : x.sticky_error ≡ w.sticky_error
  pub write_error : x.write_error ≡ w.write_error
  pub read_ok : x.read_ok ≡ w.read_ok
  pub debug : CheckedPower w.debug x.debug_power x.debug_up
  pub system : CheckedPower w.system x.system_power x.system_up
  pub mem_ap : port_selects_mem_ap x.select ≡ w.mem_ap
  pub bank0 : (x.select.dpbanksel == 0) ≡ w.bank0
  pub increments : x.increments ≡ w.increments
  pub pending : option_map checked_transfer_of x.pending ≡ w.pending
  pub tar : CheckedTar w.tar x.tar
  pub buffer : CheckedHeld w.buffer x.buffer
  pub last_returned : CheckedHeld w.last_returned x.last_returned

-- A world describes a target: the world's transfer is pending there, or succeeded already, or was a bus error already.
pub data WorldDescribes (w : World) (x : Target) : Type 0 where
  now : IsWorldNow w x → WorldDescribes w x
  done : is_some w.pending ≡ true → IsWorldNow (world_succeeded w) x → WorldDescribes w x
  failed : is_some w.pending ≡ true → IsWorldNow (world_failed w) x → WorldDescribes w x
