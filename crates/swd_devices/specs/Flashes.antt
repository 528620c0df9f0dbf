-- What one access does to the flash controller of `Flash`.
use Rattle.std.specs.Prelude.{ℕ, ◌+◌, ◌*◌, ◌-◌, ◌==◌, ◌&&◌, Bool, true, false, Option, Some, None, is_some, unwrap_or}
use Rattle.std.specs.Prelude.{if◌then◌else◌}
use Rattle.swd_bits.specs.Bits.{bit}
use Rattle.swd_port.specs.declared.access.Access.{Access}
use Rattle.swd_port.specs.declared.access.Access.TheVariants.{Read, Write}
use Rattle.swd_devices.specs.declared.flash.Flash.{Flash}
use Rattle.swd_devices.specs.declared.flash.Lock.{Lock}
use Rattle.swd_devices.specs.declared.flash.Lock.TheVariants.{Locked, Half, Open, Shut}
use Rattle.swd_devices.specs.Accesses.{no_access_seen, reads_seen, writes_seen}

-- a locked controller with these words in its page, before any access
abbrev pub flash_made : ℕ → ℕ → ℕ → Flash
flash_made low high work = record {
  lock = Locked;
  busy = 0;
  work = work;
  failed = false;
  command = 0;
  half = None;
  low = low;
  high = high;
  keys_seen = no_access_seen;
  control_seen = no_access_seen;
  page_seen = no_access_seen;
}

abbrev pub lock_is_open : Lock → Bool
lock_is_open Open = true
lock_is_open lock = false

-- the lock after a word was written as a key
abbrev pub lock_after : Lock → ℕ → Lock
lock_after Locked word = if word == 0x4567_0123 then Half else Shut
lock_after Half word = if word == 0xcdef_89ab then Open else Shut
lock_after lock word = Shut

-- the status: bit 16 while it is busy, bit 1 after an error
abbrev pub flash_status : Flash → ℕ
flash_status s = (if s.busy == 0 then 0 else 0x1_0000) + 2 * bit s.failed

-- words can be programmed
abbrev pub flash_is_ready : Flash → Bool
flash_is_ready s = lock_is_open s.lock && (s.busy == 0 && s.command == 1)

-- the upper word can be programmed, with the lower one
abbrev pub flash_takes_high : Flash → Bool
flash_takes_high s = flash_is_ready s && (is_some s.half && (s.low == 0xffff_ffff && s.high == 0xffff_ffff))

-- the answer to an access: a bus error, or the word that a read returns
abbrev pub flash_answer : Access → Flash → Option ℕ
flash_answer (Read at) s =
    if at == 0x4002_2008 then None
    else if at == 0x4002_2010 then Some (flash_status s)
    else if at == 0x4002_2014 then Some (if lock_is_open s.lock then s.command else 0x8000_0000)
    else if at == 0x0800_5000 then Some s.low
    else if at == 0x0800_5004 then Some s.high
    else None
flash_answer (Write at word) s =
    if at == 0x4002_2008 then Some 0
    else if at == 0x4002_2010 then Some 0
    else if at == 0x4002_2014 then (if lock_is_open s.lock then Some 0 else None)
    else if at == 0x0800_5000 then (if flash_is_ready s then Some 0 else None)
    else if at == 0x0800_5004 then (if flash_takes_high s then Some 0 else None)
    else None

-- the controller after a word was written as a key
abbrev pub flash_once_keyed : ℕ → Flash → Flash
flash_once_keyed word s = record s { keys_seen = writes_seen s.keys_seen; lock = lock_after s.lock word }

-- the controller after a command
abbrev pub flash_once_commanded : ℕ → Flash → Flash
flash_once_commanded word s =
    let seen = writes_seen s.control_seen in
    if lock_is_open s.lock then
    if word == 0x8000_0000 then record s { control_seen = seen; command = word; lock = Locked }
    else if word == 0x1_0052 && s.busy == 0 then
    record s { control_seen = seen; command = word; low = 0xffff_ffff; high = 0xffff_ffff; busy = s.work }
    else record s { control_seen = seen; command = word }
    else record s { control_seen = seen; failed = true }

-- the controller after the lower word of the page was written
abbrev pub flash_once_low_written : ℕ → Flash → Flash
flash_once_low_written word s =
    if flash_is_ready s then record s { page_seen = writes_seen s.page_seen; half = Some word }
    else record s { page_seen = writes_seen s.page_seen; failed = true }

-- the controller after the upper word of the page was written, which programs both
abbrev pub flash_once_high_written : ℕ → Flash → Flash
flash_once_high_written word s =
    if flash_takes_high s then record s {
      page_seen = writes_seen s.page_seen;
      low = unwrap_or s.half 0xffff_ffff;
      high = word;
      half = None;
      busy = s.work;
    }
    else record s { page_seen = writes_seen s.page_seen; failed = true }

-- the controller after an access
abbrev pub flash_after : Access → Flash → Flash
flash_after (Read at) s =
    if at == 0x4002_2008 then record s { keys_seen = reads_seen s.keys_seen }
    else if at == 0x4002_2010 then record s { busy = s.busy - 1 }
    else if at == 0x4002_2014 then record s { control_seen = reads_seen s.control_seen }
    else if at == 0x0800_5000 then record s { page_seen = reads_seen s.page_seen }
    else if at == 0x0800_5004 then record s { page_seen = reads_seen s.page_seen }
    else s
flash_after (Write at word) s =
    if at == 0x4002_2008 then flash_once_keyed word s
    else if at == 0x4002_2010 then record s { failed = false }
    else if at == 0x4002_2014 then flash_once_commanded word s
    else if at == 0x0800_5000 then flash_once_low_written word s
    else if at == 0x0800_5004 then flash_once_high_written word s
    else s
