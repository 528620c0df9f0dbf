-- What one access does to the four registers of `Registers`.
use Rattle.std.specs.Prelude.{ℕ, ◌-◌, ◌%◌, ◌==◌, true, false, Option, Some, None, is_some, if◌then◌else◌}
use Rattle.swd_bits.specs.Bits.{bit}
use Rattle.swd_port.specs.declared.access.Access.{Access}
use Rattle.swd_port.specs.declared.access.Access.TheVariants.{Read, Write}
use Rattle.swd_devices.specs.declared.registers.Key.{Key}
use Rattle.swd_devices.specs.declared.registers.Key.TheVariants.{Locked, Open, Shut}
use Rattle.swd_devices.specs.declared.registers.Registers.{Registers}
use Rattle.swd_devices.specs.Accesses.{no_access_seen, reads_seen, writes_seen}

-- the registers before any access, of which the status comes ready after so many reads
abbrev pub registers_made : ℕ → Registers
registers_made reads = record {
  left = reads;
  key = Locked;
  first = None;
  second = None;
  flag = false;
  status_seen = no_access_seen;
  key_seen = no_access_seen;
  fifo_seen = no_access_seen;
  flag_seen = no_access_seen;
}

-- the answer to an access: a bus error, or the word that a read returns
abbrev pub registers_answer : Access → Registers → Option ℕ
registers_answer (Read at) s =
    if at == 0x4000_0000 then Some (if s.left == 0 then 1 else 0)
    else if at == 0x4000_0004 then None
    else if at == 0x4000_0008 then s.first
    else if at == 0x4000_000c then Some (bit s.flag)
    else None
registers_answer (Write at word) s =
    if at == 0x4000_0000 then None
    else if at == 0x4000_0004 then Some 0
    else if at == 0x4000_0008 then (if is_some s.second then None else Some 0)
    else if at == 0x4000_000c then Some 0
    else None

-- the status after a read
abbrev pub status_once_read : Registers → Registers
status_once_read s =
    record s { status_seen = reads_seen s.status_seen; left = if s.left == 0 then 0 else s.left - 1 }

-- the key register after a write
abbrev pub key_after : Key → ℕ → Key
key_after Locked word = if word == 0x4567_0123 then Open else Shut
key_after key word = Shut

-- the FIFO after a read: the oldest word is gone
abbrev pub fifo_once_read : Registers → Registers
fifo_once_read s = record s { fifo_seen = reads_seen s.fifo_seen; first = s.second; second = None }

-- the FIFO after a write: a word more, and the flag is set, unless it was full
abbrev pub fifo_once_written : ℕ → Registers → Registers
fifo_once_written word s =
    if is_some s.second then record s { fifo_seen = writes_seen s.fifo_seen }
    else if is_some s.first then record s { fifo_seen = writes_seen s.fifo_seen; second = Some word; flag = true }
    else record s { fifo_seen = writes_seen s.fifo_seen; first = Some word; flag = true }

-- the flag after a write: bit 0 clears it
abbrev pub flag_once_written : ℕ → Registers → Registers
flag_once_written word s =
    record s { flag_seen = writes_seen s.flag_seen; flag = if word % 2 == 1 then false else s.flag }

-- the registers after an access
abbrev pub registers_after : Access → Registers → Registers
registers_after (Read at) s =
    if at == 0x4000_0000 then status_once_read s
    else if at == 0x4000_0004 then record s { key_seen = reads_seen s.key_seen }
    else if at == 0x4000_0008 then fifo_once_read s
    else if at == 0x4000_000c then record s { flag_seen = reads_seen s.flag_seen }
    else s
registers_after (Write at word) s =
    if at == 0x4000_0000 then record s { status_seen = writes_seen s.status_seen }
    else if at == 0x4000_0004 then record s { key_seen = writes_seen s.key_seen; key = key_after s.key word }
    else if at == 0x4000_0008 then fifo_once_written word s
    else if at == 0x4000_000c then flag_once_written word s
    else s
