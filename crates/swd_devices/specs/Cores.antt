-- What the debug registers of `Core` do.
use Rattle.std.specs.Prelude.{ℕ, ◌+◌, ◌-◌, ◌*◌, ◌/◌, ◌%◌, ◌^◌, ◌==◌, ◌&&◌, not, nat_le, nat_lt, Bool, true, false}
use Rattle.std.specs.Prelude.{bit_and, bit_or, bit_xor, replicate, slice_index, slice_set, if◌then◌else◌}
use Rattle.swd_devices.specs.declared.halting.Core.{Core}

-- a running core that wasn't reset yet
abbrev pub core_made : ℕ → Core
core_made work = record {
  control = 0;
  halted = false;
  stepped = false;
  was_reset = false;
  busy = 0;
  work = work;
  moved = 0;
  monitor = 0;
  events = 0;
  registers = replicate 21 0;
}

-- the addresses of the debug registers (DDI 0403, "The system address map": the Private Peripheral Bus)
abbrev pub core_is_address : ℕ → Bool
core_is_address at = nat_le 0xe000_0000 at && nat_lt at 0xe010_0000

-- a write of AIRCR with its key that asks for a reset
abbrev pub core_asks_reset : ℕ → ℕ → Bool
core_asks_reset at word = (at == 0xe000_ed0c) && ((word / 0x1_0000 == 0x05fa) && (word / 4 % 2 == 1))

-- it runs, and its instructions aren't Thumb
abbrev pub core_locked_up : Core → Bool
core_locked_up s = not s.halted && (slice_index s.registers 16 / 0x100_0000 % 2 == 0)

-- DHCSR: the control bits, S_REGRDY, S_HALT, S_LOCKUP, S_RETIRE_ST and S_RESET_ST
abbrev pub core_halting_word : Core → ℕ
core_halting_word s =
    bit_or (bit_or (bit_or (bit_or (bit_or s.control
    (if s.busy == 0 then 0x1_0000 else 0))
    (if s.halted then 0x2_0000 else 0))
    (if core_locked_up s then 0x8_0000 else 0))
    (if s.stepped then 0x100_0000 else 0))
    (if s.was_reset then 0x200_0000 else 0)

-- the word at an address
abbrev pub core_word : ℕ → Core → ℕ
core_word at s =
    if at == 0xe000_ed00 then 0x410f_c241
    else if at == 0xe000_ed0c then 0xfa05_0000
    else if at == 0xe000_ed30 then s.events
    else if at == 0xe000_edf0 then core_halting_word s
    else if (at == 0xe000_edf8) && (s.busy == 0) then s.moved
    else if at == 0xe000_edfc then s.monitor
    else 0

-- the core after a read
abbrev pub core_after_read : ℕ → Core → Core
core_after_read at s =
    if at == 0xe000_edf0 then record s { busy = s.busy - 1; stepped = false; was_reset = false } else s

-- the core after one instruction
abbrev pub core_stepped : Core → Core
core_stepped s = record s {
  control = bit_or s.control 2;
  events = bit_or s.events 1;
  stepped = true;
  registers = slice_set s.registers 15 ((slice_index s.registers 15 + 2) % 2 ^ 32);
}

-- the core after a write of DHCSR
abbrev pub core_after_halting : ℕ → Core → Core
core_after_halting word s =
    let halts = word / 2 % 2 == 1 in
    let controlled = record s { control = bit_and word 0x2f } in
    if not (word / 0x1_0000 == 0xa05f) then s
    else if word % 2 == 0 then record s { control = 0; halted = false }
    else if halts && not s.halted then record controlled { events = bit_or s.events 1; halted = true }
    else if not halts && (s.halted && (word / 4 % 2 == 1)) then core_stepped controlled
    else if not halts then record controlled { halted = false }
    else controlled

-- the place of a core register by its number in DCRSR: SP is PSP where bit 1 of CONTROL is set, and MSP otherwise
abbrev pub core_place : ℕ → Core → ℕ
core_place number s =
    if not (number == 13) then number
    else if slice_index s.registers 20 / 0x200_0000 % 2 == 1 then 18
    else 17

-- the core after a write of DCRSR
abbrev pub core_after_transfer : ℕ → Core → Core
core_after_transfer word s =
    let place = core_place (word % 0x80) s in
    if not s.halted then s
    else if word / 0x1_0000 % 2 == 1 then
    (if nat_lt place 21 then record s { busy = s.work; registers = slice_set s.registers place s.moved }
    else record s { busy = s.work })
    else record s { busy = s.work; moved = if nat_lt place 21 then slice_index s.registers place else 0 }

-- the core after a write
abbrev pub core_after_write : ℕ → ℕ → Core → Core
core_after_write at word s =
    if at == 0xe000_ed30 then record s { events = bit_and s.events (bit_xor word 0xffff_ffff) }
    else if at == 0xe000_edf0 then core_after_halting word s
    else if at == 0xe000_edf4 then core_after_transfer word s
    else if at == 0xe000_edf8 then record s { moved = word }
    else if at == 0xe000_edfc then record s { monitor = word }
    else s

-- the core after a reset, with the first two words of its vector table
abbrev pub core_after_reset : ℕ → ℕ → Core → Core
core_after_reset sp pc s =
    let catches = (s.monitor % 2 == 1) && (s.control % 2 == 1) in
    record s {
      control = if catches then bit_or (bit_and s.control 1) 2 else bit_and s.control 1;
      halted = catches;
      events = if catches then bit_or s.events 8 else s.events;
      was_reset = true;
      busy = 0;
      registers = slice_set (slice_set (slice_set (slice_set (slice_set (slice_set s.registers
          14 0xffff_ffff)
          15 (bit_and pc 0xffff_fffe))
          16 (bit_and pc 1 * 0x100_0000))
          17 (bit_and sp 0xffff_fffc))
          18 0)
          20 0;
    }
