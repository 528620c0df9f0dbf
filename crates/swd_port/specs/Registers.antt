-- The fields of the registers, and the words that a target returns of them.
-- Source: IHI 0031, B2, "ABORT, AP Abort register", "CTRL/STAT, Control/Status register", "SELECT, AP Select
-- register"; and MEM-AP, "CSW, Control/Status Word register".
use Rattle.std.specs.Prelude.{ℕ, ◌+◌, ◌*◌, ◌/◌, ◌%◌, ◌^◌, ◌==◌, ◌&&◌, Bool, true, false}
use Rattle.std.specs.Int.RustNames.{bit_and}
use Rattle.swd_bits.specs.Bits.{bit}
use Rattle.swd_port.specs.declared.select.Select.{Select}
use Rattle.swd_port.specs.declared.csw.Csw.{Csw}

-- the bits that CTRL/STAT names, all but 24 and 25
abbrev pub ctrl_stat_mask : ℕ
ctrl_stat_mask = 0xfcff_ffff

-- bit n of a word, the least significant being 0
abbrev pub register_bit : ℕ → ℕ → Bool
register_bit n word = word / 2 ^ n % 2 == 1

-- APSEL [31:24], APBANKSEL [7:4], DPBANKSEL [3:0]
abbrev pub select_of : ℕ → Select
select_of word = record { apsel = word / 2 ^ 24 % 256; apbanksel = word / 16 % 16; dpbanksel = word % 16 }

-- SELECT 0: AP 0 and the banks 0
abbrev pub port_select_zero : Select
port_select_zero = record { apsel = 0; apbanksel = 0; dpbanksel = 0 }

-- Size [2:0], AddrInc [5:4], DeviceEn 6, TrInProg 7, and bits [30:24]
abbrev pub csw_of : ℕ → Csw
csw_of word = record {
  size = word % 8;
  addr_inc = word / 16 % 4;
  device_en = register_bit 6 word;
  tr_in_prog = register_bit 7 word;
  upper = word / 2 ^ 24 % 128;
}

-- a word of CTRL/STAT has all of these bits set
abbrev pub ctrl_stat_holds : ℕ → ℕ → Bool
ctrl_stat_holds mask word = bit_and (bit_and word ctrl_stat_mask) mask == mask

-- CTRL/STAT as it is read: STICKYERR 5, READOK 6, WDATAERR 7, the requests for debug and for system power, 28 and 30,
-- and their acknowledgements, 29 and 31, each of a power that is requested and acknowledged. Its other bits, [4:0] and
-- [27:8], are those of any word (this project's choice).
abbrev pub ctrl_stat_read : ℕ → Bool → Bool → Bool → Bool → Bool → Bool → Bool → ℕ
ctrl_stat_read others sticky_error read_ok write_error debug_power debug_there system_power system_there =
    others % 2 ^ 5 + bit sticky_error * 0x20 + bit read_ok * 0x40 + bit write_error * 0x80 +
    others / 2 ^ 8 % 2 ^ 20 * 2 ^ 8 +
    bit debug_power * 0x1000_0000 + bit (debug_power && debug_there) * 0x2000_0000 +
    bit system_power * 0x4000_0000 + bit (system_power && system_there) * 0x8000_0000

-- AddrInc of a CSW that increments, 01, and of one that doesn't, 00
abbrev pub csw_addr_inc_of : Bool → ℕ
csw_addr_inc_of true = 1
csw_addr_inc_of false = 0

-- CSW as it is read: Size is 2, a word; AddrInc; DeviceEn is 1. Its other bits, 3, 7 and [31:8], are those of any word
-- (which bits are fixed: this project's choice).
abbrev pub csw_read : Bool → ℕ → ℕ
csw_read increments others =
    2 + others / 2 ^ 3 % 2 * 2 ^ 3 + csw_addr_inc_of increments * 2 ^ 4 + 2 ^ 6 + others / 2 ^ 7 % 2 ^ 25 * 2 ^ 7
