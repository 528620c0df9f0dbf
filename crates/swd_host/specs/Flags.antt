-- The sticky flags of CTRL/STAT, and the words that clear them: IHI 0031, B2, "CTRL/STAT, Control/Status register"
-- and "ABORT, AP Abort register".
use Rattle.std.specs.Prelude.{ℕ, ◌+◌, ◌==◌, ◌&&◌, Bool, false, if◌then◌else◌}
use Rattle.swd_port.specs.Registers.{csw_of, ctrl_stat_holds}
use Rattle.swd_host.specs.declared.flags.Flags.{Flags}

-- the flags in a word of CTRL/STAT
abbrev pub host_flags_in : ℕ → Flags
host_flags_in word = record { error = ctrl_stat_holds 0x20 word; damaged = ctrl_stat_holds 0x80 word }

abbrev pub no_host_flags : Flags
no_host_flags = record { error = false; damaged = false }

-- the word of ABORT that clears flags
abbrev pub host_abort_word : Flags → ℕ
host_abort_word flags = (if flags.error then 4 else 0) + (if flags.damaged then 8 else 0)

-- both power-up acknowledgements are set
abbrev pub host_reads_power : ℕ → Bool
host_reads_power word = ctrl_stat_holds 0x2000_0000 word && ctrl_stat_holds 0x8000_0000 word

-- CSW as the host configures it: Size word, AddrInc single, DeviceEn set (IHI 0031, MEM-AP, "CSW, Control/Status Word
-- register")
abbrev pub host_csw_is_configured : ℕ → Bool
host_csw_is_configured word = let csw = csw_of word in (csw.size == 2) && (csw.addr_inc == 1) && csw.device_en
