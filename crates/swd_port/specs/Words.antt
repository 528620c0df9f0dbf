-- Words of register fields, and fields within their widths.
use Rattle.std.specs.Prelude.{ℕ, ◌<◌, ◌+◌, ◌*◌, ◌%◌, ◌^◌}
use Rattle.swd_bits.specs.Bits.{bit}
use Rattle.swd_port.specs.declared.abort.Abort.{Abort}
use Rattle.swd_port.specs.declared.ctrl_stat.CtrlStat.{CtrlStat}
use Rattle.swd_port.specs.declared.select.Select.{Select}
use Rattle.swd_port.specs.declared.csw.Csw.{Csw}

-- the word of a set of ABORT's bits
abbrev pub abort_word : Abort → ℕ
abort_word a = a.0

-- the word of a set of CTRL/STAT's bits
abbrev pub ctrl_stat_word : CtrlStat → ℕ
ctrl_stat_word s = s.0

-- the bits that ABORT names, [4:0]
abbrev pub abort_mask : ℕ
abort_mask = 0x0000_001f

-- the word of these fields, each truncated to its width; all other bits are 0 (this project's choice)
abbrev pub select_word : Select → ℕ
select_word s = s.apsel % 256 * 2 ^ 24 + s.apbanksel % 16 * 16 + s.dpbanksel % 16

-- the bits that SELECT names
abbrev pub select_mask : ℕ
select_mask = 0xff00_00ff

-- each field is within its width
pub record IsSelect (s : Select) : Type 0 where
  pub apsel : s.apsel < 256
  pub apbanksel : s.apbanksel < 16
  pub dpbanksel : s.dpbanksel < 16

-- the word of these fields, each truncated to its width; all other bits are 0 (this project's choice)
abbrev pub csw_word : Csw → ℕ
csw_word c = c.size % 8 + c.addr_inc % 4 * 16 + bit c.device_en * 64 + bit c.tr_in_prog * 128 + c.upper % 128 * 2 ^ 24

-- the bits that CSW names here
abbrev pub csw_mask : ℕ
csw_mask = 0x7f00_00f7

-- each field is within its width
pub record IsCsw (c : Csw) : Type 0 where
  pub size : c.size < 8
  pub addr_inc : c.addr_inc < 4
  pub upper : c.upper < 128
