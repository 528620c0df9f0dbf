-- Laws of the registers' fields: which bits of a word they keep.
use Rattle.std.specs.Prelude.{ℕ, ◌≡◌, ◌<◌, ◌^◌, Bool, true}
use Rattle.std.specs.Int.RustNames.{bit_and}
use Rattle.swd_port.specs.Registers.{select_of, csw_of}
use Rattle.swd_port.specs.Words.{select_word, select_mask, csw_word, csw_mask}
use Rattle.swd_port.specs.Registers.{csw_addr_inc_of, csw_read}

-- SELECT's fields keep the bits that it names, and no others
abbrev pub PortSelectKept : Type 0
PortSelectKept = (word : ℕ) → select_word (select_of word) ≡ bit_and word select_mask

-- CSW as it is read: word size alone, AddrInc as it was written, the device enabled
pub record PortCswFields (increments : Bool) (word : ℕ) : Type 0 where
  pub size : (csw_of word).size ≡ 2
  pub addr_inc : (csw_of word).addr_inc ≡ csw_addr_inc_of increments
  pub device_en : (csw_of word).device_en ≡ true
  pub range : word < 2 ^ 32

abbrev pub PortCswReads : Type 0
PortCswReads = (increments : Bool) (others : ℕ) → PortCswFields increments (csw_read increments others)

-- CSW's fields keep the bits that it names, and no others
abbrev pub PortCswKept : Type 0
PortCswKept = (word : ℕ) → csw_word (csw_of word) ≡ bit_and word csw_mask
