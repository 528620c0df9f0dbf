-- Requests of DAP_SWJ_Sequence and DAP_SWD_Sequence: the description of CMSIS-DAP.
use Rattle.std.specs.Prelude.{ℕ, zero, suc, ◌+◌, ◌*◌, ◌/◌, ◌%◌, Bool, false, List, [], ◌∷◌, length, drop}
use Rattle.std.specs.Prelude.{slice_index_or}
use Rattle.std.specs.Prelude.{take}
use Rattle.std.specs.Int.{w64, to_le_bytes}
use Rattle.swd_bits.specs.Bits.{bit, bits_number}
use Rattle.swd_bits.specs.Wire.{bits_of_request}
use Rattle.swd_bits.specs.declared.request.Request.{Request}

-- a bit as a number; 0 where there is none
abbrev pub dap_bit_at : List Bool → ℕ → ℕ
dap_bit_at bits place = bit (slice_index_or bits place false)

-- the byte of eight bits, the first in time least significant
abbrev pub dap_byte_of : List Bool → ℕ
dap_byte_of bits =
    dap_bit_at bits 0 + 2 * dap_bit_at bits 1 + 4 * dap_bit_at bits 2 + 8 * dap_bit_at bits 3
    + 16 * dap_bit_at bits 4 + 32 * dap_bit_at bits 5 + 64 * dap_bit_at bits 6 + 128 * dap_bit_at bits 7

abbrev pub dap_bytes_of : ℕ → List Bool → List ℕ
dap_bytes_of zero bits = []
dap_bytes_of (suc n) bits = dap_byte_of bits ∷ dap_bytes_of n (drop 8 bits)

-- DAP_SWJ_Sequence drives these bits; the number 0 stands for 256
abbrev pub dap_drive_request : List Bool → List ℕ
dap_drive_request bits = 0x12 ∷ length bits % 256 ∷ dap_bytes_of ((length bits + 7) / 8) bits

-- DAP_SWD_Sequence: two sequences, the eight bits of a request, and four clocks that are sampled
abbrev pub dap_ask_request : Request → List ℕ
dap_ask_request q = 0x1d ∷ 2 ∷ 8 ∷ bits_number (bits_of_request q) ∷ 0x84 ∷ []

-- one of 34 clocks that are sampled: a data phase and the turnaround
abbrev pub dap_take_request : List ℕ
dap_take_request = 0x1d ∷ 1 ∷ 0xa2 ∷ []

-- one clock that is sampled, the turnaround, and 33 bits
abbrev pub dap_give_request : ℕ → List ℕ
dap_give_request bits = 0x1d ∷ 2 ∷ 0x81 ∷ 33 ∷ take 5 (to_le_bytes w64 bits)

-- 1 to 64 clocks that are sampled
abbrev pub dap_release_request : ℕ → List ℕ
dap_release_request clocks = 0x1d ∷ 1 ∷ (128 + clocks % 64) ∷ []
