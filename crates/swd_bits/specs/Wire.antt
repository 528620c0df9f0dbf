-- Requests and data phases on the wire, as bits in time order.
use Rattle.std.specs.Prelude.{ℕ, Bool, true, false, List, [], ◌∷◌, ◌++◌, ◌==◌, if◌then◌else◌, ◌≡◌, ◌≢◌, ◌<◌, ◌^◌}
use Rattle.swd_bits.specs.Bits.{low_bits, odd}
use Rattle.swd_bits.specs.declared.request.Request.{Request}
use Rattle.swd_bits.specs.declared.request.Reg4.{Reg4}
use Rattle.swd_bits.specs.declared.request.Reg4.TheVariants.{R0, R4, R8, RC}

-- the two address bits, A[2] first
abbrev pub addr_bits : Reg4 → List Bool
addr_bits R0 = false ∷ false ∷ []
addr_bits R4 = true ∷ false ∷ []
addr_bits R8 = false ∷ true ∷ []
addr_bits RC = true ∷ true ∷ []

-- the register with this number
abbrev pub request_reg4_of : ℕ → Reg4
request_reg4_of n = if n == 0 then R0 else (if n == 1 then R4 else (if n == 2 then R8 else RC))

-- start, port, direction, address, parity, stop, park
abbrev pub bits_of_request : Request → List Bool
bits_of_request q =
    let asked = q.ap ∷ q.read ∷ addr_bits q.addr in
    (true ∷ asked) ++ odd asked ∷ false ∷ true ∷ []

-- the word's bits, and its parity
unfoldable pub phase : ℕ → List Bool
phase word = low_bits 32 word ++ odd (low_bits 32 word) ∷ []

-- 33 bits that are the phase of this word, and below 33 bits that aren't the phase of a word
abbrev pub IsDataPhaseOf : ℕ → ℕ → Type 0
IsDataPhaseOf word bits = phase word ≡ low_bits 33 bits

abbrev pub IsNoDataPhase : ℕ → Type 0
IsNoDataPhase bits = (word : ℕ) → word < 2 ^ 32 → phase word ≢ low_bits 33 bits
