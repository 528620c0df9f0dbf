-- A write's data phase inside which the line failed.
use Rattle.std.specs.Prelude.{ℕ, ◌-◌, ◌/◌, ◌%◌, ◌^◌, ◌==◌, Bool, List, ◌++◌, replicate}
use Rattle.swd_bits.specs.Bits.{low_bits}

-- the level that the host drove in the clocks that failed
abbrev pub c_api_cut_level : ℕ → ℕ → Bool
c_api_cut_level bits made = bits / 2 ^ made % 2 == 1

-- The 33 bits that the target took: the first `made` bits, `again` clocks of those that failed, and as much of `rest`
-- as there is room for.
abbrev pub c_api_cut_phase : ℕ → ℕ → ℕ → ℕ → List Bool
c_api_cut_phase bits made again rest =
    low_bits made bits ++ replicate again (c_api_cut_level bits made) ++ low_bits (33 - made - again) rest
