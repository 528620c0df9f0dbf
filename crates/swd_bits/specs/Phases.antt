-- Data phases as numbers of 33 bits, the first in time least significant: IHI 0031, B4, "Data transfer".
use Rattle.std.specs.Prelude.{ℕ, ◌+◌, ◌*◌, ◌%◌, ◌^◌, ◌==◌, Option, Some, None, if◌then◌else◌, count_ones}

-- the phase of a word: the word, and above it its parity, 1 if the word has an odd number of ones
abbrev pub data_phase_number : ℕ → ℕ
data_phase_number word = count_ones word % 2 * 2 ^ 32 + word

-- the word of a phase, if its parity is right: the 33 bits have an even number of ones
abbrev pub data_phase_word : ℕ → Option ℕ
data_phase_word sent = if count_ones sent % 2 == 0 then Some (sent % 2 ^ 32) else None
