-- The characters of bits.
use Rattle.std.specs.Prelude.{ℕ, Bool, not, ◌==◌, ◌/◌}

-- neither `0` nor `1`, which are 48 and 49
abbrev pub is_not_text_digit : ℕ → Bool
is_not_text_digit byte = not (byte / 2 == 24)
