-- Bytes as pairs of hexadecimal digits.
use Rattle.std.specs.Prelude.{ℕ, ◌+◌, ◌-◌, ◌*◌, nat_le, Bool, ◌&&◌, ◌||◌, List, [], ◌∷◌, if◌then◌else◌}

-- a hexadecimal digit of either case
abbrev pub is_image_file_digit : ℕ → Bool
is_image_file_digit byte =
    (nat_le 48 byte && nat_le byte 57) || ((nat_le 65 byte && nat_le byte 70) || (nat_le 97 byte && nat_le byte 102))

-- its value, and 0 for any other byte
abbrev pub image_file_digit_value : ℕ → ℕ
image_file_digit_value byte =
    if nat_le 48 byte && nat_le byte 57 then byte - 48 else
    (if nat_le 65 byte && nat_le byte 70 then byte - 55 else
    (if nat_le 97 byte && nat_le byte 102 then byte - 87 else 0))

-- the bytes that digits are, two for each byte, the more significant first
abbrev pub image_file_digit_bytes : List ℕ → List ℕ
image_file_digit_bytes [] = []
image_file_digit_bytes (high ∷ []) = []
image_file_digit_bytes (high ∷ low ∷ digits) =
    (16 * image_file_digit_value high + image_file_digit_value low) ∷ image_file_digit_bytes digits
