-- The numbers of a script or plan.
use Rattle.std.specs.Prelude.{ℕ, ◌+◌, ◌-◌, ◌*◌, ◌^◌, nat_lt, nat_le, ◌==◌, ◌&&◌, ◌||◌, Bool, List, [], ◌∷◌, length}
use Rattle.std.specs.Prelude.{Option, Some, None, if◌then◌else◌}
use Rattle.std.specs.Option.{option_and_then}

-- the value of a hexadecimal digit of either case, and 16 for any other byte
abbrev pub script_digit_value : ℕ → ℕ
script_digit_value byte =
    if nat_le 48 byte && nat_le byte 57 then byte - 48 else
    (if nat_le 65 byte && nat_le byte 70 then byte - 55 else
    (if nat_le 97 byte && nat_le byte 102 then byte - 87 else 16))

-- the value of a digit of this base
abbrev pub script_digit_of : ℕ → ℕ → Option ℕ
script_digit_of base byte = if nat_lt (script_digit_value byte) base then Some (script_digit_value byte) else None

-- the value of digits, the most significant first, after digits with the value `value`
abbrev pub script_number_from : ℕ → ℕ → List ℕ → Option ℕ
script_number_from base value [] = Some value
script_number_from base value (byte ∷ word) =
    option_and_then (λ digit. script_number_from base (base * value + digit) word) (script_digit_of base byte)

-- a number below 2^32
abbrev pub script_number_in_word : ℕ → Option ℕ
script_number_in_word value = if nat_lt value (2 ^ 32) then Some value else None

-- the value of 1 to `longest` digits, below 2^32
abbrev pub script_numeral : ℕ → ℕ → List ℕ → Option ℕ
script_numeral base longest word =
    if nat_le 1 (length word) && nat_le (length word) longest
    then option_and_then script_number_in_word (script_number_from base 0 word) else None

-- `0x` or `0X`
abbrev pub is_script_hex_prefix : ℕ → ℕ → Bool
is_script_hex_prefix first second = (first == 48) && ((second == 120) || (second == 88))

-- the digits of a hexadecimal number, without the prefix that it may have
abbrev pub script_hex_digits : List ℕ → List ℕ
script_hex_digits [] = []
script_hex_digits (first ∷ []) = first ∷ []
script_hex_digits (first ∷ second ∷ word) = if is_script_hex_prefix first second then word else first ∷ second ∷ word

-- 1 to 8 hexadecimal digits of either case, which may follow `0x` or `0X`
abbrev pub script_hex_number : List ℕ → Option ℕ
script_hex_number word = script_numeral 16 8 (script_hex_digits word)

-- 1 to 10 decimal digits
abbrev pub script_decimal_number : List ℕ → Option ℕ
script_decimal_number word = script_numeral 10 10 word
