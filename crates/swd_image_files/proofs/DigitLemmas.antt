-- Bytes are read back from their digits.
use Rattle.std.proofs.Common.{◌≡◌, ℕ, ◌+◌, ◌*◌, ◌/◌, ◌%◌, ◌<◌, List, [], ◌∷◌, length, All, ap₂, refl, ◌∙◌, true, arith}
use Rattle.std.specs.List.{list_all}
use Rattle.std.specs.Prelude.{◌&&◌}
use Rattle.std.proofs.lemmas.Bool.Decides.{nat_tests}
use Rattle.std.proofs.lemmas.List.Elements.{All-head, All-tail, All-cons, All-nil}
use Rattle.swd_image_files.specs.Digits.{image_file_digit_bytes, image_file_digit_value, is_image_file_digit}
use Rattle.swd_image_files.specs.Texts.{image_file_hex_digits, image_file_hex_digit}

-- a byte
abbrev pub IsImageFileByte : ℕ → Type 0
IsImageFileByte byte = byte < 256

-- above the bytes that end lines
abbrev pub IsAboveImageLineEnd : ℕ → Type 0
IsAboveImageLineEnd byte = 13 < byte

value_back : (v : ℕ) → v < 16 → image_file_digit_value (image_file_hex_digit v) ≡ v
value_back v small = grind (arith, nat_tests)

digit_is : (v : ℕ) → v < 16 → is_image_file_digit (image_file_hex_digit v) ≡ true
digit_is v small = grind (arith, nat_tests)

digit_high : (v : ℕ) → v < 16 → 13 < image_file_hex_digit v
digit_high v small = grind (arith, nat_tests)

byte_back : (byte : ℕ) → byte < 256
    → 16 * image_file_digit_value (image_file_hex_digit (byte / 16))
    + image_file_digit_value (image_file_hex_digit (byte % 16)) ≡ byte
byte_back byte small =
    let high = value_back (byte / 16) (omega arith) in
    let low = value_back (byte % 16) (omega arith) in
    ap₂ (λ a b. 16 * a + b) high low ∙ omega arith

-- the bytes
pub image_file_bytes_read_back : (bytes : List ℕ) → All IsImageFileByte bytes
    → image_file_digit_bytes (image_file_hex_digits bytes) ≡ bytes
image_file_bytes_read_back [] all = refl
image_file_bytes_read_back (byte ∷ bytes) all =
    ap₂ (λ a l. a ∷ l) (byte_back byte (All-head IsImageFileByte byte bytes all))
    (image_file_bytes_read_back bytes (All-tail IsImageFileByte byte bytes all))

-- the digits are some
pub image_file_digits_valid : (bytes : List ℕ) → All IsImageFileByte bytes
    → list_all is_image_file_digit (image_file_hex_digits bytes) ≡ true
image_file_digits_valid [] all = refl
image_file_digits_valid (byte ∷ bytes) all =
    let small = All-head IsImageFileByte byte bytes all in
    ap₂ (λ a b. a && (b && list_all is_image_file_digit (image_file_hex_digits bytes)))
    (digit_is (byte / 16) (omega (arith, small))) (digit_is (byte % 16) (omega (arith, small)))
    ∙ image_file_digits_valid bytes (All-tail IsImageFileByte byte bytes all)

pub length-digits_of : (bytes : List ℕ) → length (image_file_hex_digits bytes) ≡ 2 * length bytes
length-digits_of [] = refl
length-digits_of (byte ∷ bytes) = let e = length-digits_of bytes in omega (arith, e)

-- no digit ends a line
pub image_file_digits_high : (bytes : List ℕ) → All IsImageFileByte bytes
    → All IsAboveImageLineEnd (image_file_hex_digits bytes)
image_file_digits_high [] all = All-nil IsAboveImageLineEnd
image_file_digits_high (byte ∷ bytes) all =
    let small = All-head IsImageFileByte byte bytes all in
    All-cons IsAboveImageLineEnd (image_file_hex_digit (byte / 16))
    (image_file_hex_digit (byte % 16) ∷ image_file_hex_digits bytes)
    (digit_high (byte / 16) (omega (arith, small)))
    (All-cons IsAboveImageLineEnd (image_file_hex_digit (byte % 16)) (image_file_hex_digits bytes)
    (digit_high (byte % 16) (omega (arith, small)))
    (image_file_digits_high bytes (All-tail IsImageFileByte byte bytes all)))
