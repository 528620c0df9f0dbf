-- Laws of the numbers and bits that stand in a listing line.
use Rattle.std.proofs.Common.{◌≡◌, ◌≢◌, ℕ, suc, ◌+◌, ◌-◌, ◌*◌, ◌/◌, ◌%◌, ◌^◌, ◌<◌, ◌≤◌, Bool, true, false, List, []}
use Rattle.std.proofs.Common.{◌∷◌, length, map, drop, get_or, refl, ap, ◌∙◌, subst, arith, Result, Ok, Err, drop-cons}
use Rattle.std.proofs.Common.{length-drop, lit<}
use Rattle.std.specs.Prelude.{◌==◌}
use Rattle.std.specs.Char.{digit_value}
use Rattle.std.specs.Str.{IsAscii}
use Rattle.std.specs.Str.Parse.{ParsesUnsigned, AllDigits, digits_value, IsNumeral, without_leading_plus}
use Rattle.std.specs.Result.{OkIff}
use Rattle.std.proofs.lemmas.Str.Parse.{without_leading_plus_none}
use Rattle.std.proofs.lemmas.Str.{digit_value-digit_char}
use Rattle.std.proofs.lemmas.Str.Ascii.{IsAscii-nil, IsAscii-cons}
use Rattle.std.proofs.lemmas.Bool.Decides.{nat_tests}
use Rattle.std.proofs.Math.ListN.{length-map}
use Rattle.std.proofs.Math.Nat.{pow-le-pow_right}
use mir.Val.{bool_byte}
use Rattle.swd_bits.specs.Bits.{low_bits, bits_number, bit}
use Rattle.swd_bits.proofs.BitsLemmas.{number-low_bits, length-low_bits, bits_number_lt}
use Rattle.swd_trace.specs.Texts.{trace_digit}
use Rattle.swd_bits.specs.Listing.{tx_hex_digit, hex2, hex8}

value_of : (d : ℕ) → d < 16 → digit_value (tx_hex_digit d) ≡ d
value_of d h = digit_value-digit_char d (omega arith)

glyph_lt : (d : ℕ) → d < 16 → tx_hex_digit d < 128
glyph_lt d h = grind (arith, nat_tests)

not_plus : (d : ℕ) → d < 16 → tx_hex_digit d ≢ 43
not_plus d h = grind (arith, nat_tests)

eight_ascii : (a b c d e f g h : ℕ) → a < 128 → b < 128 → c < 128 → d < 128 → e < 128 → f < 128 → g < 128 → h < 128 →
    IsAscii (a ∷ b ∷ c ∷ d ∷ e ∷ f ∷ g ∷ h ∷ [])
eight_ascii a b c d e f g h i j k l m n o p =
    IsAscii-cons a (b ∷ c ∷ d ∷ e ∷ f ∷ g ∷ h ∷ []) i
    (IsAscii-cons b (c ∷ d ∷ e ∷ f ∷ g ∷ h ∷ []) j (IsAscii-cons c (d ∷ e ∷ f ∷ g ∷ h ∷ []) k
    (IsAscii-cons d (e ∷ f ∷ g ∷ h ∷ []) l
    (IsAscii-cons e (f ∷ g ∷ h ∷ []) m
    (IsAscii-cons f (g ∷ h ∷ []) n (IsAscii-cons g (h ∷ []) o (IsAscii-cons h [] p IsAscii-nil)))))))

pub IsAscii-hex8 : (word : ℕ) → word < 2 ^ 32 → IsAscii (hex8 word)
unfolding hex8 hex2
IsAscii-hex8 word h =
    eight_ascii (tx_hex_digit (word / 2 ^ 24 / 16)) (tx_hex_digit (word / 2 ^ 24 % 16))
    (tx_hex_digit (word / 2 ^ 16 % 256 / 16)) (tx_hex_digit (word / 2 ^ 16 % 256 % 16))
    (tx_hex_digit (word / 2 ^ 8 % 256 / 16)) (tx_hex_digit (word / 2 ^ 8 % 256 % 16)) (tx_hex_digit (word % 256 / 16))
    (tx_hex_digit (word % 256 % 16))
    (glyph_lt (word / 2 ^ 24 / 16) (omega arith)) (glyph_lt (word / 2 ^ 24 % 16) (omega arith))
    (glyph_lt (word / 2 ^ 16 % 256 / 16) (omega arith)) (glyph_lt (word / 2 ^ 16 % 256 % 16) (omega arith))
    (glyph_lt (word / 2 ^ 8 % 256 / 16) (omega arith)) (glyph_lt (word / 2 ^ 8 % 256 % 16) (omega arith))
    (glyph_lt (word % 256 / 16) (omega arith)) (glyph_lt (word % 256 % 16) (omega arith))

-- the number of eight digits with these values
eight : (a b c d e f g h : ℕ) → a < 16 → b < 16 → c < 16 → d < 16 → e < 16 → f < 16 → g < 16 → h < 16 →
    digits_value 16 (tx_hex_digit a ∷ tx_hex_digit b ∷ tx_hex_digit c ∷ tx_hex_digit d ∷ tx_hex_digit e ∷ tx_hex_digit f
    ∷ tx_hex_digit g ∷ tx_hex_digit h ∷ [])
    ≡ ((a * 16 + b) * 65536 + (c * 16 + d) * 256 + (e * 16 + f)) * 256 + (g * 16 + h)
eight a b c d e f g h i j k l m n o p =
    rw (value_of a i, value_of b j, value_of c k, value_of d l, value_of e m, value_of f n, value_of g o, value_of h p)
    (omega arith)

all_eight : (a b c d e f g h : ℕ) → a < 16 → b < 16 → c < 16 → d < 16 → e < 16 → f < 16 → g < 16 → h < 16 →
    AllDigits 16 (tx_hex_digit a ∷ tx_hex_digit b ∷ tx_hex_digit c ∷ tx_hex_digit d ∷ tx_hex_digit e ∷ tx_hex_digit f
    ∷ tx_hex_digit g ∷ tx_hex_digit h ∷ [])
all_eight a b c d e f g h i j k l m n o p = (
  rw (value_of a i) i,
  (
    rw (value_of b j) j,
    (
      rw (value_of c k) k,
      (
        rw (value_of d l) l,
        (rw (value_of e m) m, (rw (value_of f n) n, (rw (value_of g o) o, (rw (value_of h p) p, tt)))),
      ),
    ),
  ),
)

pub digits_value-hex8 : (word : ℕ) → word < 2 ^ 32 → digits_value 16 (hex8 word) ≡ word
unfolding hex8 hex2
digits_value-hex8 word h =
    eight (word / 2 ^ 24 / 16) (word / 2 ^ 24 % 16) (word / 2 ^ 16 % 256 / 16) (word / 2 ^ 16 % 256 % 16)
    (word / 2 ^ 8 % 256 / 16) (word / 2 ^ 8 % 256 % 16) (word % 256 / 16) (word % 256 % 16)
    (omega arith) (omega arith) (omega arith) (omega arith) (omega arith) (omega arith) (omega arith) (omega arith)
    ∙ omega arith

pub IsNumeral-hex8 : (word : ℕ) → word < 2 ^ 32 → IsNumeral 16 (hex8 word)
unfolding hex8 hex2
IsNumeral-hex8 word h = (
  omega arith,
  all_eight (word / 2 ^ 24 / 16) (word / 2 ^ 24 % 16) (word / 2 ^ 16 % 256 / 16) (word / 2 ^ 16 % 256 % 16)
      (word / 2 ^ 8 % 256 / 16) (word / 2 ^ 8 % 256 % 16) (word % 256 / 16) (word % 256 % 16)
      (omega arith) (omega arith) (omega arith) (omega arith) (omega arith) (omega arith) (omega arith) (omega arith),
)

-- what `from_str_radix` reads eight hexadecimal digits as
first_not_plus : (word : ℕ) → word < 2 ^ 32 → get_or (hex8 word) 0 0 ≢ 43
unfolding hex8 hex2
first_not_plus word h = not_plus (word / 2 ^ 24 / 16) (omega arith)

read_as : {E : Type 0} (bs : List ℕ) (word : ℕ) (r : Result ℕ E) → word < 2 ^ 32 → IsNumeral 16 bs
    → digits_value 16 bs ≡ word →
    OkIff r (IsNumeral 16 bs × (digits_value 16 bs < 2 ^ 32)) (digits_value 16 bs) → r ≡ Ok word
read_as bs word (Ok x) h n e p = ap Ok (p.1 ∙ e)
read_as bs word (Err x) h n e p = absurd (p (n, rw e h))

pub parse-hex8 : {E : Type 0} (word : ℕ) (bs : List ℕ) (r : Result ℕ E) → word < 2 ^ 32 → bs ≡ hex8 word
    → ParsesUnsigned 32 16 bs r → r ≡ Ok word
parse-hex8 word bs r h e p =
    let plain : without_leading_plus bs ≡ hex8 word = ap without_leading_plus e
    ∙ without_leading_plus_none (hex8 word) (first_not_plus word h) in
    let q = rw plain at p in
    read_as (hex8 word) word r h (IsNumeral-hex8 word h) (digits_value-hex8 word h) q

-- the number that is written by these characters, the first the lowest
abbrev pub listing_bits_number : List ℕ → ℕ
listing_bits_number digits = bits_number (map (λ b. b == 49) digits)

-- the number that n characters write is below 2 ^ n
pub listing_bits_number_lt : (digits : List ℕ) → listing_bits_number digits < 2 ^ length digits
listing_bits_number_lt digits = subst (λ n. listing_bits_number digits < 2 ^ n) (length-map digits (λ b. b == 49))
    (bits_number_lt (map (λ b. b == 49) digits))

pub listing_bit_byte : (b : Bool) → bool_byte b ≡ bit b
listing_bit_byte true = refl
listing_bit_byte false = refl

-- the number of the last i + 1 characters is twice that of the last i, plus the bit of the character before these
pub listing_bits_number_more : (digits : List ℕ) (i : ℕ) → i < length digits →
    listing_bits_number (drop (length digits - (i + 1)) digits)
    ≡ listing_bits_number (drop (length digits - i) digits) * 2
    + bool_byte (get_or digits (length digits - 1 - i) 0 == 49)
listing_bits_number_more digits i h =
    let a : length digits - (i + 1) ≡ length digits - 1 - i = omega arith in
    let b : suc (length digits - 1 - i) ≡ length digits - i = omega arith in
    let within : length digits - 1 - i < length digits = omega arith in
    let d : drop (length digits - (i + 1)) digits ≡ get_or digits (length digits - 1 - i) 0 ∷ drop (length digits - i)
    digits =
    ap (λ n. drop n digits) a ∙ drop-cons digits (length digits - 1 - i) 0 within
    ∙ ap (λ n. get_or digits (length digits - 1 - i) 0 ∷ drop n digits) b in
    let e : listing_bits_number (drop (length digits - (i + 1)) digits)
    ≡ bit (get_or digits (length digits - 1 - i) 0 == 49) + 2 *
    listing_bits_number (drop (length digits - i) digits) = ap listing_bits_number d in
    rw (listing_bit_byte (get_or digits (length digits - 1 - i) 0 == 49)) (omega (arith, e))

-- the number of the last i of at most 49 characters is below 2 ^ 49
pub listing_bits_number_room : (digits : List ℕ) (i : ℕ) → i < length digits → length digits ≤ 49
    → listing_bits_number (drop (length digits - i) digits) < 2 ^ 49
listing_bits_number_room digits i h k =
    let n : length (drop (length digits - i) digits) ≤ 49 = omega (arith, length-drop (length digits - i) digits) in
    let m : 2 ^ length (drop (length digits - i) digits) ≤ 2 ^ 49 = pow-le-pow_right (lit< tt) n in
    omega (arith, listing_bits_number_lt (drop (length digits - i) digits))

read_back : (bits : List Bool) → map (λ b. b == 49) (map trace_digit bits) ≡ bits
read_back [] = refl
read_back (true ∷ bits) = ap (λ x. true ∷ x) (read_back bits)
read_back (false ∷ bits) = ap (λ x. false ∷ x) (read_back bits)

pub written-digits : (len bits : ℕ) (digits : List ℕ) → bits < 2 ^ len → digits ≡ map trace_digit (low_bits len bits)
    → listing_bits_number digits ≡ bits
written-digits len bits digits h e = ap listing_bits_number e ∙ ap bits_number (read_back (low_bits len bits))
    ∙ number-low_bits len bits h

pub length-digits : (len bits : ℕ) (digits : List ℕ) → digits ≡ map trace_digit (low_bits len bits)
    → length digits ≡ len
length-digits len bits digits e = ap length e ∙ length-map (low_bits len bits) trace_digit ∙ length-low_bits len bits
