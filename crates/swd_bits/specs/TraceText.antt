-- Trace text, and its bits.
use Rattle.std.specs.Prelude.{ℕ, Bool, true, false, not, ◌==◌, ◌||◌, List, [], ◌∷◌, Option, None, Some, if◌then◌else◌}
use Rattle.std.specs.Option.{option_map}
use Rattle.swd_bits.specs.declared.scan.Sign.{Sign}
use Rattle.swd_bits.specs.declared.scan.Sign.TheVariants.{Bit, Passed, Bad}

-- the meaning of a byte outside a comment
abbrev pub scan_bits_sign_outside : ℕ → Sign
scan_bits_sign_outside b =
    if b == 48 then Bit false else (if b == 49 then Bit true else
    (if (b == 32) || (b == 9) || (b == 13) || (b == 10) || (b == 35) then Passed else Bad))

-- the meaning of a byte, inside a comment or outside
abbrev pub scan_bits_sign_of : Bool → ℕ → Sign
scan_bits_sign_of true b = Passed
scan_bits_sign_of false b = scan_bits_sign_outside b

-- whether a comment is open after a byte
abbrev pub scan_bits_comment_after : Bool → ℕ → Bool
scan_bits_comment_after true b = not (b == 10)
scan_bits_comment_after false b = b == 35

-- a byte's bit before those of the rest
abbrev pub scan_bits_add_sign : Sign → Option (List Bool) → Option (List Bool)
scan_bits_add_sign (Bit bit) rest = option_map (λ bits. bit ∷ bits) rest
scan_bits_add_sign Passed rest = rest
scan_bits_add_sign Bad rest = None

-- the bits of an input that starts inside a comment or outside, or `None` if a byte is bad
abbrev pub scan_bits_from : Bool → List ℕ → Option (List Bool)
scan_bits_from comment [] = Some []
scan_bits_from comment (b ∷ text) = scan_bits_add_sign (scan_bits_sign_of comment b)
    (scan_bits_from (scan_bits_comment_after comment b) text)

abbrev pub scan_bits_of_text : List ℕ → Option (List Bool)
scan_bits_of_text text = scan_bits_from false text
