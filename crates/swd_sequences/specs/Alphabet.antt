-- The characters of OpenOCD's remote_bitbang protocol for serial wire: OpenOCD's manual, "remote_bitbang".
use Rattle.std.specs.Prelude.{ℕ, ◌==◌, Bool, true, false, List, [], ◌∷◌, Option, Some, None, if◌then◌else◌}
use Rattle.swd_sequences.specs.declared.character.Character.{Character}
use Rattle.swd_sequences.specs.declared.character.Character.TheVariants.{Moves, Looks, Drives, Lights, Resets, Waits}
use Rattle.swd_sequences.specs.declared.character.Character.TheVariants.{Quits}

-- the byte of a character: d e f g, c, O o, B b, r s t u, Z z, Q
abbrev pub alphabet_byte : Character → ℕ
alphabet_byte (Moves false false) = 100
alphabet_byte (Moves false true) = 101
alphabet_byte (Moves true false) = 102
alphabet_byte (Moves true true) = 103
alphabet_byte Looks = 99
alphabet_byte (Drives true) = 79
alphabet_byte (Drives false) = 111
alphabet_byte (Lights true) = 66
alphabet_byte (Lights false) = 98
alphabet_byte (Resets false false) = 114
alphabet_byte (Resets false true) = 115
alphabet_byte (Resets true false) = 116
alphabet_byte (Resets true true) = 117
alphabet_byte (Waits true) = 90
alphabet_byte (Waits false) = 122
alphabet_byte Quits = 81

-- all characters
abbrev pub alphabet : List Character
alphabet =
    Moves false false ∷ Moves false true ∷ Moves true false ∷ Moves true true ∷ Looks ∷ Drives true ∷ Drives false
    ∷ Lights true ∷ Lights false ∷ Resets false false ∷ Resets false true ∷ Resets true false ∷ Resets true true
    ∷ Waits true ∷ Waits false ∷ Quits ∷ []

-- the first of some characters that has this byte
abbrev pub alphabet_read_as : List Character → ℕ → Option Character
alphabet_read_as [] byte = None
alphabet_read_as (c ∷ more) byte = if byte == alphabet_byte c then Some c else alphabet_read_as more byte

-- the character of a byte
abbrev pub alphabet_character : ℕ → Option Character
alphabet_character byte = alphabet_read_as alphabet byte

-- the byte of a level: 0 or 1
abbrev pub alphabet_level : Bool → ℕ
alphabet_level false = 48
alphabet_level true = 49
