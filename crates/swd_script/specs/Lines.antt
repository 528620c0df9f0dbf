-- The lines of a script or plan, and the words of a line. The formats are this project's choice.
use Rattle.std.specs.Prelude.{ℕ, Bool, true, false, ◌==◌, ◌&&◌, ◌||◌, nat_le, List, [], ◌∷◌, Option, Some, None}
use Rattle.std.specs.Prelude.{if◌then◌else◌}
use Rattle.std.specs.List.{list_all}

-- some lists with this byte before the first of them
abbrev pub script_byte_before : ℕ → List (List ℕ) → List (List ℕ)
script_byte_before byte [] = (byte ∷ []) ∷ []
script_byte_before byte (first ∷ rest) = (byte ∷ first) ∷ rest

-- the text begins with a line feed (10)
abbrev pub script_begins_with_feed : List ℕ → Bool
script_begins_with_feed [] = false
script_begins_with_feed (byte ∷ text) = byte == 10

-- the lines of a text, without the line feeds that end them, and without a carriage return (13) directly
-- before one; the last line, which may be empty, has no line feed
abbrev pub script_lines : List ℕ → List (List ℕ)
script_lines [] = [] ∷ []
script_lines (byte ∷ text) =
    if byte == 10 then [] ∷ script_lines text else
    (if (byte == 13) && script_begins_with_feed text then script_lines text else script_byte_before byte
    (script_lines text))

-- a space or a tab
abbrev pub is_script_blank : ℕ → Bool
is_script_blank byte = (byte == 32) || (byte == 9)

-- a blank or printable ASCII
abbrev pub is_script_plain : ℕ → Bool
is_script_plain byte = is_script_blank byte || (nat_le 33 byte && nat_le byte 126)

-- the part of a line before its comment, which begins with `#` (35)
abbrev pub script_uncommented : List ℕ → List ℕ
script_uncommented [] = []
script_uncommented (byte ∷ line) = if byte == 35 then [] else byte ∷ script_uncommented line

-- a word ends before these bytes
abbrev pub ends_script_word : List ℕ → Bool
ends_script_word [] = true
ends_script_word (byte ∷ line) = is_script_blank byte

-- the words: the longest parts without blanks
abbrev pub script_blank_split : List ℕ → List (List ℕ)
script_blank_split [] = []
script_blank_split (byte ∷ line) =
    if is_script_blank byte then script_blank_split line else (if ends_script_word line then (byte ∷ [])
    ∷ script_blank_split line else script_byte_before byte (script_blank_split line))

-- the words of a line, if before its comment it has only printable ASCII and blanks
abbrev pub script_line_words : List ℕ → Option (List (List ℕ))
script_line_words line = if list_all is_script_plain (script_uncommented line) then Some
    (script_blank_split (script_uncommented line)) else None
