-- Laws of the lines of a text.
use Rattle.std.proofs.Common.{◌≡◌, ◌≢◌, ℕ, Bool, true, false, List, [], ◌∷◌, ◌++◌, refl, ap, ◌∙◌}
use Rattle.std.specs.Prelude.{if◌then◌else◌, ◌==◌, ◌&&◌}
use Rattle.std.proofs.lemmas.Bool.{ne_eqb}
use Rattle.swd_script.specs.Lines.{script_byte_before, script_begins_with_feed, script_lines}
use Rattle.swd_script.specs.Readers.{IsUnbrokenScriptLine}
use Rattle.swd_script.specs.Scans.{script_without_return}

-- a byte that ends no line
lines_byte : (byte : ℕ) (text : List ℕ) → byte ≢ 10
    → script_lines (byte ∷ text) ≡ (if (byte == 13) && script_begins_with_feed text then script_lines text else
    script_byte_before byte (script_lines text))
lines_byte byte text h = ap (λ t. if t then [] ∷ script_lines text else
    (if (byte == 13) && script_begins_with_feed text then script_lines text else script_byte_before byte
    (script_lines text))) (ne_eqb byte 10 h)

unfed : (t u : Bool) (first other : List (List ℕ)) → u ≡ false → (if t && u then first else other) ≡ other
unfed true u first other e = ap (λ v. if v then first else other) e
unfed false u first other e = refl

fed : (t : Bool) (byte : ℕ) (rest : List (List ℕ))
    → (if t && true then [] ∷ rest else script_byte_before byte ([] ∷ rest)) ≡ (if t then [] else byte ∷ []) ∷ rest
fed true byte rest = refl
fed false byte rest = refl

-- a line that a line feed ends
pub script_lines_fed : (line more : List ℕ) → IsUnbrokenScriptLine line
    → script_lines (line ++ 10 ∷ more) ≡ script_without_return line ∷ script_lines more
script_lines_fed [] more h = refl
script_lines_fed (byte ∷ []) more h = lines_byte byte (10 ∷ more) h.0 ∙ fed (byte == 13) byte (script_lines more)
script_lines_fed (byte ∷ next ∷ line) more h =
    lines_byte byte (next ∷ line ++ 10 ∷ more) h.0
    ∙ unfed (byte == 13) (next == 10) (script_lines (next ∷ line ++ 10 ∷ more))
    (script_byte_before byte (script_lines (next ∷ line ++ 10 ∷ more))) (ne_eqb next 10 h.1.0)
    ∙ ap (script_byte_before byte) (script_lines_fed (next ∷ line) more h.1)

-- the last line
pub script_lines_last : (line : List ℕ) → IsUnbrokenScriptLine line → script_lines line ≡ line ∷ []
script_lines_last [] h = refl
script_lines_last (byte ∷ []) h = lines_byte byte [] h.0 ∙ unfed (byte == 13) false ([] ∷ []) ((byte ∷ []) ∷ []) refl
script_lines_last (byte ∷ next ∷ line) h =
    lines_byte byte (next ∷ line) h.0
    ∙ unfed (byte == 13) (next == 10) (script_lines (next ∷ line))
    (script_byte_before byte (script_lines (next ∷ line))) (ne_eqb next 10 h.1.0)
    ∙ ap (script_byte_before byte) (script_lines_last (next ∷ line) h.1)

-- a line without a line feed has none with one more byte that isn't one
pub script_line_unbroken_more : (line : List ℕ) (byte : ℕ) → IsUnbrokenScriptLine line → byte ≢ 10
    → IsUnbrokenScriptLine (line ++ byte ∷ [])
script_line_unbroken_more [] byte h k = (k, tt)
script_line_unbroken_more (first ∷ line) byte h k = (h.0, script_line_unbroken_more line byte h.1 k)
