-- What is kept of the current line.
use Rattle.std.specs.Prelude.{◌≡◌, ℕ, ◌==◌, true, false, List, [], ◌∷◌, ◌++◌, Option, Some, None, if◌then◌else◌}
use Rattle.arrayvec.specs.ArrayVec.{ArrayVec}
use Rattle.swd_script.specs.declared.line_scan.LineScan.{LineScan}
use Rattle.swd_script.specs.declared.line_scan.ScanState.{ScanState}
use Rattle.swd_script.specs.declared.line_scan.ScanState.TheVariants.{Code, Return, Comment, Spoiled}
use Rattle.swd_script.specs.declared.words.LineWords.{LineWords}
use Rattle.swd_script.specs.Lines.{is_script_plain, script_line_words}
use Rattle.swd_script.specs.Words.{texts, first_words, Gathers}

-- a line without the carriage return at its end
abbrev pub script_without_return : List ℕ → List ℕ
script_without_return [] = []
script_without_return (byte ∷ []) = if byte == 13 then [] else byte ∷ []
script_without_return (byte ∷ next ∷ line) = byte ∷ script_without_return (next ∷ line)

-- no byte begins a comment or is allowed only in one
abbrev pub IsScriptCode : List ℕ → Type 0
IsScriptCode [] = Unit {0}
IsScriptCode (byte ∷ line) = (is_script_plain byte ≡ true) × ((byte == 35) ≡ false) × IsScriptCode line

-- a line so far without a comment
pub record IsScriptCodeSoFar (line : List ℕ) (kept : LineWords) : Type 0 where
  pub code : IsScriptCode line
  pub gathers : Gathers line kept

-- a line so far whose words end before this byte
pub record IsScriptCodeThen (line : List ℕ) (byte : ℕ) (rest : List ℕ) (front : List ℕ) (kept : LineWords) : Type 0
  where
    pub is : line ≡ front ++ byte ∷ rest
    pub front_is : IsScriptCodeSoFar front kept

-- a line with an invalid byte, whatever follows
pub record IsSpoiledScriptLine (line : List ℕ) : Type 0 where
  pub fed : (more : List ℕ) → script_line_words (script_without_return (line ++ more)) ≡ None
  pub unfed : (more : List ℕ) → script_line_words (line ++ more) ≡ None

abbrev pub ScriptScanHoldsAt : ScanState → List ℕ → LineWords → Type 0
ScriptScanHoldsAt Code line kept = IsScriptCodeSoFar line kept
ScriptScanHoldsAt Return line kept = (front : List ℕ) × IsScriptCodeThen line 13 [] front kept
ScriptScanHoldsAt Comment line kept = (front : List ℕ) × (rest : List ℕ) × IsScriptCodeThen line 35 rest front kept
ScriptScanHoldsAt Spoiled line kept = IsSpoiledScriptLine line

-- what the scan has of a line so far
abbrev pub ScriptScanHolds : List ℕ → LineScan → Type 0
ScriptScanHolds line scan = ScriptScanHoldsAt scan.place line scan.words

-- the words of a line that was ended, or `None` if a byte was invalid
abbrev pub script_scan_words_at : ScanState → LineWords → Option (ArrayVec (ArrayVec ℕ))
script_scan_words_at Code kept = Some kept.ended
script_scan_words_at Return kept = Some kept.ended
script_scan_words_at Comment kept = Some kept.ended
script_scan_words_at Spoiled kept = None

abbrev pub script_scan_words : LineScan → Option (ArrayVec (ArrayVec ℕ))
script_scan_words scan = script_scan_words_at scan.place scan.words

-- these are the first words of a line
pub record HasFirstScriptWords (line : List ℕ) (kept : List (ArrayVec ℕ)) : Type 0 where
  pub all : List (List ℕ)
  pub are : script_line_words line ≡ Some all
  pub first : texts kept ≡ first_words all

-- the first words of a line, or `None` if it is invalid
abbrev pub IsScannedScriptLine : List ℕ → Option (ArrayVec (ArrayVec ℕ)) → Type 0
IsScannedScriptLine line None = script_line_words line ≡ None
IsScannedScriptLine line (Some kept) = HasFirstScriptWords line kept.items
