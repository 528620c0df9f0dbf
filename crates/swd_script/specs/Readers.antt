-- What the readers of scripts and plans have read.
use Rattle.std.specs.Prelude.{◌≡◌, ◌≢◌, ℕ, List, [], ◌∷◌, ◌++◌, length, map, Option, Result, Ok, Err, IsOk, Vec}
use Rattle.arrayvec.specs.ArrayVec.{ArrayVec}
use Rattle.swd_port.specs.declared.mark.Mark.{Mark}
use Rattle.swd_script.specs.declared.batch.Batch.{Batch}
use Rattle.swd_script.specs.declared.draft.Draft.{Draft}
use Rattle.swd_script.specs.declared.fault.LineFault.{LineFault}
use Rattle.swd_script.specs.declared.fault.LineFault.TheVariants.{Word, Number, Range, NoMemoryLine, Memory}
use Rattle.swd_script.specs.declared.fault.ScriptFault.{ScriptFault}
use Rattle.swd_script.specs.declared.fault.ScriptFault.TheVariants.{Word as WordAt, Number as NumberAt}
use Rattle.swd_script.specs.declared.fault.ScriptFault.TheVariants.{Range as RangeAt, NoMemoryLine as NoMemoryLineAt}
use Rattle.swd_script.specs.declared.fault.ScriptFault.TheVariants.{Memory as MemoryAt}
use Rattle.swd_script.specs.declared.line_reader.LineReader.{LineReader}
use Rattle.swd_script.specs.declared.line_scan.LineScan.{LineScan}
use Rattle.swd_script.specs.declared.script.Script.{Script}
use Rattle.swd_script.specs.Faults.{script_line_number, script_after_lines, script_fault_at}
use Rattle.swd_script.specs.Lines.{script_lines}
use Rattle.swd_script.specs.Plans.{plan_file_line, plan_of}
use Rattle.swd_script.specs.Scans.{ScriptScanHolds, IsScannedScriptLine}
use Rattle.swd_script.specs.Scripts.{ScriptListed, ScriptMeaning, ScriptSayings, script_nothing_said, script_line}
use Rattle.swd_script.specs.Scripts.{script_of}

-- no line feed
abbrev pub IsUnbrokenScriptLine : List ℕ → Type 0
IsUnbrokenScriptLine [] = Unit {0}
IsUnbrokenScriptLine (byte ∷ line) = (byte ≢ 10) × IsUnbrokenScriptLine line

-- of the text so far: the complete lines, and the scan of the current one, which has this number
pub record SplitsScriptLines (seen : List ℕ) (ended : List (List ℕ)) (scan : LineScan) (number : ℕ) : Type 0 where
  pub line : List ℕ
  pub law : (more : List ℕ) → script_lines (seen ++ more) ≡ ended ++ script_lines (line ++ more)
  pub unbroken : IsUnbrokenScriptLine line
  pub holds : ScriptScanHolds line scan
  pub number_is : number ≡ script_line_number (length ended)

-- of the text: the complete lines, and the next one
pub record EndsScriptLine (text : List ℕ) (ended : List (List ℕ)) (line : List ℕ) : Type 0 where
  pub rest : List (List ℕ)
  pub law : script_lines text ≡ ended ++ line ∷ rest

-- a line feed has ended a line, whose first words are kept if it is valid
pub record IsFedScriptLine (seen : List ℕ) (ended : List (List ℕ))
    (scanned : Option (ArrayVec (ArrayVec ℕ))) : Type 0 where
  pub line : List ℕ
  pub scan : IsScannedScriptLine line scanned
  pub law : (more : List ℕ) → script_lines (seen ++ 10 ∷ more) ≡ ended ++ line ∷ script_lines more

-- the last line of a text has these first words, or is invalid
pub record IsLastScriptLine (text : List ℕ) (ended : List (List ℕ))
    (scanned : Option (ArrayVec (ArrayVec ℕ))) : Type 0 where
  pub line : List ℕ
  pub scan : IsScannedScriptLine line scanned
  pub law : script_lines text ≡ ended ++ line ∷ []

-- the last line of a text has this number
pub record HasLastScriptLine (text : List ℕ) (number : ℕ) : Type 0 where
  pub ended : List (List ℕ)
  pub line : List ℕ
  pub law : script_lines text ≡ ended ++ line ∷ []
  pub number_is : number ≡ script_line_number (length ended)

-- the line with this number, which has these first words or is invalid, leads from one state to another;
-- `took` says which lines led to a state
abbrev pub ScriptLineLeads : {S : Type 0} → (List (List ℕ) → S → Type 0) → ℕ → Option (ArrayVec (ArrayVec ℕ)) → S → S
    → Type 0
ScriptLineLeads took number words old new =
    (ended : List (List ℕ)) (line : List ℕ) → number ≡ script_line_number (length ended)
    → IsScannedScriptLine line words → took ended old → took (ended ++ line ∷ []) new

-- the line with this number, which has these first words or is invalid, has this error; `refuses` says which
-- error a text has
abbrev pub ScriptLineStops : {S : Type 0} → (List (List ℕ) → S → Type 0) → (ScriptFault → List ℕ → Type 0) → ℕ →
    Option (ArrayVec (ArrayVec ℕ)) → S → LineFault → Type 0
ScriptLineStops took refuses number words old fault =
    (text : List ℕ) (ended : List (List ℕ)) (line : List ℕ) → EndsScriptLine text ended line
    → number ≡ script_line_number (length ended) → IsScannedScriptLine line words → took ended old
    → refuses (script_fault_at fault number) text

-- the reader has read these bytes without an error
pub record ReadsScriptLines {S : Type 0} (took : List (List ℕ) → S → Type 0) (reader : LineReader S) (seen : List ℕ) :
    Type 0
  where
    pub ended : List (List ℕ)
    pub splits : SplitsScriptLines seen ended reader.scan reader.number
    pub so_far : took ended reader.sink

-- these are the bytes that were taken
abbrev pub HasReadScriptLines : {S : Type 0} → (List (List ℕ) → S → Type 0) → Unit {0} → LineReader S × Unit {0}
    → List ℕ → Type 0
HasReadScriptLines took u state seen = ReadsScriptLines took state.0 seen

-- whatever follows, the text has this error
abbrev pub RefusesScriptLines : {S : Type 0} → (ScriptFault → List ℕ → Type 0) → Unit {0} → LineReader S × Unit {0} →
    ScriptFault → List ℕ → Type 0
RefusesScriptLines refuses u state fault text = (more : List ℕ) → refuses fault (text ++ more)

-- the accesses of a call
abbrev pub script_batch_listed : {A : Type 0} → Batch A → ScriptListed
script_batch_listed batch =
    record {
      accesses = batch.accesses.items;
      block = batch.block;
      expected = batch.expected.items;
      until = batch.until;
    }

-- what the lines so far say
abbrev pub script_draft_sayings : {A : Type 0} → Draft A → ScriptSayings
script_draft_sayings draft = record {
  memory = draft.memory;
  room = draft.room;
  core = draft.core;
  earlier = map script_batch_listed draft.earlier.items;
  batch = script_batch_listed draft.batch;
}

-- the error of a line; if memory ran out, it has no other error
abbrev pub IsScriptLineFault : {S : Type 0} → LineFault → Result S LineFault → Type 0
IsScriptLineFault Memory result = IsOk result
IsScriptLineFault Word result = result ≡ Err Word
IsScriptLineFault Number result = result ≡ Err Number
IsScriptLineFault Range result = result ≡ Err Range
IsScriptLineFault NoMemoryLine result = result ≡ Err NoMemoryLine

-- an error once the last line, which has this number, was read
abbrev pub IsScriptEndFault : ScriptFault → ℕ → Result ScriptMeaning ScriptFault → Type 0
IsScriptEndFault (MemoryAt number) line result = (number ≡ line) × IsOk result
IsScriptEndFault (WordAt number) line result = result ≡ Err (WordAt number)
IsScriptEndFault (NumberAt number) line result = result ≡ Err (NumberAt number)
IsScriptEndFault (RangeAt number) line result = result ≡ Err (RangeAt number)
IsScriptEndFault (NoMemoryLineAt number) line result = result ≡ Err (NoMemoryLineAt number)

-- memory ran out at the line with this number: the lines up to it are valid, and so is this line
pub record ScriptRunsOut {S : Type 0} (take : ℕ → S → Option (List (List ℕ)) → Result S LineFault)
    (start : S) (text : List ℕ) (number : ℕ) : Type 0 where
  pub ended : List (List ℕ)
  pub line : List ℕ
  pub ends : EndsScriptLine text ended line
  pub fine : IsOk (script_after_lines take start 0 (ended ++ line ∷ []))
  pub number_is : number ≡ script_line_number (length ended)

-- these lines of a script were added
abbrev pub TookScriptLines : {A : Type 0} → List (List ℕ) → Draft A → Type 0
TookScriptLines ended draft = script_after_lines script_line script_nothing_said 0 ended
    ≡ Ok (script_draft_sayings draft)

-- these lines of a plan were added
abbrev pub TookPlanFileLines : {A : Type 0} → List (List ℕ) → Vec Mark A → Type 0
TookPlanFileLines ended marks = script_after_lines (λ number. plan_file_line) [] 0 ended ≡ Ok marks.items

-- what a script that was read says
abbrev pub read_script_meaning : {A : Type 0} → Script A → ScriptMeaning
read_script_meaning script = record {
  base = script.base;
  words = script.words;
  room = script.room;
  core = script.core;
  batches = map script_batch_listed script.batches.items;
}

-- the first error of a text, or memory ran out
abbrev pub IsScriptTextFault : {S M : Type 0} → (List ℕ → Result M ScriptFault) →
    (ℕ → S → Option (List (List ℕ)) → Result S LineFault) → S → ScriptFault → List ℕ → Type 0
IsScriptTextFault meaning_of take start (WordAt number) text = meaning_of text ≡ Err (WordAt number)
IsScriptTextFault meaning_of take start (NumberAt number) text = meaning_of text ≡ Err (NumberAt number)
IsScriptTextFault meaning_of take start (RangeAt number) text = meaning_of text ≡ Err (RangeAt number)
IsScriptTextFault meaning_of take start (NoMemoryLineAt number) text = meaning_of text ≡ Err (NoMemoryLineAt number)
IsScriptTextFault meaning_of take start (MemoryAt number) text = ScriptRunsOut take start text number

-- the first error of a script, or memory ran out
abbrev pub IsScriptFault : ScriptFault → List ℕ → Type 0
IsScriptFault fault text = IsScriptTextFault script_of script_line script_nothing_said fault text

-- the first error of a plan, or memory ran out
abbrev pub IsPlanFileFault : ScriptFault → List ℕ → Type 0
IsPlanFileFault fault text = IsScriptTextFault plan_of (λ number. plan_file_line) [] fault text
