-- What is said of a trace text that is checked.
use Rattle.std.specs.Prelude.{◌≡◌, ℕ, ◌-◌, ◌^◌, ◌<◌, ◌++◌, min, List, [], ◌∷◌, length, Option, Result, Ok, Err}
use Rattle.std.specs.Io.KnownBytes.{Appends, Consumes, IsAtEnd}
use Rattle.swd_io.specs.Blocks.{OutputStopped}
use Rattle.swd_resync.specs.declared.part.Part.{Part}
use Rattle.swd_text.specs.declared.fault.DecodeFault.{DecodeFault}
use Rattle.swd_text.specs.declared.fault.DecodeFault.TheVariants.{Text, Read, Write}
use Rattle.swd_capture_text.specs.declared.reading.Reading.{Reading}
use Rattle.swd_capture_text.specs.Captures.{CaptureTextReadsAs, CaptureTextDecides, CaptureTextStopsWith}
use Rattle.swd_check.specs.declared.checked.Checked.{Checked}
use Rattle.swd_check.specs.declared.checked.Checked.TheVariants.{Fits, Breaks, Crowded, Outside}
use Rattle.swd_check.specs.declared.text.CheckedParts.{CheckedParts}
use Rattle.swd_check.specs.declared.text.CapturedParts.{CapturedParts}
use Rattle.swd_trace.specs.Texts.{bits_of_items}
use Rattle.swd_capture.specs.Gaps.{IsHeldBack, capture_due_items, capture_run_items, capture_waiting}
use Rattle.swd_capture_text.specs.declared.reading.Reading.TheVariants.{Trace, Capture}
use Rattle.swd_trace.specs.declared.item.Item.{Item}
use Rattle.swd_resync.specs.AsItems.{resync_items}
use Rattle.swd_check.specs.declared.check.Check.{Check}
use Rattle.swd_check.specs.Lines.{check_line}
use Rattle.swd_check.specs.Watched.{CheckIndex, CheckHolds, CheckTakes, CheckSays}

-- the number of items that fit is this one
abbrev pub IsCheckedCount : ℕ → Checked → Type 0
IsCheckedCount count (Fits items from faults gaps) = items ≡ count
IsCheckedCount count (Breaks broken) = Unit {0}
IsCheckedCount count (Crowded place) = Unit {0}
IsCheckedCount count (Outside place why) = Unit {0}

-- the number of parts, at most 2^64 - 1
abbrev pub check_count : List Part → ℕ
check_count parts = min (length parts) (2 ^ 64 - 1)

-- a sink that was given these parts
abbrev pub CheckHasTaken : {A : Type 0} → Check A → CheckedParts A × Unit {0} → List Part → Type 0
CheckHasTaken before state parts =
    (state.0.parts ≡ check_count parts) × CheckTakes (resync_items parts) before state.0.check

-- they have fewer than 2^64 bits
abbrev pub AreFewParts : List Part → Type 0
AreFewParts parts = length (bits_of_items (resync_items parts)) < 2 ^ 64

-- A sink that was given these parts of a capture: the transaction that waits is held back, and all others were taken,
-- but those directly before a skip, which count as bits of the gap.
pub record CheckHasHeld {A : Type 0} (before : Check A) (state : CapturedParts A × Unit {0}) (parts : List Part) :
    Type 0 where
  pub count : state.0.checked.parts ≡ check_count parts
  pub held : IsHeldBack (capture_waiting parts) state.0.held
  pub takes : AreFewParts parts → CheckTakes (capture_due_items parts) before state.0.checked.check

-- it never stops
abbrev pub check_never_stops : {C : Type 0} → C → ℕ → C → Type 0
check_never_stops before told now = ⊥

-- The items of a capture that are checked: a transaction directly before a skip counts as bits of that gap, with the
-- idle cycles between, and what waits at the end is checked. No later skip can follow it.
abbrev pub check_capture_items : List Part → List Item
check_capture_items parts = capture_due_items parts ++ capture_run_items (capture_waiting parts)

-- of a trace all are
abbrev pub check_items_of : Reading → List Part → List Item
check_items_of Trace parts = resync_items parts
check_items_of (Capture over) parts = check_capture_items parts

-- what a verdict says of further items
abbrev pub CheckSaysBehind : {A : Type 0} → Check A → List Item → Checked → Type 0
CheckSaysBehind check items checked =
    (i : CheckIndex) (seen : List Item) → CheckHolds i check seen → CheckSays i (seen ++ items) checked

-- What a result says of the reader's text, if its bytes are known, and of what is left of it. The whole text was read
-- before a verdict, which says this of the items that are checked of the text's parts.
abbrev pub ChecksText : Reading → (List Item → Checked → Type 0) → Result Checked DecodeFault → Option (List ℕ)
    → Option (List ℕ) → Type 0
ChecksText reading Says (Ok checked) text left =
    (read : List ℕ) × (parts : List Part) × Consumes text left read × IsAtEnd left
    × CaptureTextReadsAs reading read parts × IsCheckedCount (check_count parts) checked
    × Says (check_items_of reading parts) checked
ChecksText reading Says (Err (Text fault)) text left =
    (read : List ℕ) × (parts : List Part) × Consumes text left read
    × ((more : List ℕ) → CaptureTextStopsWith reading fault parts (read ++ more))
ChecksText reading Says (Err Read) text left =
    (read : List ℕ) × (parts : List Part) × Consumes text left read × CaptureTextDecides reading read parts
ChecksText reading Says (Err (Write told)) text left = ⊥

-- The same where the line of the verdict is written, of which any text says why an item breaks a rule. At an error of
-- the text or of the reader nothing was written, and at one of the writer exactly the line's first bytes.
abbrev pub WritesChecked : Reading → (List Item → Checked → Type 0) → Result Checked DecodeFault → Option (List ℕ)
    → Option (List ℕ)
    → Option (List ℕ) → Option (List ℕ) → Type 0
WritesChecked reading Says (Ok checked) text left old new =
    ChecksText reading Says (Ok checked) text left
    × ((why : List ℕ) × Appends old new (check_line checked why ++ 10 ∷ []))
WritesChecked reading Says (Err (Text fault)) text left old new =
    ChecksText reading Says (Err (Text fault)) text left × Appends old new []
WritesChecked reading Says (Err Read) text left old new = ChecksText reading Says (Err Read) text left
    × Appends old new []
WritesChecked reading Says (Err (Write told)) text left old new =
    (checked : Checked) × ChecksText reading Says (Ok checked) text left
    × ((why : List ℕ) × OutputStopped told old new (check_line checked why ++ 10 ∷ []))
