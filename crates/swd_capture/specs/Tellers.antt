-- The state of a teller that was given some parts.
use Rattle.std.specs.Prelude.{◌≡◌, ℕ, List, ◌++◌}
use Rattle.swd_trace.specs.declared.item.Item.{Item}
use Rattle.swd_resync.specs.declared.part.Part.{Part}
use Rattle.swd_resync.specs.AsItems.{resync_items}
use Rattle.swd_observer.specs.Traces.{trace_observer_after, trace_observer_from}
use Rattle.swd_observer.specs.declared.trace.TraceStart.{TraceStart}
use Rattle.swd_capture.specs.declared.printed.Printed.{Printed}
use Rattle.swd_capture.specs.declared.printed.Printed.TheVariants.{Lines, Counts, Accesses}
use Rattle.swd_capture.specs.declared.teller.PartLines.{PartLines}
use Rattle.swd_capture.specs.declared.teller.Teller.{Teller}
use Rattle.swd_capture.specs.declared.teller.Telling.{Telling}
use Rattle.swd_capture.specs.declared.teller.Telling.TheVariants.{Lines as ToldLines, Counts as ToldCounts}
use Rattle.swd_capture.specs.declared.teller.Telling.TheVariants.{Accesses as ToldAccesses}
use Rattle.swd_capture.specs.declared.watching.Watching.{Watching}
use Rattle.swd_capture.specs.Accesses.{observer_text_of_items}
use Rattle.swd_capture.specs.Gaps.{CaptureRun, IsHeldBack, capture_due_items, capture_waiting}
use Rattle.swd_capture.specs.Places.{capture_place_behind}
use Rattle.swd_capture.specs.Names.{capture_select_behind}
use Rattle.swd_capture.specs.Tables.{IsCaptureTableOf}

-- what waits is held
abbrev pub IsCaptureWatching : CaptureRun → Watching → Type 0
IsCaptureWatching run w = IsHeldBack run w.held

-- one that takes these items shows them to its observer, and appends the lines of what they show
pub record CaptureShows (items : List Item) (run : CaptureRun) (old new : Watching) (before after : List ℕ) : Type 0
  where
    pub keeps : IsCaptureWatching run new
    pub observer : new.observer ≡ trace_observer_after items old.observer
    pub bytes : after ≡ before ++ observer_text_of_items items old.observer

-- behind these parts lines depend on their bits and what they show of SELECT
pub record AreCaptureLinesAfter (parts : List Part) (lines : PartLines) : Type 0 where
  pub place : lines.place ≡ capture_place_behind (resync_items parts)
  pub select : lines.select ≡ capture_select_behind (resync_items parts)

-- lines are kept for lines, the table for counts, the observer for accesses
abbrev pub CaptureTellingAfter : Printed → List Part → Telling → Type 0
CaptureTellingAfter printed parts (ToldLines lines) = (printed ≡ Lines lines.form) × AreCaptureLinesAfter parts lines
CaptureTellingAfter printed parts (ToldCounts table) = (printed ≡ Counts) × IsCaptureTableOf parts table
CaptureTellingAfter printed parts (ToldAccesses watching) =
    (start : TraceStart) × (printed ≡ Accesses start)
    × (watching.observer ≡ trace_observer_after (capture_due_items parts) (trace_observer_from start))
    × IsCaptureWatching (capture_waiting parts) watching

-- it prints so, and was given these parts
pub record IsCaptureTellerAfter (printed : Printed) (parts : List Part) (t : Teller) : Type 0 where
  pub keeps : CaptureTellingAfter printed parts t.telling
