-- The items that parts count as, for accesses and for a check. A transaction directly before a skip belongs to that
-- gap, with the idle cycles between: a lost bit often shows only behind the transaction that it damaged. So a
-- transaction waits for the next part that isn't idle cycles. This is the project's choice.
use Rattle.std.specs.Prelude.{ℕ, ◌≡◌, ◌+◌, ◌-◌, ◌^◌, List, [], ◌∷◌, ◌++◌, length, min, Option, Some, None}
use Rattle.swd_trace.specs.declared.item.Item.{Item}
use Rattle.swd_trace.specs.declared.item.Item.TheVariants.{Reset, Switch, Idle, Tx, Junk, Cut}
use Rattle.swd_trace.specs.Held.{idle_items}
use Rattle.swd_trace.specs.Texts.{bits_of_items}
use Rattle.swd_resync.specs.declared.part.Part.{Part}
use Rattle.swd_resync.specs.declared.part.Part.TheVariants.{Item as Told, Phased, Skip}
use Rattle.swd_resync.specs.AsItems.{resync_part_items}
use Rattle.swd_capture.specs.declared.held_back.DueParts.{DueParts}
use Rattle.swd_capture.specs.declared.held_back.HeldBack.{HeldBack}

-- the transaction that waits, and the number of idle cycles behind it
pub record CaptureRun : Type 0 where
  pub part : Option Part
  pub idle : ℕ

abbrev pub capture_run_none : CaptureRun
capture_run_none = record { part = None; idle = 0 }

abbrev pub capture_run_of : Part → CaptureRun
capture_run_of part = record { part = Some part; idle = 0 }

-- as items, if no skip follows
abbrev pub capture_held_items : Option Part → ℕ → List Item
capture_held_items None idle = []
capture_held_items (Some part) idle = resync_part_items part ++ idle_items idle

abbrev pub capture_run_items : CaptureRun → List Item
capture_run_items run = capture_held_items run.part run.idle

-- what waits after idle cycles, after an item, and after a part
abbrev pub capture_run_idle : Option Part → ℕ → ℕ → CaptureRun
capture_run_idle None idle n = capture_run_none
capture_run_idle (Some part) idle n = record { part = Some part; idle = idle + n }

abbrev pub capture_run_after_item : CaptureRun → Item → CaptureRun
capture_run_after_item run (Tx tx) = capture_run_of (Told (Tx tx))
capture_run_after_item run (Idle n) = capture_run_idle run.part run.idle n
capture_run_after_item run (Reset n) = capture_run_none
capture_run_after_item run Switch = capture_run_none
capture_run_after_item run (Junk b) = capture_run_none
capture_run_after_item run (Cut bits) = capture_run_none

abbrev pub capture_run_after : CaptureRun → Part → CaptureRun
capture_run_after run (Told item) = capture_run_after_item run item
capture_run_after run (Phased tx) = capture_run_of (Phased tx)
capture_run_after run (Skip n) = capture_run_none

-- what is due, as one value, in the order of its fields: what waited, with its idle cycles, and a part
abbrev pub capture_due_of_run : CaptureRun → Option Part → DueParts
capture_due_of_run run part = record { held = run.part; idle = run.idle; part = part }

-- at idle cycles, at an item, at a skip, which takes with it what waits, and at a part
abbrev pub capture_due_of_idle : Option Part → ℕ → DueParts
capture_due_of_idle None n = capture_due_of_run capture_run_none (Some (Told (Idle n)))
capture_due_of_idle (Some part) n = capture_due_of_run capture_run_none None

abbrev pub capture_due_of_item : CaptureRun → Item → DueParts
capture_due_of_item run (Tx tx) = capture_due_of_run run None
capture_due_of_item run (Idle n) = capture_due_of_idle run.part n
capture_due_of_item run (Reset n) = capture_due_of_run run (Some (Told (Reset n)))
capture_due_of_item run Switch = capture_due_of_run run (Some (Told Switch))
capture_due_of_item run (Junk b) = capture_due_of_run run (Some (Told (Junk b)))
capture_due_of_item run (Cut bits) = capture_due_of_run run (Some (Told (Cut bits)))

abbrev pub capture_due_of_gap : CaptureRun → ℕ → DueParts
capture_due_of_gap run n =
    capture_due_of_run capture_run_none (Some (Skip (length (bits_of_items (capture_run_items run)) + n)))

abbrev pub capture_due_of : CaptureRun → Part → DueParts
capture_due_of run (Told item) = capture_due_of_item run item
capture_due_of run (Phased tx) = capture_due_of_run run None
capture_due_of run (Skip n) = capture_due_of_gap run n

-- as items
abbrev pub capture_items_with : List Item → Option Part → List Item
capture_items_with items None = items
capture_items_with items (Some part) = items ++ resync_part_items part

abbrev pub capture_items_of_due : DueParts → List Item
capture_items_of_due due = capture_items_with (capture_held_items due.held due.idle) due.part

abbrev pub capture_due_at : CaptureRun → Part → List Item
capture_due_at run part = capture_items_of_due (capture_due_of run part)

-- what waits is held, and its idle cycles are counted up to 2^64 - 1
pub record IsHeldBack (run : CaptureRun) (held : HeldBack) : Type 0 where
  pub part : held.part ≡ run.part
  pub idle : held.idle ≡ min run.idle (2 ^ 64 - 1)

-- what is due, with idle cycles and the bits of a skip counted up to 2^64 - 1
abbrev pub capture_part_capped : Option Part → Option Part
capture_part_capped None = None
capture_part_capped (Some (Told item)) = Some (Told item)
capture_part_capped (Some (Phased tx)) = Some (Phased tx)
capture_part_capped (Some (Skip n)) = Some (Skip (min n (2 ^ 64 - 1)))

pub record IsCaptureDue (whole due : DueParts) : Type 0 where
  pub held : due.held ≡ whole.held
  pub idle : due.idle ≡ min whole.idle (2 ^ 64 - 1)
  pub part : due.part ≡ capture_part_capped whole.part

-- what waits after some parts, and the items that are due
abbrev pub capture_run_behind : CaptureRun → List Part → CaptureRun
capture_run_behind run [] = run
capture_run_behind run (part ∷ parts) = capture_run_behind (capture_run_after run part) parts

abbrev pub capture_due : CaptureRun → List Part → List Item
capture_due run [] = []
capture_due run (part ∷ parts) = capture_due_at run part ++ capture_due (capture_run_after run part) parts

-- the items of the first parts of a capture, while more may follow
abbrev pub capture_due_items : List Part → List Item
capture_due_items parts = capture_due capture_run_none parts

abbrev pub capture_waiting : List Part → CaptureRun
capture_waiting parts = capture_run_behind capture_run_none parts
