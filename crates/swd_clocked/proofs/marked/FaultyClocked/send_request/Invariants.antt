use Rattle.std.proofs.Common.{◌≡◌, ℕ, ◌+◌, ◌*◌}
use Rattle.swd_clocked.specs.declared.frame.Frame.TheVariants.{Asks}
use Rattle.swd_clocked.specs.Frames.{cycles_counted}
use Rattle.swd_clocked.specs.Marked.{marked_clocked_cycles, marked_clocked_contended}
use Rattle.swd_clocked.specs.Phases.{CyclesMoveFrame}
use Rattle.swd_clocked.proofs.Shifts.{ClockedShifts}
use Rattle.swd_clocked.proofs.marked.FaultyClocked.send_request.Given as goal

abbrev pub invariant-loop-place : goal.invariant-loop-place
invariant-loop-place g l =
    (bits : ℕ) × ClockedShifts 256 (l.bits * 256 + 255) l.place l.rest bits
    × CyclesMoveFrame (Asks bits l.place) l.fn.self l.self
    × (marked_clocked_cycles l.self ≡ cycles_counted l.place (marked_clocked_cycles l.fn.self))
    × (marked_clocked_contended l.self ≡ marked_clocked_contended l.fn.self)
