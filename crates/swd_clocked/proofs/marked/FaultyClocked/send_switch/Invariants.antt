use Rattle.std.proofs.Common.{◌≡◌}
use Rattle.swd_clocked.specs.Frames.{frame_within_switch, cycles_counted}
use Rattle.swd_clocked.specs.Marked.{marked_clocked_cycles, marked_clocked_contended}
use Rattle.swd_clocked.specs.Phases.{CyclesMoveFrame}
use Rattle.swd_clocked.proofs.marked.FaultyClocked.send_switch.Given as goal

abbrev pub invariant-loop-place : goal.invariant-loop-place
invariant-loop-place g l = record {
  goes : CyclesMoveFrame (frame_within_switch l.place) l.fn.self l.self;
  cycles : marked_clocked_cycles l.self ≡ cycles_counted l.place (marked_clocked_cycles l.fn.self);
  contended : marked_clocked_contended l.self ≡ marked_clocked_contended l.fn.self;
}
