use Rattle.std.proofs.Common.{◌≡◌, ◌-◌}
use Rattle.swd_clocked.specs.Frames.{IsFallingFrame, falling_frame_zeros, cycles_counted}
use Rattle.swd_clocked.specs.Marked.{marked_clocked_frame, marked_clocked_unseen, marked_clocked_cycles}
use Rattle.swd_clocked.specs.Marked.{marked_clocked_contended}
use Rattle.swd_clocked.specs.Phases.{CyclesMoveFrame}
use Rattle.swd_clocked.proofs.marked.FaultyClocked.send_zeros.Given as goal

abbrev pub invariant-loop-place : goal.invariant-loop-place
invariant-loop-place g l = record {
  frame : IsFallingFrame (marked_clocked_frame l.self);
  heard : marked_clocked_unseen l.self ≡ 0;
  fall : falling_frame_zeros (marked_clocked_frame l.self)
      ≡ falling_frame_zeros (marked_clocked_frame l.fn.self) - l.place;
  goes : CyclesMoveFrame (marked_clocked_frame l.self) l.fn.self l.self;
  cycles : marked_clocked_cycles l.self ≡ cycles_counted l.place (marked_clocked_cycles l.fn.self);
  contended : marked_clocked_contended l.self ≡ marked_clocked_contended l.fn.self;
}
