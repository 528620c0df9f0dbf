use Rattle.std.proofs.Common.{◌≡◌, ◌-◌}
use Rattle.swd_clocked.specs.Frames.{IsRisingFrame, rising_frame_ones, cycles_counted}
use Rattle.swd_clocked.specs.Marked.{marked_clocked_frame, marked_clocked_unseen, marked_clocked_cycles}
use Rattle.swd_clocked.specs.Marked.{marked_clocked_contended}
use Rattle.swd_clocked.specs.Phases.{CyclesLeadToReset}
use Rattle.swd_clocked.proofs.marked.FaultyClocked.send_ones.Given as goal

abbrev pub invariant-loop-place : goal.invariant-loop-place
invariant-loop-place g l = record {
  frame : IsRisingFrame (marked_clocked_frame l.self);
  heard : marked_clocked_unseen l.self ≡ 0;
  rise : rising_frame_ones (marked_clocked_frame l.self) ≡ rising_frame_ones (marked_clocked_frame l.fn.self) - l.place;
  leads : CyclesLeadToReset g.D.Device.bus l.fn.self l.self;
  cycles : marked_clocked_cycles l.self ≡ cycles_counted l.place (marked_clocked_cycles l.fn.self);
  contended : marked_clocked_contended l.self ≡ marked_clocked_contended l.fn.self;
}
