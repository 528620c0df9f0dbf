use Rattle.std.proofs.Common.{◌≡◌, ◌-◌, ◌*◌, ◌/◌, ◌^◌}
use Rattle.swd_port.specs.Choices.{port_flip_of}
use Rattle.swd_port.specs.Choices.{port_flipped}
use Rattle.swd_clocked.specs.declared.frame.Frame.TheVariants.{Drives}
use Rattle.swd_clocked.specs.Frames.{frame_bits, cycles_counted}
use Rattle.swd_clocked.specs.Marked.{marked_clocked_frame, marked_clocked_cycles, marked_clocked_contended}
use Rattle.swd_clocked.specs.Phases.{CyclesMoveFrame}
use Rattle.swd_clocked.proofs.Shifts.{ClockedShifts}
use Rattle.swd_clocked.proofs.marked.FaultyClocked.take_bits.Given as goal

-- the bits as they arrive go through the register
abbrev pub invariant-loop-place : goal.invariant-loop-place
invariant-loop-place g l =
    let sent = frame_bits (marked_clocked_frame l.fn.self) in
    let got = port_flipped (port_flip_of l.fn.self.mark) sent in
    ClockedShifts (2 ^ 33) (got * 2 ^ 33) l.place (got / 2 ^ l.place) l.bits
    × CyclesMoveFrame (Drives (sent / 2 ^ l.place) (33 - l.place)) l.fn.self l.self
    × (marked_clocked_cycles l.self ≡ cycles_counted l.place (marked_clocked_cycles l.fn.self))
    × (marked_clocked_contended l.self ≡ marked_clocked_contended l.fn.self)
