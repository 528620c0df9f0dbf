use Rattle.std.proofs.Common.{◌≡◌, ℕ, ◌+◌, ◌-◌, ◌*◌, ◌/◌, ◌^◌}
use Rattle.swd_port.specs.Choices.{port_flip_of}
use Rattle.swd_port.specs.Choices.{port_flipped}
use Rattle.swd_clocked.specs.declared.frame.Frame.TheVariants.{Awaits}
use Rattle.swd_clocked.specs.Frames.{frame_register, cycles_counted}
use Rattle.swd_clocked.specs.Marked.{marked_clocked_frame, marked_clocked_cycles, marked_clocked_contended}
use Rattle.swd_clocked.specs.Phases.{CyclesMoveFrame}
use Rattle.swd_clocked.proofs.Shifts.{ClockedShifts}
use Rattle.swd_clocked.proofs.marked.FaultyClocked.give_bits.Given as goal

-- the bits as they arrive go through the target's register
abbrev pub invariant-loop-place : goal.invariant-loop-place
invariant-loop-place g l =
    let got = port_flipped (port_flip_of l.fn.self.mark) l.bits in
    (bits : ℕ) × (l.rest ≡ l.bits / 2 ^ l.place)
    × ClockedShifts (2 ^ 33) (got * 2 ^ 33 + (2 ^ 33 - 1)) l.place (got / 2 ^ l.place) bits
    × CyclesMoveFrame (Awaits (frame_register (marked_clocked_frame l.fn.self)) bits (l.place + 1)) l.fn.self l.self
    × (marked_clocked_cycles l.self ≡ cycles_counted (l.place + 1) (marked_clocked_cycles l.fn.self))
    × (marked_clocked_contended l.self ≡ marked_clocked_contended l.fn.self)
