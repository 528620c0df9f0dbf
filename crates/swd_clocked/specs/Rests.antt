-- The frames of a clocked target between the calls of its bench. All of it is this project's choice.
use Rattle.std.specs.Prelude.{ℕ, Option, Bool, true, false, ◌==◌, ◌&&◌, ◌||◌}
use Rattle.swd_port.specs.declared.wire.Due.{Due}
use Rattle.swd_port.specs.declared.wire.Due.TheVariants.{Nothing, Take, Give, Pass, Lost as DueLost}
use Rattle.swd_port.specs.declared.state.AfterAck.{AfterAck}
use Rattle.swd_port.specs.declared.state.AfterAck.TheVariants as lines
use Rattle.swd_port.specs.Choices.{port_flipped, port_undriven}
use Rattle.swd_clocked.specs.declared.frame.Frame.{Frame}
use Rattle.swd_clocked.specs.declared.frame.Frame.TheVariants.{Asks, Lost, Drives, Awaits, Passes}

-- the data phase that a target is in, with the bit that arrives changed, if any
abbrev pub frame_line : Frame → Option ℕ → AfterAck
frame_line (Drives bits left) flip = lines.Drives (port_flipped flip bits)
frame_line (Awaits r bits place) flip = lines.Awaits r flip
frame_line frame flip = lines.Idle

-- the frames between calls
abbrev pub is_idle_frame : Frame → Bool
is_idle_frame (Asks bits count) = (bits == 255) && (count == 0)
is_idle_frame frame = false

abbrev pub is_driving_frame : Frame → Bool
is_driving_frame (Drives bits left) = left == 33
is_driving_frame frame = false

abbrev pub is_awaiting_frame : Frame → Bool
is_awaiting_frame (Awaits r bits place) = (bits == port_undriven) && (place == 0)
is_awaiting_frame frame = false

abbrev pub is_passing_frame : Frame → Bool
is_passing_frame Passes = true
is_passing_frame frame = false

abbrev pub is_lost_frame : Frame → Bool
is_lost_frame (Lost ones) = true
is_lost_frame frame = false

-- what is due is consistent with the target's frame; after a lost acknowledgement that may be any of them
abbrev pub frame_fits_due : Due → Frame → Bool
frame_fits_due Nothing f = is_idle_frame f
frame_fits_due Take f = is_driving_frame f
frame_fits_due Give f = is_awaiting_frame f
frame_fits_due Pass f = is_passing_frame f
frame_fits_due DueLost f = is_idle_frame f || is_driving_frame f || is_awaiting_frame f || is_passing_frame f ||
    is_lost_frame f
