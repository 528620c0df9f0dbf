-- How fault injection changes the bits at a clocked target. All of it is this project's choice.
use Rattle.std.specs.Prelude.{◌≡◌, ◌+◌, ◌==◌, ◌&&◌, not, Bool, true, false}
use Rattle.swd_bits.specs.Bits.{low_bits}
use Rattle.swd_bits.specs.Wire.{bits_of_request}
use Rattle.swd_bits.specs.declared.request.Request.{Request}
use Rattle.swd_port.specs.declared.mark.Mark.{Mark}
use Rattle.swd_port.specs.declared.mark.Mark.TheVariants.{Flip, Mute}
use Rattle.swd_clocked.specs.declared.frame.Frame.{Frame}
use Rattle.swd_clocked.specs.declared.frame.Frame.TheVariants.{Asks, Replies, Drives, Awaits}
use Rattle.swd_clocked.specs.Frames.{clocked_shifted}

-- Whether the mark of a request changes the bit of a cycle, which the host drives or not. It changes the bit that it
-- names, of the data phase or the acknowledgement. A bit of a write's data that nobody drives is never changed.
abbrev pub mark_changes_cycle : Frame → Mark → Bool → Bool
mark_changes_cycle (Replies reply line now) (Mute place) driven = now == place + 1
mark_changes_cycle (Drives bits left) (Flip place) driven = left + place == 33
mark_changes_cycle (Awaits r bits now) (Flip place) driven = driven && (now == place + 1)
mark_changes_cycle frame mark driven = false

-- a bit, inverted if it is changed
abbrev pub cycle_bit_turned : Bool → Bool → Bool
cycle_bit_turned true b = not b
cycle_bit_turned false b = b

-- the bit is the last of this request, where a request is awaited
abbrev pub IsLastRequestCycle : Frame → Bool → Request → Type 0
IsLastRequestCycle (Asks bits count) b q = (count ≡ 7) × (bits_of_request q ≡ low_bits 8 (clocked_shifted 128 bits b))
IsLastRequestCycle frame b q = ⊥
