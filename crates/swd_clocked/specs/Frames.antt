-- The frames of a clocked target. All of it is this project's choice, except for the bits of the switch: IHI 0031, B5,
-- "JTAG-to-SWD sequence".
use Rattle.std.specs.Prelude.{ℕ, zero, suc, ◌≡◌, ◌+◌, ◌*◌, ◌-◌, ◌/◌, ◌%◌, ◌^◌, ◌==◌, ◌&&◌, not, Bool, true, false, min}
use Rattle.std.specs.Prelude.{if◌then◌else◌}
use Rattle.std.specs.Int.{w8, leading_ones}
use Rattle.swd_bits.specs.Bits.{bit}
use Rattle.swd_port.specs.declared.register.Register.{Register}
use Rattle.swd_port.specs.declared.register.Register.TheVariants.{DpIgnoredWrite}
use Rattle.swd_port.specs.declared.state.Reply.{Reply}
use Rattle.swd_port.specs.declared.state.Reply.TheVariants.{Waits, Faults, Silent}
use Rattle.swd_port.specs.declared.state.Reset.TheVariants.{Fresh}
use Rattle.swd_port.specs.declared.state.AfterAck.{AfterAck}
use Rattle.swd_port.specs.declared.state.AfterAck.TheVariants as lines
use Rattle.swd_port.specs.Port.{Target as State}
use Rattle.swd_port.specs.Choices.{port_undriven}
use Rattle.swd_port.specs.Answers.{is_port_okay}
use Rattle.swd_port.specs.Moving.{port_bits_driven}
use Rattle.swd_clocked.specs.declared.frame.Frame.{Frame}
use Rattle.swd_clocked.specs.declared.frame.Frame.TheVariants.{Asks, Lost, High, Switches, Replies, Drives, Awaits}
use Rattle.swd_clocked.specs.declared.frame.Frame.TheVariants.{Passes}

-- the 33 bits that a frame holds
abbrev pub frame_bits : Frame → ℕ
frame_bits (Drives bits left) = bits
frame_bits (Awaits r bits place) = bits
frame_bits (Replies reply line place) = port_bits_driven line
frame_bits frame = 0

-- its count, and below the limit of the count
abbrev pub frame_place : Frame → ℕ
frame_place (Asks bits count) = count
frame_place (Lost ones) = ones
frame_place High = 0
frame_place (Switches place) = place
frame_place (Replies reply line place) = place
frame_place (Drives bits left) = left
frame_place (Awaits r bits place) = place
frame_place Passes = 0

abbrev pub frame_limit : Frame → ℕ
frame_limit (Asks bits count) = 8
frame_limit (Lost ones) = 50
frame_limit High = 1
frame_limit (Switches place) = 16
frame_limit (Replies reply line place) = 4
frame_limit (Drives bits left) = 34
frame_limit (Awaits r bits place) = 34
frame_limit Passes = 1

-- the write that is awaited
abbrev pub frame_register : Frame → Register
frame_register (Awaits r bits place) = r
frame_register frame = DpIgnoredWrite

-- the frame between transactions
abbrev pub idle_frame : Frame
idle_frame = Asks 255 0

-- a bit shifted into the top of a register
abbrev pub clocked_shifted : ℕ → ℕ → Bool → ℕ
clocked_shifted top bits b = bits / 2 + bit b * top

-- the frame after a reply was driven
abbrev pub frame_after_reply : AfterAck → Frame
frame_after_reply lines.Idle = Passes
frame_after_reply (lines.Drives bits) = Drives bits 33
frame_after_reply (lines.Awaits r flip) = Awaits r port_undriven 0

-- the frame after a request: the reply starts, or fifty ones are awaited, of which its last bit is the first
abbrev pub frame_replied : Reply → AfterAck → Frame
frame_replied Silent phase = Lost 1
frame_replied reply phase = Replies reply phase 0

-- the frame after the reply was seen
abbrev pub frame_seen : Reply → AfterAck → Frame
frame_seen Silent phase = Lost 5
frame_seen reply phase = frame_after_reply phase

-- which acknowledgement is driven
abbrev pub is_clocked_wait : Reply → Bool
is_clocked_wait Waits = true
is_clocked_wait reply = false

abbrev pub is_clocked_fault : Reply → Bool
is_clocked_fault Faults = true
is_clocked_fault reply = false

-- the bit driven in this cycle of a reply; cycle 0 is the turnaround
abbrev pub reply_cycle_bit : Reply → ℕ → Bool
reply_cycle_bit reply place = if place == 1 then is_port_okay reply else
    (if place == 2 then is_clocked_wait reply else is_clocked_fault reply)

-- the bit of the switch with this number, from 0, the first in time: the sixteen bits of e79e
abbrev pub switch_cycle_bit : ℕ → Bool
switch_cycle_bit place = 0xe79e / 2 ^ place % 2 == 1

-- the frame after that bit; after the last one, fifty ones are awaited
abbrev pub frame_after_switch_bit : ℕ → Frame
frame_after_switch_bit place = if place == 15 then Lost 0 else Switches (place + 1)

-- The number of ones at the end of eight bits, the first in time least significant.
abbrev pub clocked_ones_at_end : ℕ → ℕ
clocked_ones_at_end byte = leading_ones w8 byte

-- The frame after a bit that completes neither a request nor fifty ones: idle, the start of a request, or a broken one
-- with the ones since its last zero. After a line reset a zero is idle.
abbrev pub frame_after_heard_bit : Bool → Frame → Frame
frame_after_heard_bit b (Asks bits count) =
    if (count == 0) && not b then idle_frame
    else if count == 7 then Lost (clocked_ones_at_end (clocked_shifted 128 bits b))
    else Asks (clocked_shifted 128 bits b) (count + 1)
frame_after_heard_bit b (Lost ones) = if b then Lost (ones + 1) else Lost 0
frame_after_heard_bit b frame = if b then frame else idle_frame

-- the frame after the first bits of the switch after a line reset, if they turn out not to be a switch
abbrev pub unswitched_frame : ℕ → Frame
unswitched_frame zero = High
unswitched_frame (suc place) = frame_after_heard_bit (switch_cycle_bit place) (unswitched_frame place)

-- The host has to release the line here: the target drives it, or it is a turnaround.
abbrev pub is_released_frame : Frame → Bool
is_released_frame (Replies reply line place) = true
is_released_frame (Drives bits left) = true
is_released_frame (Awaits r bits place) = place == 0
is_released_frame Passes = true
is_released_frame frame = false

-- 1 if the host drives a cycle in which it should release the line, else 0
abbrev pub contended_cycle : Frame → Bool → ℕ
contended_cycle frame true = if is_released_frame frame then 1 else 0
contended_cycle frame false = 0

-- `more` further cycles, saturating at 2^64 - 1
abbrev pub cycles_counted : ℕ → ℕ → ℕ
cycles_counted more cycles = min (cycles + more) (2 ^ 64 - 1)

-- the number of cycles of ones, with the switch and the ones again or without
abbrev pub reset_cycles : ℕ → Bool → ℕ
reset_cycles ones switch = if switch then ones + 16 + ones else ones

-- Ones lead to a line reset from here: the shift registers have had only ones.
abbrev pub IsRisingFrame : Frame → Type 0
IsRisingFrame (Asks bits count) = bits ≡ 255
IsRisingFrame (Lost ones) = Unit {0}
IsRisingFrame High = Unit {0}
IsRisingFrame (Switches place) = ⊥
IsRisingFrame (Replies reply line place) = ⊥
IsRisingFrame (Drives bits left) = Unit {0}
IsRisingFrame (Awaits r bits place) = bits ≡ port_undriven
IsRisingFrame Passes = Unit {0}

-- how many ones that takes
abbrev pub rising_frame_ones : Frame → ℕ
rising_frame_ones (Asks bits count) = 50 - count
rising_frame_ones (Lost ones) = 50 - ones
rising_frame_ones High = 0
rising_frame_ones (Switches place) = 0
rising_frame_ones (Replies reply line place) = 0
rising_frame_ones (Drives bits left) = 51 + left
rising_frame_ones (Awaits r bits place) = 84 - place
rising_frame_ones Passes = 51

-- the target after these ones
abbrev pub risen_frame_state : Frame → State → State
risen_frame_state High s = s
risen_frame_state (Awaits r bits place) s = record s { reset = Fresh; write_error = true }
risen_frame_state frame s = record s { reset = Fresh }

-- zeros lead to the idle frame from here
abbrev pub IsFallingFrame : Frame → Type 0
IsFallingFrame (Asks bits count) = (bits ≡ 255) × (count ≡ 0)
IsFallingFrame High = Unit {0}
IsFallingFrame (Switches place) = place ≡ 1
IsFallingFrame frame = ⊥

-- how many zeros that takes
abbrev pub falling_frame_zeros : Frame → ℕ
falling_frame_zeros High = 2
falling_frame_zeros (Switches place) = 1
falling_frame_zeros frame = 0

-- the frame after this many bits of the switch
abbrev pub frame_within_switch : ℕ → Frame
frame_within_switch place = if place == 0 then High else (if place == 16 then Lost 0 else Switches place)
