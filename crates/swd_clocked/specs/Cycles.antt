-- What one cycle does at a clocked target, by its frame. All of it is this project's choice.
use Rattle.std.specs.Prelude.{ℕ, ◌≡◌, ◌≢◌, ◌+◌, ◌-◌, ◌/◌, ◌%◌, ◌<◌, ◌^◌, ◌==◌, Bool, true, false, if◌then◌else◌}
use Rattle.swd_bits.specs.Bits.{low_bits}
use Rattle.swd_bits.specs.Wire.{bits_of_request}
use Rattle.swd_bits.specs.declared.request.Request.{Request}
use Rattle.swd_port.specs.Bus.{Bus}
use Rattle.swd_port.specs.declared.register.Register.{Register}
use Rattle.swd_port.specs.declared.state.AfterAck.{AfterAck}
use Rattle.swd_port.specs.declared.state.Reply.{Reply}
use Rattle.swd_bits.specs.Phases.{data_phase_word}
use Rattle.swd_port.specs.Moving.{port_arrival_of}
use Rattle.swd_target.specs.declared.target.Target.{Target}
use Rattle.swd_target.specs.Targets.{TargetSteps, target_line_reset}
use Rattle.swd_target.specs.Requests.{TargetAnswers, DataComes}
use Rattle.swd_clocked.specs.declared.frame.Frame.{Frame}
use Rattle.swd_clocked.specs.declared.frame.Frame.TheVariants.{Asks, Lost, High, Switches, Replies, Drives, Awaits}
use Rattle.swd_clocked.specs.declared.frame.Frame.TheVariants.{Passes}
use Rattle.swd_clocked.specs.declared.clocked.Clocked.{Clocked}
use Rattle.swd_clocked.specs.Frames.{idle_frame, clocked_shifted, frame_after_reply, frame_replied, frame_seen}
use Rattle.swd_clocked.specs.Frames.{reply_cycle_bit, frame_after_switch_bit, switch_cycle_bit, clocked_ones_at_end}
use Rattle.swd_clocked.specs.Frames.{unswitched_frame}

-- Each relation below is between the target, and whether WAIT is held, before, and the clocked target after.

-- only the frame changed
pub record FrameMoved {D : Type 0} (f : Frame) (s : Target D) (w : Bool) (t : Clocked D) : Type 0 where
  pub frame : t.frame ≡ f
  pub target : t.target ≡ s
  pub waits : t.waits ≡ w

-- a request came, and its reply starts
pub record ClockedRequested {D : Type 0} (bus : D → Bus) (q : Request) (s : Target D) (w : Bool)
    (t : Clocked D) : Type 0 where
  pub reply : Reply
  pub phase : AfterAck
  pub answers : TargetAnswers bus w q s reply phase t.target
  pub frame : t.frame ≡ frame_replied reply phase
  pub waits : t.waits ≡ w

-- a request was sent, and its reply was seen
pub record ClockedSeen {D : Type 0} (bus : D → Bus) (q : Request) (a : Reply) (s : Target D) (w : Bool)
    (t : Clocked D) : Type 0 where
  pub phase : AfterAck
  pub answers : TargetAnswers bus w q s a phase t.target
  pub frame : t.frame ≡ frame_seen a phase
  pub waits : t.waits ≡ w

-- Eight bits came that begin with Start. If they aren't a request, fifty ones are awaited, to which their last bits may
-- count.
pub record ClockedByteCame {D : Type 0} (bus : D → Bus) (byte : ℕ) (s : Target D) (w : Bool)
    (t : Clocked D) : Type 0 where
  pub whole : (q : Request) → bits_of_request q ≡ low_bits 8 byte → ClockedRequested bus q s w t
  pub broken : ((q : Request) → bits_of_request q ≢ low_bits 8 byte)
      → FrameMoved (Lost (clocked_ones_at_end byte)) s w t

-- a bit where a request is awaited, of which `count` bits came: a zero instead of Start is idle
pub record AsksCycle {D : Type 0} (bus : D → Bus) (bits count : ℕ) (b : Bool) (s : Target D) (w : Bool)
    (t : Clocked D) : Type 0 where
  pub quiet : count ≡ 0 → b ≡ false → FrameMoved idle_frame s w t
  pub more : count < 7 → (count ≡ 0 → b ≡ true) → FrameMoved (Asks (clocked_shifted 128 bits b) (count + 1)) s w t
  pub whole : count ≡ 7 → ClockedByteCame bus (clocked_shifted 128 bits b) s w t

-- a line reset
pub record ClockedResetCame {D : Type 0} (bus : D → Bus) (s : Target D) (w : Bool) (t : Clocked D) : Type 0 where
  pub reset : TargetSteps bus (λ c. target_line_reset false) s t.target
  pub frame : t.frame ≡ High
  pub waits : t.waits ≡ w

-- a bit where fifty ones are awaited, of which `ones` came
pub record LostCycle {D : Type 0} (bus : D → Bus) (ones : ℕ) (b : Bool) (s : Target D) (w : Bool)
    (t : Clocked D) : Type 0 where
  pub low : b ≡ false → FrameMoved (Lost 0) s w t
  pub more : ones < 49 → b ≡ true → FrameMoved (Lost (ones + 1)) s w t
  pub whole : ones ≡ 49 → b ≡ true → ClockedResetCame bus s w t

-- a bit taken in a frame that drives nothing
abbrev pub HeardCycle : {D : Type 0} → (D → Bus) → Frame → Bool → Target D → Bool → Clocked D → Type 0
HeardCycle bus (Asks bits count) b s w t = AsksCycle bus bits count b s w t
HeardCycle bus (Lost ones) b s w t = LostCycle bus ones b s w t
HeardCycle bus frame b s w t = Unit {0}

-- The next bit of the switch after the ones of a line reset leads to the one after it. Another bit is taken as if the
-- bits before it had not been part of a switch.
pub record SwitchCycle {D : Type 0} (bus : D → Bus) (place : ℕ) (b : Bool) (s : Target D) (w : Bool)
    (t : Clocked D) : Type 0 where
  pub fits : b ≡ switch_cycle_bit place → FrameMoved (frame_after_switch_bit place) s w t
  pub differs : b ≢ switch_cycle_bit place → HeardCycle bus (unswitched_frame place) b s w t

-- a cycle of a reply: the turnaround, then three that are driven
pub record ReplyCycle {D : Type 0} (reply : Reply) (line : AfterAck) (place : ℕ) (b answer : Bool)
    (s : Target D) (w : Bool) (t : Clocked D) : Type 0 where
  pub frame : FrameMoved (if place == 3 then frame_after_reply line else Replies reply line (place + 1)) s w t
  pub turn : place ≡ 0 → answer ≡ b
  pub driven : place ≢ 0 → answer ≡ reply_cycle_bit reply place

-- a cycle of a read's data: `left` more bits are driven, and then a turnaround passes
pub record DrivesCycle {D : Type 0} (bits left : ℕ) (b answer : Bool)
    (s : Target D) (w : Bool) (t : Clocked D) : Type 0 where
  pub driven : left ≢ 0 → answer ≡ (bits % 2 == 1)
  pub more : left ≢ 0 → FrameMoved (Drives (bits / 2) (left - 1)) s w t
  pub turn : left ≡ 0 → (answer ≡ b) × FrameMoved idle_frame s w t

-- the 33 bits of a write came
pub record ClockedDataCame {D : Type 0} (bus : D → Bus) (r : Register) (sent : ℕ) (s : Target D) (w : Bool)
    (t : Clocked D) : Type 0 where
  pub comes : DataComes bus (port_arrival_of r (data_phase_word sent)) s t.target
  pub frame : t.frame ≡ idle_frame
  pub waits : t.waits ≡ w

-- a cycle of a write's data: a turnaround, and then 33 bits
pub record AwaitsCycle {D : Type 0} (bus : D → Bus) (r : Register) (bits place : ℕ) (b : Bool) (s : Target D) (w : Bool)
    (t : Clocked D) : Type 0 where
  pub turn : place ≡ 0 → FrameMoved (Awaits r bits 1) s w t
  pub more : place ≢ 0 → place < 33 → FrameMoved (Awaits r (clocked_shifted (2 ^ 32) bits b) (place + 1)) s w t
  pub whole : place ≡ 33 → ClockedDataCame bus r (clocked_shifted (2 ^ 32) bits b) s w t

-- A cycle, with the bit b on the line if the target doesn't drive it, and the bit `answer` that is on the line.
abbrev pub Cycles : {D : Type 0} → (D → Bus) → Frame → Bool → Bool → Target D → Bool → Clocked D → Type 0
Cycles bus (Asks bits count) b answer s w t = (answer ≡ b) × AsksCycle bus bits count b s w t
Cycles bus (Lost ones) b answer s w t = (answer ≡ b) × LostCycle bus ones b s w t
Cycles bus High b answer s w t = (answer ≡ b) × FrameMoved (if b then High else Switches 1) s w t
Cycles bus (Switches place) b answer s w t = (answer ≡ b) × SwitchCycle bus place b s w t
Cycles bus (Replies reply line place) b answer s w t = ReplyCycle reply line place b answer s w t
Cycles bus (Drives bits left) b answer s w t = DrivesCycle bits left b answer s w t
Cycles bus (Awaits r bits place) b answer s w t = (answer ≡ b) × AwaitsCycle bus r bits place b s w t
Cycles bus Passes b answer s w t = (answer ≡ b) × FrameMoved idle_frame s w t
