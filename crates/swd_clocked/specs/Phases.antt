-- What whole phases do at a clocked target with a plan. All of it is this project's choice.
use Rattle.std.specs.Prelude.{ℕ, ◌≡◌, ◌≢◌, true, false}
use Rattle.swd_bits.specs.declared.request.Request.{Request}
use Rattle.swd_port.specs.Bus.{Bus}
use Rattle.swd_port.specs.declared.state.AfterAck.{AfterAck}
use Rattle.swd_port.specs.declared.state.Reply.{Reply}
use Rattle.swd_port.specs.declared.state.Reply.TheVariants.{Silent}
use Rattle.swd_port.specs.Choices.{is_port_deaf, is_port_wait}
use Rattle.swd_port.specs.Answers.{port_seen_at}
use Rattle.swd_clocked.specs.declared.frame.Frame.{Frame}
use Rattle.swd_clocked.specs.declared.frame.Frame.TheVariants.{Lost, Replies}
use Rattle.swd_clocked.specs.declared.marked.FaultyClocked.{FaultyClocked}
use Rattle.swd_clocked.specs.Frames.{idle_frame, frame_after_reply, frame_register}
use Rattle.swd_clocked.specs.Cycles.{FrameMoved, ClockedRequested, ClockedSeen, ClockedDataCame}
use Rattle.swd_clocked.specs.Clocks.{ClockedRises}
use Rattle.swd_clocked.specs.Marked.{CycleKeepsPlan, CycleUsesMark}

-- only the frame changed, and each cycle reached the target
pub record CyclesMoveFrame {D A : Type 0} (f : Frame) (s t : FaultyClocked D A) : Type 0 where
  pub moved : FrameMoved f s.clocked.target s.clocked.waits t.clocked
  pub keeps : CycleKeepsPlan s t
  pub heard : t.unseen ≡ 0

-- the 33 bits of a write came
pub record CyclesBringData {D A : Type 0} (bus : D → Bus) (sent : ℕ) (s t : FaultyClocked D A) : Type 0 where
  pub came : ClockedDataCame bus (frame_register s.clocked.frame) sent s.clocked.target s.clocked.waits t.clocked
  pub keeps : CycleKeepsPlan s t
  pub heard : t.unseen ≡ 0

-- ones passed: they lead to the same line reset
pub record CyclesLeadToReset {D A : Type 0} (bus : D → Bus) (s t : FaultyClocked D A) : Type 0 where
  pub rises : ClockedRises bus s.clocked t.clocked
  pub keeps : CycleKeepsPlan s t
  pub heard : t.unseen ≡ 0

-- the bits of a request were sent, which the target saw or not
pub record CyclesSendRequest {D A : Type 0} (bus : D → Bus) (q : Request) (s t : FaultyClocked D A) : Type 0 where
  pub uses : CycleUsesMark t.mark s.plan t.plan
  pub deaf : is_port_deaf t.mark ≡ true → FrameMoved idle_frame s.clocked.target s.clocked.waits t.clocked
      × (t.unseen ≡ 4)
  pub hears : is_port_deaf t.mark ≡ false → ClockedRequested bus q s.clocked.target (is_port_wait t.mark) t.clocked
      × (t.unseen ≡ 0)

-- the three bits after a turnaround: those of a reply under the mark, or of an undriven line
pub record CyclesSeeReply {D A : Type 0} (seen : ℕ) (s t : FaultyClocked D A) : Type 0 where
  pub replied : (reply : Reply) → (line : AfterAck) → reply ≢ Silent → s.unseen ≡ 0
      → s.clocked.frame ≡ Replies reply line 0
      → (seen ≡ port_seen_at s.mark reply) × CyclesMoveFrame (frame_after_reply line) s t
  pub lost : s.unseen ≡ 0 → s.clocked.frame ≡ Lost 1 → (seen ≡ 7) × CyclesMoveFrame (Lost 5) s t
  pub missed : s.unseen ≡ 4 → (seen ≡ 7) × CyclesMoveFrame idle_frame s t

-- A request was sent, and its reply was seen.
pub record CyclesAskRequest {D A : Type 0} (bus : D → Bus) (q : Request) (seen : ℕ)
    (s t : FaultyClocked D A) : Type 0 where
  pub uses : CycleUsesMark t.mark s.plan t.plan
  pub heard : t.unseen ≡ 0
  pub deaf : is_port_deaf t.mark ≡ true → (seen ≡ 7) × FrameMoved idle_frame s.clocked.target s.clocked.waits t.clocked
  pub hears : is_port_deaf t.mark ≡ false
      → (a : Reply) × (seen ≡ port_seen_at t.mark a) × ClockedSeen bus q a s.clocked.target (is_port_wait t.mark)
      t.clocked
