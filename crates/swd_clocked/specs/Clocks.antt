-- What contracts see of a clocked target. All of it is this project's choice.
use Rattle.std.specs.Prelude.{ℕ, ◌≡◌, Bool, true, Option, unwrap_or, if◌then◌else◌}
use Rattle.swd_bits.specs.declared.request.Request.{Request}
use Rattle.swd_port.specs.declared.mark.Mark.{Mark}
use Rattle.swd_port.specs.Bus.{Bus}
use Rattle.swd_port.specs.Port.{Target as State}
use Rattle.swd_target.specs.declared.quirks.Quirks.{Quirks}
use Rattle.swd_target.specs.Simulations.{Simulation, simulation_stepped}
use Rattle.swd_target.specs.Giving.{is_giving_up, state_without_write, simulation_giving}
use Rattle.swd_target.specs.Elsewhere as elsewhere
use Rattle.swd_target.specs.Targets as target
use Rattle.swd_clocked.specs.declared.frame.Frame.{Frame}
use Rattle.swd_clocked.specs.declared.clocked.Clocked.{Clocked}
use Rattle.swd_clocked.specs.Cycles.{Cycles, FrameMoved}
use Rattle.swd_clocked.specs.Frames.{cycles_counted, risen_frame_state}

-- the state of the port model, in which a word may be unknown, and below the simulated target
abbrev pub clocked_state : {D : Type 0} → (D → Bus) → Clocked D → State
clocked_state bus c = target.target_state bus c.target

abbrev pub clocked_simulation : {D : Type 0} → (D → Bus) → Clocked D → Simulation
clocked_simulation bus c = target.target_simulation bus c.target

-- its choices
abbrev pub clocked_quirks : {D : Type 0} → Clocked D → Quirks
clocked_quirks c = c.target.quirks

-- the device behind its access port
abbrev pub clocked_device : {D : Type 0} → Clocked D → D
clocked_device c = c.target.device

-- the same over another device
abbrev pub clocked_over : {D E : Type 0} → E → Clocked D → Clocked E
clocked_over e c = record {
  target = elsewhere.target_over_device e c.target;
  frame = c.frame;
  waits = c.waits;
  cycles = c.cycles;
  contended = c.contended;
  bits = c.bits;
  place = c.place;
  counts = c.counts;
}

-- its frame
abbrev pub clocked_frame : {D : Type 0} → Clocked D → Frame
clocked_frame c = c.frame

-- WAIT is asked for
abbrev pub is_clocked_wait_held : {D : Type 0} → Clocked D → Bool
is_clocked_wait_held c = c.waits

-- the number of its cycles so far
abbrev pub clocked_cycles : {D : Type 0} → Clocked D → ℕ
clocked_cycles c = c.cycles

-- the number of its contended cycles so far: those that the host drove where it should release the line
abbrev pub clocked_contended : {D : Type 0} → Clocked D → ℕ
clocked_contended c = c.contended.ticks

-- so many cycles more are counted, and none of them is contended
abbrev pub CountsCycles : {D : Type 0} → ℕ → Clocked D → Clocked D → Type 0
CountsCycles n s t = (clocked_cycles t ≡ cycles_counted n (clocked_cycles s))
    × (clocked_contended t ≡ clocked_contended s)

-- no cycle more is counted
abbrev pub CountsNoCycle : {D : Type 0} → Clocked D → Clocked D → Type 0
CountsNoCycle s t = (clocked_cycles t ≡ clocked_cycles s) × (clocked_contended t ≡ clocked_contended s)

-- one cycle, with the bit that the host drives, if any: an undriven line reads 1
abbrev pub ClocksOneCycle : {D : Type 0} → (D → Bus) → Option Bool → Bool → Clocked D → Clocked D → Type 0
ClocksOneCycle bus drive answer s t = Cycles bus s.frame (unwrap_or drive true) answer s.target s.waits t

-- only whether WAIT is held changed
abbrev pub ClockedHoldsWait : {D : Type 0} → Bool → Clocked D → Clocked D → Type 0
ClockedHoldsWait w s t = FrameMoved s.frame s.target w t

-- the pending transfer, if any, took effect, and nothing else changed
pub record ClockedSettles {D : Type 0} (bus : D → Bus) (s t : Clocked D) : Type 0 where
  pub target : target.TargetCompletes bus s.target t.target
  pub frame : t.frame ≡ s.frame
  pub waits : t.waits ≡ s.waits

-- before a request under a mark the pending write was given up, or not, and nothing else changed
pub record ClockedGivesUp {D : Type 0} (bus : D → Bus) (mark : Mark) (q : Request) (did : Bool)
    (s t : Clocked D) : Type 0 where
  pub gave : did ≡ is_giving_up mark q (clocked_state bus s)
  pub state : clocked_state bus t ≡ (if did then state_without_write (clocked_state bus s) else clocked_state bus s)
  pub exact : clocked_simulation bus t ≡ simulation_giving mark q (clocked_simulation bus s)
  pub device : clocked_device t ≡ clocked_device s
  pub frame : t.frame ≡ s.frame
  pub waits : t.waits ≡ s.waits
  pub counts : CountsNoCycle s t

-- ones passed: they lead to the same line reset
pub record ClockedRises {D : Type 0} (bus : D → Bus) (s t : Clocked D) : Type 0 where
  pub state : risen_frame_state t.frame (clocked_state bus t) ≡ risen_frame_state s.frame (clocked_state bus s)
  pub exact : simulation_stepped (λ c. risen_frame_state t.frame) (clocked_simulation bus t)
      ≡ simulation_stepped (λ c. risen_frame_state s.frame) (clocked_simulation bus s)
