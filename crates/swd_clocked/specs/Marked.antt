-- What contracts see of a clocked target with a plan. All of it is this project's choice.
use Rattle.std.specs.Prelude.{ℕ, ◌≡◌, ◌≢◌, ◌-◌, Bool, true, false, List, Option, is_some, unwrap_or}
use Rattle.swd_bits.specs.declared.request.Request.{Request}
use Rattle.swd_port.specs.declared.mark.Mark.{Mark}
use Rattle.swd_port.specs.Bus.{Bus}
use Rattle.swd_port.specs.Port.{PortTally, Target as State}
use Rattle.swd_port.specs.Choices.{IsPortMark, is_port_deaf, is_port_wait}
use Rattle.swd_port.specs.Asking.{port_tally_after}
use Rattle.swd_target.specs.declared.plan.Plan.{Plan}
use Rattle.swd_target.specs.Simulations.{Simulation}
use Rattle.swd_target.specs.Plans as plans
use Rattle.swd_clocked.specs.declared.frame.Frame.{Frame}
use Rattle.swd_clocked.specs.declared.marked.FaultyClocked.{FaultyClocked}
use Rattle.swd_clocked.specs.Frames.{idle_frame}
use Rattle.swd_clocked.specs.Cycles.{Cycles, FrameMoved}
use Rattle.swd_clocked.specs.Clocks as clocks
use Rattle.swd_clocked.specs.Damage.{mark_changes_cycle, cycle_bit_turned, IsLastRequestCycle}

-- the state of the port model, in which a word may be unknown, and below the simulated target
abbrev pub marked_clocked_state : {D A : Type 0} → (D → Bus) → FaultyClocked D A → State
marked_clocked_state bus m = clocks.clocked_state bus m.clocked

abbrev pub marked_clocked_simulation : {D A : Type 0} → (D → Bus) → FaultyClocked D A → Simulation
marked_clocked_simulation bus m = clocks.clocked_simulation bus m.clocked

-- the frame of the target
abbrev pub marked_clocked_frame : {D A : Type 0} → FaultyClocked D A → Frame
marked_clocked_frame m = m.clocked.frame

-- the mark of the last request that used one
abbrev pub marked_clocked_mark : {D A : Type 0} → FaultyClocked D A → Mark
marked_clocked_mark m = m.mark

-- how many further cycles don't reach the target, after a request that it didn't see
abbrev pub marked_clocked_unseen : {D A : Type 0} → FaultyClocked D A → ℕ
marked_clocked_unseen m = m.unseen

-- the device behind its access port
abbrev pub marked_clocked_device : {D A : Type 0} → FaultyClocked D A → D
marked_clocked_device m = clocks.clocked_device m.clocked

-- the marks of its requests, and below its counts of requests and its cycles
abbrev pub marked_clocked_plan : {D A : Type 0} → FaultyClocked D A → List Mark
marked_clocked_plan m = plans.plan_marks m.plan

abbrev pub marked_clocked_tally : {D A : Type 0} → FaultyClocked D A → PortTally
marked_clocked_tally m = plans.plan_tally m.plan

abbrev pub marked_clocked_cycles : {D A : Type 0} → FaultyClocked D A → ℕ
marked_clocked_cycles m = clocks.clocked_cycles m.clocked

-- the number of its contended cycles so far
abbrev pub marked_clocked_contended : {D A : Type 0} → FaultyClocked D A → ℕ
marked_clocked_contended m = clocks.clocked_contended m.clocked

-- a cycle that reaches the target under a mark, where WAIT is asked for or not
pub record CycleReaches {D A : Type 0} (bus : D → Bus) (mark : Mark) (w : Bool) (drive : Option Bool) (answer : Bool)
    (s t : FaultyClocked D A) : Type 0 where
  pub bit : Bool
  pub cycles : let c = mark_changes_cycle s.clocked.frame mark (is_some drive) in
      Cycles bus s.clocked.frame (cycle_bit_turned c (unwrap_or drive true)) bit s.clocked.target w t.clocked
  pub sees : answer ≡ cycle_bit_turned (mark_changes_cycle s.clocked.frame mark (is_some drive)) bit
  pub marked : t.mark ≡ mark
  pub heard : t.unseen ≡ 0

-- a cycle that doesn't reach the target; `more` cycles after it won't either
pub record CycleMisses {D A : Type 0} (more : ℕ) (drive : Option Bool) (answer : Bool)
    (s t : FaultyClocked D A) : Type 0 where
  pub moved : FrameMoved idle_frame s.clocked.target s.clocked.waits t.clocked
  pub sees : answer ≡ unwrap_or drive true
  pub left : t.unseen ≡ more

-- the next mark of a plan is used, and it is this one
pub record CycleUsesMark {A : Type 0} (mark : Mark) (s t : Plan A) : Type 0 where
  pub is : mark ≡ plans.plan_next_mark s
  pub legal : IsPortMark mark
  pub marks : plans.plan_marks t ≡ plans.plan_marks s
  pub tally : plans.plan_tally t ≡ port_tally_after mark (plans.plan_tally s)

-- The last bit of a request uses a mark. A target that doesn't see the request also misses the cycles of its turnaround
-- and acknowledgement.
pub record CycleMeetsMark {D A : Type 0} (bus : D → Bus) (drive : Option Bool) (answer : Bool)
    (s t : FaultyClocked D A) : Type 0 where
  pub uses : CycleUsesMark t.mark s.plan t.plan
  pub deaf : is_port_deaf t.mark ≡ true → CycleMisses 4 drive answer s t
  pub hears : is_port_deaf t.mark ≡ false → CycleReaches bus t.mark (is_port_wait t.mark) drive answer s t

-- a cycle that uses no mark
pub record CycleKeepsPlan {D A : Type 0} (s t : FaultyClocked D A) : Type 0 where
  pub plan : t.plan ≡ s.plan
  pub mark : t.mark ≡ s.mark

-- One cycle, with the bit that the host drives, if any, and the bit that it sees: an undriven line reads 1.
pub record MarkedCycles {D A : Type 0} (bus : D → Bus) (drive : Option Bool) (answer : Bool)
    (s t : FaultyClocked D A) : Type 0 where
  pub missed : s.unseen ≢ 0 → CycleMisses (s.unseen - 1) drive answer s t × CycleKeepsPlan s t
  pub met : s.unseen ≡ 0 → (q : Request) → IsLastRequestCycle s.clocked.frame (unwrap_or drive true) q
      → CycleMeetsMark bus drive answer s t
  pub other : s.unseen ≡ 0 → ((q : Request) → IsLastRequestCycle s.clocked.frame (unwrap_or drive true) q → ⊥)
      → CycleReaches bus s.mark s.clocked.waits drive answer s t × CycleKeepsPlan s t
