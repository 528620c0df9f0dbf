-- What contracts see of a clocked target with a plan whose debug port has a write buffer. That it gives a write up
-- wherever one is pending is this project's choice, as the rest of a simulated target is.
use Rattle.std.specs.Prelude.{ℕ, ◌≡◌, ◌≢◌, ◌+◌, Bool, true, false, Option, unwrap_or, if◌then◌else◌}
use Rattle.swd_bits.specs.declared.request.Request.{Request}
use Rattle.swd_port.specs.declared.mark.Mark.{Mark}
use Rattle.swd_port.specs.Bus.{Bus}
use Rattle.swd_port.specs.Port.{PortLink, PortTally}
use Rattle.swd_port.specs.Asking.{PortKeepsOrGivesUp}
use Rattle.swd_target.specs.Giving.{is_giving_up, simulation_giving, tally_given}
use Rattle.swd_target.specs.Requests.{target_port_at}
use Rattle.swd_target.specs.Plans as plans
use Rattle.swd_clocked.specs.declared.marked.FaultyClocked.{FaultyClocked}
use Rattle.swd_clocked.specs.Damage.{IsLastRequestCycle}
use Rattle.swd_clocked.specs.Marked.{marked_clocked_state, marked_clocked_simulation, marked_clocked_device}
use Rattle.swd_clocked.specs.Marked.{MarkedCycles, CycleKeepsPlan}
use Rattle.swd_clocked.specs.Clocks.{CountsNoCycle}

-- its debug port has a write buffer
abbrev pub has_marked_clocked_buffer : {D A : Type 0} → FaultyClocked D A → Bool
has_marked_clocked_buffer m = m.buffers

-- how many writes were given up so far
abbrev pub marked_clocked_given_up : {D A : Type 0} → FaultyClocked D A → ℕ
marked_clocked_given_up m = m.given_up.ticks

-- the same target, but whether its debug port has a write buffer
pub record DiffersInBuffer {D A : Type 0} (wanted : Bool) (s t : FaultyClocked D A) : Type 0 where
  pub buffers : has_marked_clocked_buffer t ≡ wanted
  pub given_up : marked_clocked_given_up t ≡ marked_clocked_given_up s
  pub clocked : t.clocked ≡ s.clocked
  pub keeps : CycleKeepsPlan s t
  pub unseen : t.unseen ≡ s.unseen

-- nothing is given up, and whether the port has a buffer is unchanged
pub record CycleKeepsBuffer {D A : Type 0} (s t : FaultyClocked D A) : Type 0 where
  pub buffers : has_marked_clocked_buffer t ≡ has_marked_clocked_buffer s
  pub given_up : marked_clocked_given_up t ≡ marked_clocked_given_up s

-- nothing but the target, and the count of writes that were given up, changed; nor did the device
pub record GivesUpAlone {D A : Type 0} (s t : FaultyClocked D A) : Type 0 where
  pub frame : t.clocked.frame ≡ s.clocked.frame
  pub waits : t.clocked.waits ≡ s.clocked.waits
  pub counts : CountsNoCycle s.clocked t.clocked
  pub device : marked_clocked_device t ≡ marked_clocked_device s
  pub keeps : CycleKeepsPlan s t
  pub unseen : t.unseen ≡ s.unseen
  pub buffers : has_marked_clocked_buffer t ≡ has_marked_clocked_buffer s

-- Before a request under a mark the pending write is given up, if the request can't wait for it and the target sees it.
-- With the write counted as a disturbance it is what the port model allows.
pub record RequestGivesUp {D A : Type 0} (bus : D → Bus) (mark : Mark) (q : Request)
    (s t : FaultyClocked D A) : Type 0 where
  pub exact : marked_clocked_simulation bus t ≡ simulation_giving mark q (marked_clocked_simulation bus s)
  pub lawful : (l : PortLink) (n : PortTally) → PortKeepsOrGivesUp mark q
      (target_port_at l n (marked_clocked_state bus s))
      (target_port_at l (tally_given (is_giving_up mark q (marked_clocked_state bus s)) n) (marked_clocked_state bus t))
  pub counted : let n = marked_clocked_given_up s in
      marked_clocked_given_up t ≡ (if is_giving_up mark q (marked_clocked_state bus s) then n + 1 else n)
  pub alone : GivesUpAlone s t

-- the same before the last bit of a request; before any other bit nothing changes
pub record LastCycleGivesUp {D A : Type 0} (bus : D → Bus) (b : Bool) (s t : FaultyClocked D A) : Type 0 where
  pub gives : (q : Request) → IsLastRequestCycle s.clocked.frame b q
      → RequestGivesUp bus (plans.plan_next_mark s.plan) q s t
  pub other : ((q : Request) → IsLastRequestCycle s.clocked.frame b q → ⊥) → t ≡ s
  pub alone : GivesUpAlone s t

-- the same of a port with a write buffer, where the cycle reaches the target; otherwise nothing changes
pub record CycleGivesUp {D A : Type 0} (bus : D → Bus) (drive : Option Bool) (s t : FaultyClocked D A) : Type 0 where
  pub plain : has_marked_clocked_buffer s ≡ false → t ≡ s
  pub missed : s.unseen ≢ 0 → t ≡ s
  pub gives : has_marked_clocked_buffer s ≡ true → s.unseen ≡ 0
      → LastCycleGivesUp bus (unwrap_or drive true) s t
  pub alone : GivesUpAlone s t

-- One cycle of a target whose port has a write buffer or has none: what is given up before it, and then the cycle as it
-- is without a buffer.
pub record BufferedCycles {D A : Type 0} (bus : D → Bus) (drive : Option Bool) (answer : Bool)
    (s t : FaultyClocked D A) : Type 0 where
  pub before : FaultyClocked D A
  pub gives : CycleGivesUp bus drive s before
  pub cycles : MarkedCycles bus drive answer before t
  pub keeps : CycleKeepsBuffer before t
