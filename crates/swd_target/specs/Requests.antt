-- What a simulated target does at a request and at the data of a write. `bus` is the bus that its device is. All of it
-- is this project's choice.
use Rattle.std.specs.Prelude.{ℕ, ◌≡◌, ◌⊎◌, Bool, true, false}
use Rattle.swd_bits.specs.declared.request.Request.{Request}
use Rattle.swd_port.specs.declared.mark.Mark.{Mark}
use Rattle.swd_port.specs.declared.state.AfterAck.{AfterAck}
use Rattle.swd_port.specs.declared.state.Reply.{Reply}
use Rattle.swd_port.specs.Port.{Port, PortLink, PortTally, Target as State}
use Rattle.swd_port.specs.Bus.{Bus}
use Rattle.swd_port.specs.Choices.{Choice, IsPortChoice, IsPortMark, is_port_deaf, is_port_wait}
use Rattle.swd_port.specs.Answers.{port_seen_at}
use Rattle.swd_port.specs.Completion.{PortCompletes, port_completion}
use Rattle.swd_port.specs.Asking.{PortAsksNow, port_tally_after}
use Rattle.swd_port.specs.Moving.{PortArrival, port_after_bits}
use Rattle.swd_target.specs.declared.target.Target.{Target}
use Rattle.swd_target.specs.Simulations.{simulation_asked, simulation_reply, simulation_phase, simulation_link_after}
use Rattle.swd_target.specs.Simulations.{simulation_write_done, simulation_arrived}
use Rattle.swd_target.specs.Targets.{target_state, target_simulation}
use Rattle.swd_target.specs.Elsewhere.{IsTargetReadyIf, IsUntouched, bus_itself, target_over_device}
use Rattle.swd_target.specs.Flips.{target_line_under}

-- the state of the port model, from that of its target
abbrev pub target_port_at : PortLink → PortTally → State → Port
target_port_at l n s = record { link = l; target = s; tally = n }

-- the pending transfer takes effect, or not yet
abbrev pub TargetTransfers : State → State → Type 0
TargetTransfers s t = (t ≡ s) ⊎ ((c : Choice) × IsPortChoice c × (t ≡ port_completion c s))

-- one call of `ask` under a mark: a step of the port model
abbrev pub TargetAsksUnder : Mark → Port → Request → ℕ → Port → Type 0
TargetAsksUnder mark s q seen t =
    (a : Port) × (b : Port) × (c : Choice) × PortCompletes s a × PortAsksNow mark c a q seen b × PortCompletes b t

-- A request under a mark, with its reply and the data phase as it arrives: a step of the port model, and exactly the
-- step that the quirks and the mark choose.
pub record TargetAnswersUnder {D : Type 0} (bus : D → Bus) (mark : Mark) (q : Request) (s : Target D) (reply : Reply)
    (phase : AfterAck) (t : Target D) : Type 0 where
  pub step : (l : PortLink) (n : PortTally)
      → TargetAsksUnder mark (target_port_at l n (target_state bus s)) q (port_seen_at mark reply)
      (target_port_at (simulation_link_after mark q reply phase l) (port_tally_after mark n) (target_state bus t))
  pub replies : reply ≡ simulation_reply mark q (target_simulation bus s)
  pub phases : phase ≡ simulation_phase mark q (target_simulation bus s)
  pub exact : target_simulation bus t ≡ simulation_asked mark q (target_simulation bus s)

-- a request that the target sees, under each mark that asks for WAIT, or each that doesn't
abbrev pub TargetAnswersEach : {D : Type 0} → (D → Bus) → Bool → Request → Target D → Reply → AfterAck → Target D
    → Type 0
TargetAnswersEach bus waits q s reply phase t = (mark : Mark) → IsPortMark mark → is_port_deaf mark ≡ false
    → is_port_wait mark ≡ waits → TargetAnswersUnder bus mark q s reply (target_line_under mark phase) t

-- A request that the target sees, where WAIT is asked for or not, under each such mark. Where transfers take effect
-- late and no transfer did, the same holds over every other bus. If WAIT is asked for, that bus has to be one where the
-- pending transfer would succeed.
pub record TargetAnswers {D : Type 0} (bus : D → Bus) (waits : Bool) (q : Request) (s : Target D) (reply : Reply)
    (phase : AfterAck) (t : Target D) : Type 0 where
  pub under : TargetAnswersEach bus waits q s reply phase t
  pub elsewhere : (m : Bus) → IsUntouched bus s t → IsTargetReadyIf waits m s
      → TargetAnswersEach bus_itself waits q (target_over_device m s) reply phase (target_over_device m t)

-- The data of a write: a step of the port model, and exactly the step that the quirks choose. Where the write isn't
-- done, no transfer takes effect. Where transfers take effect late, the same holds over every other bus.
pub record DataComes {D : Type 0} (bus : D → Bus) (a : PortArrival) (s t : Target D) : Type 0 where
  pub later : TargetTransfers (port_after_bits false a (target_state bus s)) (target_state bus t)
  pub undone : simulation_write_done a ≡ false → target_state bus t ≡ port_after_bits false a (target_state bus s)
  pub exact : target_simulation bus t ≡ simulation_arrived a (target_simulation bus s)
  pub elsewhere : (m : Bus) → s.quirks.late ≡ true
      → (target_state bus_itself (target_over_device m t)
      ≡ port_after_bits false a (target_state bus_itself (target_over_device m s)))
      × (target_simulation bus_itself (target_over_device m t)
      ≡ simulation_arrived a (target_simulation bus_itself (target_over_device m s)))
