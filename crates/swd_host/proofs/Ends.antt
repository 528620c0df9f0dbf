-- What an outcome says of the memory.
use Rattle.swd_host.proofs.Words.{◌≡◌, ◌≢◌, ◌+◌, ◌%◌, ◌^◌, ◌<◌, ◌≤◌, ℕ, Bool, true, false, refl, sym, ap, subst, inl}
use Rattle.swd_host.proofs.Words.{inr, arith, ◌∙◌, Some, ◌⊎◌, if◌then◌else◌, Answer, Written, DrwWrite, Bus}
use Rattle.swd_host.proofs.Words.{plain_address, bus_answer, bus_after, Port, Choice, port_completed, End, All}
use Rattle.swd_host.proofs.Words.{Lost, Outcome, Opened, Answered, Stopped, Task, BurstWrite, Confirm, At, Data, State}
use Rattle.swd_host.proofs.Words.{Doing, Resting, Engine, access_of_task, is_burst, is_burst_write, engine_is_ahead_in}
use Rattle.swd_host.proofs.Words.{engine_is_ahead, engine_begun, engine_outcome_at, engine_outcome, engine_state_is_of}
use Rattle.swd_host.proofs.Words.{EngineHand, EngineBase, EngineWrites, whole, changed, EngineMemoryWithin}
use Rattle.swd_host.proofs.Words.{TaskWriteConfirmed, TaskConfirmPhase, EngineStateTracks, EngineFollowsPort}
use Rattle.swd_host.proofs.Words.{hand_of_engine, IsTask, EngineDueAt, HostEndsAt, BurstWriteIsPoised}
use Rattle.swd_host.proofs.Words.{EngineBetweenAccesses}
use Rattle.swd_port.proofs.CompletionLaws.{port_becomes_completed}
use Rattle.swd_host.specs.declared.outcome.End.TheVariants.{TriesOut}
use Rattle.swd_host.specs.Tracks.{EngineStoppedAt, EngineRestsAt}
use Rattle.swd_host.proofs.Starts.{engine_ahead_state, engine_ahead_burst, engine_ahead_write}

-- THE STATE IN WHICH AN OUTCOME CAME
-- the engine rests at the outcome, or the access is answered by the next one's write
pub engine_outcome_state : (x : State) (task : Task) (outcome : Outcome) → engine_outcome_at x task ≡ Some outcome
    → (x ≡ Resting outcome) ⊎ ((engine_is_ahead_in x task ≡ true) × (outcome ≡ Answered Written))
engine_outcome_state x task outcome h = grind arith

-- an engine whose outcome is a stop rests in that stop
pub engine_stopped_state : (x : State) (task : Task) (end : End) → engine_outcome_at x task ≡ Some (Stopped end)
    → x ≡ Resting (Stopped end)
engine_stopped_state x task end h = grind arith

-- a state of an access never has the outcome `Opened`
pub engine_access_not_opened : (x : State) (task : Task) → engine_state_is_of false x ≡ true
    → engine_outcome_at x task ≡ Some Opened → ⊥
engine_access_not_opened x task access h = grind arith

-- a state of the opening whose outcome is no stop rests as `Opened`
pub engine_opened_state : (x : State) (task : Task) (outcome : Outcome) → engine_state_is_of true x ≡ true
    → engine_outcome_at x task ≡ Some outcome → ((end : End) → outcome ≡ Stopped end → ⊥) → x ≡ Resting Opened
engine_opened_state x task outcome opening h none = grind arith

-- what is known where the engine rests
pub engine_outcome_rests : (base : EngineBase) (m : Bus) (f : Engine) (outcome : Outcome) (t : Port)
    → f.state ≡ Resting outcome
    → EngineFollowsPort base m f t → EngineRestsAt outcome (base.disturbed + f.events) f.tries base f.begun
    (hand_of_engine f m) t
engine_outcome_rests base m f outcome t is h =
    subst (λ x. EngineStateTracks x (base.disturbed + f.events) f.tries base f.begun (hand_of_engine f m) t) is h.tracks

-- AN ACCESS IS ANSWERED
pub record EngineAnswers (answer : Answer) (base : EngineBase) (m : Bus) (f : Engine) (t : Port) : Type 0 where
  pub waits : EngineBetweenAccesses (engine_is_ahead f) (base.disturbed + f.events)
      (hand_of_engine f (bus_after (access_of_task f.task) m)) t
  pub told : bus_answer (access_of_task f.task) m ≡ answer
  pub begun : is_burst f.task ≡ false → f.begun ≡ 0

answered_rests : (base : EngineBase) (m : Bus) (answer : Answer) (f : Engine) (t : Port)
    → f.state ≡ Resting (Answered answer) → EngineFollowsPort base m f t → EngineAnswers answer base m f t
answered_rests base m answer f t is h = grind arith

burst_confirms : (task : Task) (n b : ℕ) (k : EngineHand) (s : Port) → is_burst_write task ≡ true
    → TaskConfirmPhase task n b k s → EngineWrites DrwWrite n (λ c. TaskWriteConfirmed c b k s) s
burst_confirms (BurstWrite at word) n b k s burst h = h
burst_confirms _ n b k s burst h = absurd (cc)

-- the ranges of a burst's address
record Aligned (at : ℕ) : Type 0 where
  range : at < 2 ^ 32
  aligned : at % 4 ≡ 0
  below : at % 1024 < 1020

burst_aligned : (task : Task) → is_burst_write task ≡ true → IsTask task → Aligned (plain_address (access_of_task task))
burst_aligned (BurstWrite at word) burst h = record { range = h.0.0; aligned = h.0.1; below = h.1 }
burst_aligned _ burst h = absurd (cc)

confirmed_poised : (n b : ℕ) (k : EngineHand) (s : Port) → Aligned (plain_address (access_of_task k.task))
    → TaskWriteConfirmed n b k s
    → BurstWriteIsPoised n (plain_address (access_of_task k.task) + 4) (bus_after (access_of_task k.task) k.memory) s
confirmed_poised n b k s at h = grind arith

-- the next access's write is due where a burst's write was confirmed
writes_poised : (n b : ℕ) (k : EngineHand) (s : Port) → Aligned (plain_address (access_of_task k.task))
    → EngineWrites DrwWrite n (λ c. TaskWriteConfirmed c b k s) s
    → EngineWrites DrwWrite n (λ c. BurstWriteIsPoised c (plain_address (access_of_task k.task) + 4)
    (bus_after (access_of_task k.task) k.memory) s) s
writes_poised n b k s at (whole line h) = whole line (confirmed_poised n b k s at h)
writes_poised n b k s at (changed place line h) = changed place line (confirmed_poised (n + 1) b k s at h)

writes_answered : (n b : ℕ) (k : EngineHand) (s : Port) → EngineWrites DrwWrite n (λ c. TaskWriteConfirmed c b k s) s
    → bus_answer (access_of_task k.task) k.memory ≡ Written
writes_answered n b k s (whole line h) = h.answered
writes_answered n b k s (changed place line h) = h.answered

answered_ahead : (base : EngineBase) (m : Bus) (f : Engine) (t : Port) → engine_is_ahead f ≡ true
    → EngineFollowsPort base m f t → EngineAnswers Written base m f t
answered_ahead base m f t ahead h =
    let n : ℕ = base.disturbed + f.events in
    let is : f.state ≡ Doing (At Confirm) Data = engine_ahead_state f.state f.task ahead in
    let burst : is_burst_write f.task ≡ true = engine_ahead_write f.state f.task ahead in
    let x : EngineWrites DrwWrite n (λ c. TaskWriteConfirmed c f.begun (hand_of_engine f m) t) t =
    burst_confirms f.task n f.begun (hand_of_engine f m) t burst
    (subst (λ y. EngineStateTracks y n f.tries base f.begun (hand_of_engine f m) t) is h.tracks) in
    record {
      waits = subst (λ c. EngineBetweenAccesses c n (hand_of_engine f (bus_after (access_of_task f.task) m)) t)
          (sym ahead) (writes_poised n f.begun (hand_of_engine f m) t (burst_aligned f.task burst h.task) x);
      told = writes_answered n f.begun (hand_of_engine f m) t x;
      begun = λ single. absurd (let both : true ≡ false = sym (engine_ahead_burst f.state f.task ahead) ∙ single in cc);
    }

-- an answered access has the plain memory's answer; what holds between two accesses holds over the memory after it
pub engine_outcome_answers : (base : EngineBase) (m : Bus) (answer : Answer) (f : Engine) (t : Port)
    → engine_outcome f ≡ Some (Answered answer) → EngineFollowsPort base m f t → EngineAnswers answer base m f t
engine_outcome_answers base m answer f t is h = grind (arith, answered_ahead, answered_rests, engine_outcome_state)

-- A STOP
pub record EngineStops (end : End) (base : EngineBase) (tries n : ℕ) (b : ℕ) (k : EngineHand) (t : Port) : Type 0 where
  pub within : EngineMemoryWithin b k t.target
  -- the disturbances that were met as events, or more than the tries allow
  pub paid : ((end ≡ Lost) × (n ≤ t.tally.disturbed)) ⊎ (base.disturbed + tries < t.tally.disturbed)
  pub ends : (s : Port) (stray : Bool) (task : Task) → s.tally.disturbed ≤ base.disturbed → s.tally.lost ≤ base.lost
      → t.target.identification % 2 ≡ 1 → EngineDueAt (Resting (Stopped end)) stray task t.link.due
      → HostEndsAt end tries s t
  pub never : end ≢ All

-- what each end says
stops_by : (end : End) (n tries : ℕ) (base : EngineBase) (b : ℕ) (k : EngineHand) (t : Port)
    → EngineStoppedAt end n tries base b k t → EngineStops end base tries n b k t
stops_by Lost n tries base b k t h = record {
  within = h.within;
  paid = inl (refl, h.paid);
  ends = λ s stray task fewer less odd due.
      (due, omega (arith, h.more), record { select = h.select; odd = odd });
  never = λ is. absurd (cc);
}
stops_by TriesOut n tries base b k t h = record {
  within = h.0;
  paid = inr h.1;
  ends = λ s stray task fewer less odd due. (due, omega (arith, h.1), record { select = h.2; odd = odd });
  never = λ is. absurd (cc);
}
stops_by _ n tries base b k t h = absurd h

-- a stop is for a lost acknowledgement or too many disturbances; the accesses in flight allow the memory
pub engine_stop_memory : (base : EngineBase) (m : Bus) (f : Engine) (end : End) (t : Port)
    → f.state ≡ Resting (Stopped end)
    → EngineFollowsPort base m f t → EngineStops end base f.tries (base.disturbed + f.events) f.begun
    (hand_of_engine f m) t
engine_stop_memory base m f end t is h = grind (arith, engine_outcome_rests, stops_by)

-- the memory once the transfer that was pending took effect
pub host_memory_completed : (b : ℕ) (k : EngineHand) (t : Port) (c : Choice) → (w : EngineMemoryWithin b k t.target)
    → (port_completed c t).target.memory ≡ w.later
host_memory_completed b k t c w = port_becomes_completed w.later c t.target w.becomes

-- after a stop the reported number of begun accesses is the one that the engine counts
pub engine_stop_begun : (f : Engine) (end : End) → f.state ≡ Resting (Stopped end) → engine_begun f ≡ f.begun
engine_stop_begun f end is = ap (λ x. if engine_is_ahead_in x f.task then 0 else f.begun) is

-- it stops early only at a lost acknowledgement or past its tries
pub stops_only : (end : End) (tries : ℕ) (s t : Port) → HostEndsAt end tries s t → t.tally.lost ≡ s.tally.lost
    → t.tally.disturbed ≤ s.tally.disturbed + tries → end ≡ All
stops_only All tries s t h lost disturbed = refl
stops_only _ tries s t h lost disturbed = grind arith
