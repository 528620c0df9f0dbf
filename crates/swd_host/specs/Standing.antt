-- What holds between two accesses of a list, and after it.
use Rattle.std.specs.Prelude.{ℕ, ◌≡◌, ◌+◌, ◌-◌, ◌*◌, ◌%◌, ◌^◌, ◌<◌, ◌≤◌, ◌++◌, List, length, take, Bool, true, false}
use Rattle.std.specs.Prelude.{Some, min, None, slice_index_or as get_or}
use Rattle.swd_port.specs.declared.access.Access.{Access}
use Rattle.swd_port.specs.declared.access.Answer.{Answer}
use Rattle.swd_port.specs.declared.register.Register.TheVariants.{DrwWrite}
use Rattle.swd_port.specs.declared.wire.Due.{Due}
use Rattle.swd_port.specs.Bus.{Bus}
use Rattle.swd_port.specs.PlainMemory.{plain_address}
use Rattle.swd_port.specs.Port.{Port}
use Rattle.swd_port.specs.Choices.{Choice}
use Rattle.swd_port.specs.Completion.{port_completed}
use Rattle.swd_host.specs.declared.outcome.End.{End}
use Rattle.swd_host.specs.declared.task.Bursts.{Bursts}
use Rattle.swd_host.specs.declared.outcome.End.TheVariants.{All}
use Rattle.swd_host.specs.declared.outcome.Outcome.TheVariants.{Opened}
use Rattle.swd_host.specs.declared.engine.State.TheVariants.{Resting}
use Rattle.swd_host.specs.declared.engine.Ahead.TheVariants.{Unsent}
use Rattle.swd_host.specs.declared.engine.Engine.{Engine}
use Rattle.swd_host.specs.Addresses.{continues_burst}
use Rattle.swd_host.specs.Plain.{memory_after, answers_of, AreHostAccesses}
use Rattle.swd_host.specs.Tasks.{access_of_task, is_burst}
use Rattle.swd_host.specs.Bursts.{bursts_limit, event_requests}
use Rattle.swd_host.specs.Engines.{engine_begun, engine_is_ahead, engine_outcome, engine_may_start}
use Rattle.swd_host.specs.Tracks.{EngineHand, EngineTargetUp, EngineWrites, EngineIsReady, hand_of_engine}
use Rattle.swd_host.specs.Tracks.{EngineDueFits}
use Rattle.swd_host.specs.Reports.{HostReport, FitsFrom, HostEndsAt, host_due_at_end}
use Rattle.swd_host.specs.Turns.{EnginePortLater}

-- a is the access after the one at i
pub record HostNextAccess (i : ℕ) (list : List Access) (a : Access) : Type 0 where
  pub number : i + 1 < length list
  pub same : (d : Access) → get_or list (i + 1) d ≡ a

-- the report of an engine
abbrev pub engine_report : List Answer → Engine → End → HostReport
engine_report answers e ended = record {
  answers = answers;
  begun = engine_begun e;
  requests = e.requests;
  ended = ended;
}

-- the DRW write of the next access was answered OK and awaits its data: TAR has its address
pub record BurstWriteIsPoised (n at : ℕ) (m : Bus) (s : Port) : Type 0 where
  pub up : EngineTargetUp m s.target
  pub tar : s.target.tar ≡ Some at
  pub flag : s.target.write_error ≡ false
  pub paid : n ≤ s.tally.disturbed

-- what holds between two accesses; in a burst of writes the data of the next one is due
abbrev pub EngineBetweenAccesses : Bool → ℕ → EngineHand → Port → Type 0
EngineBetweenAccesses true n k s = EngineWrites DrwWrite n
    (λ c. BurstWriteIsPoised c (plain_address (access_of_task k.task) + 4) k.memory s) s
EngineBetweenAccesses false n k s = EngineIsReady n k s

-- the target is up over this memory, no flag is set, and TAR is unknown to the engine
pub record EngineTargetIsOpen (m : Bus) (e : Engine) (s : Port) : Type 0 where
  pub up : EngineTargetUp m s.target
  pub odd : s.target.identification % 2 ≡ 1
  pub flag : s.target.write_error ≡ false
  pub tar : e.tar ≡ None
  pub ahead : e.ahead ≡ Unsent

-- nothing of the next access was sent, and TAR is unknown
pub record EngineStartsAnew (e : Engine) : Type 0 where
  pub tar : e.tar ≡ None
  pub ahead : e.ahead ≡ Unsent
  pub plain : is_burst e.task ≡ false

-- At least one request was sent for each of i accesses. Two more were sent, TAR's and the one that confirmed the last
-- access, unless the next access starts anew, as the first one does.
pub data EngineHasSentFor (i : ℕ) (o e : Engine) : Type 0 where
  anew : EngineStartsAnew e → o.requests + i ≤ e.requests → EngineHasSentFor i o e
  on : o.requests + 2 + i ≤ e.requests → EngineHasSentFor i o e

-- What is known of the bus after i accesses, for an engine that opened the target as o and is e now.
pub record EngineReachedMemory (i : ℕ) (list : List Access) (m : Bus) (o : Engine) (s : Port) (e : Engine)
    (answers : List Answer) (t : Port) : Type 0 where
  -- How many disturbances were met as events. One of the data phase of the request that confirmed the last access
  -- belongs to the next access.
  pub met : ℕ
  pub fewest : s.tally.disturbed ≤ met
  pub ready : EngineBetweenAccesses (engine_is_ahead e) met (hand_of_engine e (memory_after (take i list) m)) t
  pub answered : answers ≡ answers_of (take i list) m
  pub begun : is_burst e.task ≡ false → e.begun ≡ 0
  pub sent : EngineHasSentFor i o e
  pub most : e.requests ≤ o.requests + 6 * i + event_requests o.bursts * (met - s.tally.disturbed)

-- the list has an access at i, which continues a burst after this one
abbrev pub BurstContinuesAt : List Access → ℕ → Access → Type 0
BurstContinuesAt list i a = (i < length list) × ((d : Access) → continues_burst a (Some (get_or list i d)) ≡ true)

-- i accesses are answered: what the engine keeps by itself, whatever the target answers
pub record EngineStays (i : ℕ) (list : List Access) (o e : Engine) (answers : List Answer) (t : Port) : Type 0 where
  pub due : EngineDueFits e t
  pub rests : engine_may_start (engine_outcome e) ≡ true
  -- the next access continues the burst
  pub chain : is_burst e.task ≡ true → BurstContinuesAt list i (access_of_task e.task)
  pub tried : e.tries ≡ o.tries
  pub bursts : e.bursts ≡ o.bursts
  pub number : length answers ≡ i
  pub few : e.begun ≤ bursts_limit o.bursts
  pub spent : e.requests ≤ o.requests + i * (6 + event_requests o.bursts * o.tries)

-- i accesses are answered, from the engine o and the port s at the end of the opening
pub record EngineStands (i : ℕ) (list : List Access) (o : Engine) (s : Port) (e : Engine) (answers : List Answer)
    (t : Port) : Type 0 where
  pub stays : EngineStays i list o e answers t
  pub asked : t.tally.asked + o.requests ≡ s.tally.asked + e.requests
  pub later : EnginePortLater s t
  pub reached : (m : Bus) → EngineTargetIsOpen m o s → AreHostAccesses list
      → EngineReachedMemory i list m o s e answers t

-- an engine that has opened its target
pub record EngineHasOpened (e : Engine) : Type 0 where
  pub at : e.state ≡ Resting Opened
  pub plain : is_burst e.task ≡ false
  pub unbegun : e.begun ≡ 0
  pub most : e.requests ≤ 2 ^ 35
  pub tries : e.tries < 2 ^ 32

-- an engine for a list over an open target: it has sent no request, and knows nothing of TAR
pub record EngineIsOpened (kind : Bursts) (most : ℕ) (e : Engine) : Type 0 where
  pub has : EngineHasOpened e
  pub tries : e.tries ≡ most
  pub bursts : e.bursts ≡ kind
  pub requests : e.requests ≡ 0
  pub tar : e.tar ≡ None
  pub ahead : e.ahead ≡ Unsent
  pub events : e.events ≡ 0
  pub stray : e.stray ≡ false

-- What an engine that opened its target as o reaches by itself with a list. The requests that it sent for the list are
-- at most those of the answered accesses and of one more.
pub record EnginePerforms (list : List Access) (o f : Engine) (before after : List Answer) (end : End) (next : Due)
    : Type 0 where
  pub answers : List Answer
  pub added : after ≡ before ++ answers
  pub number : length answers ≤ length list
  pub whole : end ≡ All → length answers ≡ length list
  pub begun : engine_begun f ≤ bursts_limit o.bursts
  pub due : next ≡ host_due_at_end end
  pub spends : f.requests ≤ o.requests
      + min (length list) (length answers + 1) * (6 + event_requests o.bursts * o.tries)

-- The result of a list over this memory.
pub record EngineDoesOver (list : List Access) (m : Bus) (o f : Engine) (answers : List Answer) (end : End)
    (s t : Port) : Type 0 where
  pub now : FitsFrom o.requests (bursts_limit o.bursts) list m (engine_report answers f end) t.target.memory
  -- the bus once a transfer that is still pending has taken effect, whatever the target chooses
  pub settled : Bus
  pub becomes : (c : Choice) → (port_completed c t).target.memory ≡ settled
  pub later : FitsFrom o.requests (bursts_limit o.bursts) list m (engine_report answers f end) settled
  pub ends : HostEndsAt end o.tries s t
  pub least : end ≡ All → o.requests + length list ≤ f.requests
  pub most : f.requests ≤ o.requests + 6 * length list
      + event_requests o.bursts * (t.tally.disturbed - s.tally.disturbed)

-- The result of a list for an engine that opened the target as o. Its answers come after the earlier ones.
pub record EngineDoes (list : List Access) (o f : Engine) (before after : List Answer) (end : End) (s t : Port)
    : Type 0 where
  pub answers : List Answer
  pub added : after ≡ before ++ answers
  pub asked : t.tally.asked + o.requests ≡ s.tally.asked + f.requests
  pub later : EnginePortLater s t
  pub over : (m : Bus) → EngineTargetIsOpen m o s → AreHostAccesses list
      → EngineDoesOver list m o f answers end s t
