-- An access begins: its task, its first state, and what is known of the port then. For the loops over a list.
use Rattle.swd_host.proofs.Words.{engine_stray_left}
use Rattle.swd_host.proofs.EventRequests.{event_requests_fresh}
use Rattle.swd_host.proofs.Words.{event_requests}
use Rattle.swd_host.proofs.Words.{◌≡◌, ◌+◌, ◌*◌, ◌%◌, ◌<◌, ◌≤◌, ℕ, Bool, true, false, not, refl, sym, ap, subst, inl}
use Rattle.swd_host.proofs.Words.{arith, ◌∙◌, Option, Some, None, ◌&&◌, if◌then◌else◌, bit, Access, AccessRead}
use Rattle.swd_host.proofs.Words.{AccessWrite, BusFault, DrwWrite, Due, Nothing, Bus, plain_address}
use Rattle.swd_host.proofs.Words.{bus_answer, bus_after, Port, PortSent, Answered, Task, Write, BurstWrite, Bursts}
use Rattle.swd_host.proofs.Words.{Transfer, Confirm, At, Ahead, Unsent, NextSent, NextFailed, Data, State, Doing}
use Rattle.swd_host.proofs.Words.{Resting, Engine, continues_burst, IsHostAccess, access_of_task, task_is_read}
use Rattle.swd_host.proofs.Words.{is_burst, is_burst_write, task_is_block, task_for, task_most_begun, bursts_limit}
use Rattle.swd_host.proofs.Words.{engine_is_ahead_in, engine_is_ahead, engine_outcome, engine_may_start, engine_left_in}
use Rattle.swd_host.proofs.Words.{engine_least_in, engine_open_requests, engine_state_is_of, EngineHand, EngineBase}
use Rattle.swd_host.proofs.Words.{EngineTargetUp, EnginePlaceIsSure, EngineWrites, whole, changed, EngineIsReady}
use Rattle.swd_host.proofs.Words.{TaskTransferPhase, EngineStateTracks, EngineFollowsPort, hand_of_engine, IsTask}
use Rattle.swd_host.proofs.Words.{engine_data_due, EngineDueAt, EngineDueFits, EngineAheadAt, EngineKnowsTarAt}
use Rattle.swd_host.proofs.Words.{block_next_read, engine_first_state, engine_ahead_failed, engine_next_failed}
use Rattle.swd_host.proofs.Words.{EngineStarts, BurstWriteIsPoised, EngineBetweenAccesses}
use Rattle.swd_host.specs.Turns.{EngineContinuesBurst}
use Rattle.swd_host.specs.Standing.{EngineStartsAnew}

-- THE TASK OF AN ACCESS
pub task_access : (kind : Bursts) (a : Access) (following : Option Access)
    → access_of_task (task_for kind a following) ≡ a
task_access kind a following = grind arith

-- the access that continues one
abbrev is_reading : Access → Bool
is_reading (AccessRead at) = true
is_reading (AccessWrite at word) = false

pub record BurstContinues (a b : Access) : Type 0 where
  pub next : plain_address b ≡ plain_address a + 4
  pub below : plain_address a % 1024 < 1020
  pub same : is_reading b ≡ is_reading a

pub burst_continues_by : (a b : Access) → continues_burst a (Some b) ≡ true → BurstContinues a b
burst_continues_by a b h = grind arith

-- a read of a block is followed by the read of the next word
pub burst_next_read : (task : Task) (b : Access) → task_is_block task ≡ true
    → continues_burst (access_of_task task) (Some b) ≡ true → b ≡ block_next_read task
burst_next_read task b block h = grind arith

-- what continues a burst of writes is a write
next_writes : (kind : Bursts) (task : Task) (b : Access) (following : Option Access) → is_burst_write task ≡ true
    → continues_burst (access_of_task task) (Some b) ≡ true → task_is_read (task_for kind b following) ≡ false
next_writes kind task b following burst h = grind arith

is_task : (kind : Bursts) (a : Access) (following : Option Access) → IsHostAccess a → IsTask (task_for kind a following)
is_task kind a following ok = grind arith

-- an access of a burst is one that the following access continues
pub burst_continues : (kind : Bursts) (a : Access) (following : Option Access)
    → is_burst (task_for kind a following) ≡ true → continues_burst a following ≡ true
burst_continues kind a following burst = grind arith

-- a task may have no more accesses in flight than its engine's kind of bursts: one for writes, two for reads
pub task_most : (kind : Bursts) (a : Access) (following : Option Access)
    → task_most_begun (task_for kind a following) ≤ bursts_limit kind
task_most kind a following = grind arith

-- a read of a block is an access of a burst
pub block_task_is_burst : (task : Task) → task_is_block task ≡ true → is_burst task ≡ true
block_task_is_burst task h = grind arith

pub single_task_not_block : (task : Task) → is_burst task ≡ false → task_is_block task ≡ false
single_task_not_block task h = grind arith

-- WHERE THE ACCESS BEFORE IS ANSWERED BY THIS ONE'S WRITE
pub engine_ahead_state : (x : State) (task : Task) → engine_is_ahead_in x task ≡ true → x ≡ Doing (At Confirm) Data
engine_ahead_state x task h = grind arith

-- an access that the OK to the next one's DRW write has answered is a write of a burst
pub engine_ahead_write : (x : State) (task : Task) → engine_is_ahead_in x task ≡ true → is_burst_write task ≡ true
engine_ahead_write x task h = grind arith

write_burst : (task : Task) → is_burst_write task ≡ true → is_burst task ≡ true
write_burst task h = grind arith

-- and so an access of a burst
pub engine_ahead_burst : (x : State) (task : Task) → engine_is_ahead_in x task ≡ true → is_burst task ≡ true
engine_ahead_burst x task h = write_burst task (engine_ahead_write x task h)

not_true : (b : Bool) (P : Type 0) → (b ≡ true → P) → (P → ⊥) → b ≡ false
not_true true P h none = absurd (none (h refl))
not_true false P h none = refl

-- an access that is none of a burst has nothing ahead
pub single_task_not_ahead : (x : State) (task : Task) → is_burst task ≡ false → engine_is_ahead_in x task ≡ false
single_task_not_ahead x task plain = grind (arith, engine_ahead_burst, not_true)

-- WHAT THE ENGINE KNOWS OF THE PORT
poised_sure : (n at b : ℕ) (k : EngineHand) (s : Port) → plain_address (access_of_task k.task) ≡ at
    → BurstWriteIsPoised n at k.memory s → EnginePlaceIsSure Transfer n b k s
poised_sure n at b k s is h =
    record { has = record { up = h.up; tar = h.tar ∙ ap Some (sym is) }; flag = λ w. h.flag; paid = h.paid }

poised_writes : (n at b : ℕ) (k : EngineHand) (s : Port) → plain_address (access_of_task k.task) ≡ at
    → EngineWrites DrwWrite n (λ c. BurstWriteIsPoised c at k.memory s) s
    → EngineWrites DrwWrite n (λ c. EnginePlaceIsSure Transfer c b k s) s
poised_writes n at b k s is (whole line h) = whole line (poised_sure n at b k s is h)
poised_writes n at b k s is (changed place line h) = changed place line (poised_sure (n + 1) at b k s is h)

transfers_by : (task : Task) (n b : ℕ) (k : EngineHand) (s : Port) → task_is_read task ≡ false → 1 ≤ b
    → EngineWrites DrwWrite n (λ c. EnginePlaceIsSure Transfer c b k s) s → TaskTransferPhase task n b k s
transfers_by (Write at word) n b k s write begun h = (begun, h)
transfers_by (BurstWrite at word) n b k s write begun h = (begun, h)
transfers_by _ n b k s write begun h = absurd (cc)

-- HOW FAR AN ACCESS IS WHERE IT BEGINS
first_left : (kind : Bursts) (ahead : Bool) (further : Ahead) (aims : Bool)
    → engine_left_in kind (engine_first_state ahead further aims) ≤ 6
first_left kind ahead further aims = grind arith

first_least : (ahead : Bool) (further : Ahead) (aims : Bool) → (not ahead && engine_ahead_failed further) ≡ false
    → engine_least_in aims (engine_first_state ahead further aims) ≤ bit aims + 1
first_least ahead further aims going = grind arith

first_access : (ahead : Bool) (further : Ahead) (aims : Bool) → engine_state_is_of false
    (engine_first_state ahead further aims) ≡ true
first_access ahead further aims = grind arith

-- an access of which nothing was sent, and that writes TAR
pub record IsEngineStart (g : Engine) : Type 0 where
  pub aims : g.aims ≡ true
  pub begun : g.begun ≡ 0
  pub least : engine_least_in g.aims g.state ≡ 0

-- one that is answered at once
pub record IsEngineAnswered (g : Engine) : Type 0 where
  pub state : g.state ≡ Resting (Answered BusFault)
  pub begun : g.begun ≡ 0
  pub single : is_burst g.task ≡ false

bit_most : (b : Bool) → bit b ≤ 1
bit_most b = grind arith

module _ (a : Access) (following : Option Access) (e g : Engine) (starts : EngineStarts a following e g) where
  -- the engine's current access is the one that was started
  pub same_access : access_of_task g.task ≡ a
  same_access = ap access_of_task starts.task ∙ task_access e.bursts a
      (if engine_next_failed e then None else following)

  -- whether the access is answered at once, by what was ahead
  failed_by : (ahead : Bool) (further : Ahead) → engine_is_ahead e ≡ ahead → e.ahead ≡ further
      → engine_next_failed e ≡ (not ahead && engine_ahead_failed further)
  failed_by ahead further is at = ap (λ x. not x && engine_ahead_failed e.ahead) is ∙ ap
      (λ x. not ahead && engine_ahead_failed x) at

  -- an access begins as begun where the one before was of a burst, unless it is answered at once
  begun_by : (failed : Bool) → engine_next_failed e ≡ failed → g.begun ≡ bit (is_burst e.task && not failed)
  begun_by failed is = starts.begun ∙ ap (λ x. bit (is_burst e.task && not x)) is

  begun_here : engine_next_failed e ≡ false → is_burst e.task ≡ true → 1 ≤ g.begun
  begun_here none burst = grind (arith, begun_by)

  -- an access that the one before found to be a bus error is answered as it starts, with no access in flight
  pub answered_start : engine_next_failed e ≡ true → IsEngineAnswered g
  answered_start failed = grind arith

  unsent_tracks : (n tries : ℕ) (base : EngineBase) (m : Bus) (s : Port) → engine_is_ahead e ≡ false
      → e.ahead ≡ Unsent
      → EngineIsReady n (hand_of_engine e m) s
      → EngineStateTracks (engine_first_state false Unsent g.aims) n tries base g.begun (hand_of_engine g m) s
  unsent_tracks n tries base m s is at h = grind arith

  start_tracks : (ahead : Bool) (further : Ahead) (n tries : ℕ) (base : EngineBase) (m : Bus) (s : Port)
      → engine_is_ahead e ≡ ahead → e.ahead ≡ further
      → (is_burst e.task ≡ true → continues_burst (access_of_task e.task) (Some a) ≡ true)
      → EngineBetweenAccesses ahead n (hand_of_engine e m) s
      → EngineStateTracks (engine_first_state ahead further g.aims) n tries base g.begun (hand_of_engine g m) s
  start_tracks true further n tries base m s is at chain h =
      let burst : is_burst e.task ≡ true = engine_ahead_burst e.state e.task is in
      let next = burst_continues_by (access_of_task e.task) a (chain burst) in
      transfers_by g.task n g.begun (hand_of_engine g m) s
      (ap task_is_read starts.task ∙ next_writes e.bursts e.task a (if engine_next_failed e then None else following)
      (engine_ahead_write e.state e.task is) (chain burst)) (begun_here (failed_by true further is at) burst)
      (poised_writes n (plain_address (access_of_task e.task) + 4) g.begun (hand_of_engine g m) s
      (ap plain_address same_access ∙ next.next) h)
  start_tracks false Unsent n tries base m s is at chain h = unsent_tracks n tries base m s is at h
  start_tracks false NextSent n tries base m s is at chain h =
      let up : EngineAheadAt NextSent e.task m s.target = subst (λ x. EngineAheadAt x e.task m s.target) at h.up in
      let burst : is_burst e.task ≡ true = block_task_is_burst e.task up.0 in
      inl (record {
        has = record {
          serves = up.1.serves;
          begun = begun_here (failed_by false NextSent is at) burst;
          sent = subst (λ x. PortSent x m s.target) (sym (same_access ∙ burst_next_read e.task a up.0 (chain burst)))
              up.1.sent;
        };
        flag = λ w. h.flag;
        paid = h.paid;
      })
  start_tracks false NextFailed n tries base m s is at chain h =
      let up : EngineAheadAt NextFailed e.task m s.target = subst (λ x. EngineAheadAt x e.task m s.target) at h.up in
      let tar : e.tar ≡ None = subst (λ x. EngineKnowsTarAt x e.tar s.target) at h.known in
      let here : access_of_task g.task ≡ block_next_read e.task =
      same_access ∙ burst_next_read e.task a up.0 (chain (block_task_is_burst e.task up.0)) in
      let answered : IsEngineAnswered g = answered_start (failed_by false NextFailed is at) in
      record {
        begun = answered.begun ∙ sym (ap bit (single_task_not_block g.task answered.single));
        up = subst (λ x. EngineAheadAt x g.task (bus_after (access_of_task g.task) m) s.target) (sym starts.ahead)
            (subst (λ y. EngineTargetUp y s.target) (sym (ap (λ x. bus_after x m) here)) up.1);
        answered = ap (λ x. bus_answer x m) here ∙ up.2;
        known = subst (λ x. EngineKnowsTarAt x g.tar s.target) (sym starts.ahead)
            (λ place some. absurd (let never : None ≡ Some place = sym (starts.tar ∙ tar) ∙ some in cc));
        flag = h.flag;
        paid = h.paid;
      }

  -- from what holds between two accesses the engine's invariant follows at the start of the next one
  pub start_follows : (n : ℕ) (m : Bus) (s : Port) → IsHostAccess a
      → (is_burst e.task ≡ true → continues_burst (access_of_task e.task) (Some a) ≡ true)
      → EngineBetweenAccesses (engine_is_ahead e) n (hand_of_engine e m) s
      → EngineFollowsPort (record { disturbed = n; lost = s.tally.lost }) m g s
  start_follows n m s ok chain h =
      let base : EngineBase = record { disturbed = n; lost = s.tally.lost } in
      let none : n + g.events ≡ n = omega (arith, starts.events) in
      record {
        task = subst IsTask (sym starts.task)
            (is_task e.bursts a (if engine_next_failed e then None else following) ok);
        lost = omega arith;
        tracks = subst (λ x. EngineStateTracks x (n + g.events) g.tries base g.begun (hand_of_engine g m) s)
            (sym starts.state) (subst (λ k. EngineStateTracks (engine_first_state (engine_is_ahead e) e.ahead g.aims) k
            g.tries base g.begun (hand_of_engine g m) s)
            (sym none) (start_tracks (engine_is_ahead e) e.ahead n g.tries base m s refl refl chain h));
      }

  -- an access that starts sends at most six requests before its outcome, and those of an event for each of the tries
  pub start_left : engine_open_requests g ≤ event_requests e.bursts * e.tries + 6
  start_left = omega (
    arith,
    event_requests_fresh e.bursts g.bursts e.tries g.tries g.events starts.bursts starts.tries starts.events,
    ap engine_stray_left starts.stray,
    ap (engine_left_in g.bursts) starts.state,
    first_left g.bursts (engine_is_ahead e) e.ahead g.aims,
  )

  -- as an access starts that isn't answered at once, at most DRW's request and TAR's, if it is needed, count as sent
  pub start_least : engine_next_failed e ≡ false → engine_least_in g.aims g.state ≤ bit g.aims + 1
  start_least going = grind (arith, first_least)

  -- as an access starts, at most one access is in flight
  pub start_begun : g.begun ≤ 1
  start_begun = omega (arith, starts.begun, bit_most (is_burst e.task && not (engine_next_failed e)))

  -- with nothing sent of it before, and where TAR isn't known
  pub first_start : EngineStartsAnew e → IsEngineStart g
  first_start anew = grind arith

  -- an access starts in a state of an access, not of the opening
  pub start_access : engine_state_is_of false g.state ≡ true
  start_access = ap (engine_state_is_of false) starts.state ∙ first_access (engine_is_ahead e) e.ahead g.aims

-- WHAT IS DUE
first_due : (ahead : Bool) (further : Ahead) (aims stray : Bool) (task : Task) (due : Due)
    → due ≡ (if ahead then engine_data_due (task_is_read task) else Nothing)
    → EngineDueAt (engine_first_state ahead further aims) stray task due
first_due ahead further aims stray task due h = grind arith

due_before : (ahead : Bool) (kind : Bursts) (a : Access) (following : Option Access) (e : Engine) (due : Due)
    → engine_is_ahead e ≡ ahead → engine_may_start (engine_outcome e) ≡ true → EngineContinuesBurst e a
    → EngineDueAt e.state e.stray e.task due
    → due ≡ (if ahead then engine_data_due (task_is_read (task_for kind a following)) else Nothing)
due_before ahead kind a following e due is may on h = grind arith

-- what is due between two accesses is what the state at the start of the next one expects
pub engine_due_at_start : (a : Access) (following : Option Access) (e g : Engine) (s : Port)
    → EngineStarts a following e g
    → engine_may_start (engine_outcome e) ≡ true → EngineContinuesBurst e a → EngineDueFits e s → EngineDueFits g s
engine_due_at_start a following e g s starts may on h = grind (arith, due_before, first_due)
