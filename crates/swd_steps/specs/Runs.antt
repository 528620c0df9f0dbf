-- The state of a run after the calls that were made for it, the last one first, with their replies.
use Rattle.std.specs.Prelude.{ℕ, ◌≡◌, ◌+◌, ◌≤◌, Bool, true, false, Option, Some, None, List, [], ◌∷◌, ◌++◌}
use Rattle.std.specs.Prelude.{length, drop, slice_get, if◌then◌else◌}
use Rattle.swd_port.specs.declared.access.Access.{Access}
use Rattle.swd_port.specs.declared.access.Answer.{Answer}
use Rattle.swd_port.specs.declared.call.Call.{Call}
use Rattle.swd_port.specs.declared.cue.Cue.{Cue}
use Rattle.swd_port.specs.declared.cue.Cue.TheVariants.{Lead}
use Rattle.swd_port.specs.Steps.{IsPortSeen}
use Rattle.swd_port.specs.CueKinds.{is_port_send}
use Rattle.swd_host.specs.declared.engine.Engine.{Engine}
use Rattle.swd_host.specs.declared.outcome.End.{End}
use Rattle.swd_host.specs.declared.outcome.End.TheVariants.{All, Lost, TriesOut}
use Rattle.swd_host.specs.declared.outcome.Outcome.TheVariants.{Opened, Answered, Stopped}
use Rattle.swd_host.specs.declared.outcome.Refused.TheVariants.{TooMany as HostTooMany, Unaligned as HostUnaligned}
use Rattle.swd_host.specs.declared.task.Bursts.{Bursts}
use Rattle.swd_host.specs.Tasks.{resumed_bursts}
use Rattle.swd_host.specs.Calls.{EngineTurned, host_idle_call}
use Rattle.swd_host.specs.Engines.{EngineHasCue, IsEnginePhaseCue, engine_cue, engine_outcome, engine_is_resting}
use Rattle.swd_host.specs.Plain.{AreHostAccesses}
use Rattle.swd_host.specs.Reports.{HostRefusesList}
use Rattle.swd_host.specs.Standing.{EngineIsOpened}
use Rattle.swd_host.specs.Turns.{EngineIsNew, EngineStarts}
use Rattle.swd_steps.specs.declared.run.Answers.{Answers}
use Rattle.swd_steps.specs.declared.run.Refusal.{Refusal}
use Rattle.swd_steps.specs.declared.run.Refusal.TheVariants.{Ended as HasEnded, Reply, TooMany, Unaligned, TooFew}
use Rattle.swd_steps.specs.declared.run.Run.{Run}
use Rattle.swd_steps.specs.declared.run.Stage.{Stage}
use Rattle.swd_steps.specs.declared.run.Stage.TheVariants.{Driving, Between, Ended}

-- How a run was made: its kind of bursts, whether its target was open already, whether it resumes, its tries, and the
-- number of accesses answered before it.
pub record SteppedSetup : Type 0 where
  pub kind : Bursts
  pub opened : Bool
  pub again : Bool
  pub tries : ℕ
  pub from : ℕ

-- a new run, one over a target that is open already, and one that resumes one of this kind after `from` answers
abbrev pub stepped_anew : Bursts → ℕ → SteppedSetup
stepped_anew kind tries = record { kind = kind; opened = false; again = false; tries = tries; from = 0 }

abbrev pub stepped_opened : Bursts → ℕ → SteppedSetup
stepped_opened kind tries = record { kind = kind; opened = true; again = false; tries = tries; from = 0 }

abbrev pub stepped_again : Bursts → ℕ → ℕ → SteppedSetup
stepped_again kind from tries =
    record { kind = resumed_bursts kind; opened = false; again = true; tries = tries; from = from }

-- the engine of a run that was just made
abbrev pub SteppedBeginsBy : Bool → SteppedSetup → Engine → Type 0
SteppedBeginsBy false how e = EngineIsNew how.kind how.again how.tries e
SteppedBeginsBy true how e = EngineIsOpened how.kind how.tries e

abbrev pub SteppedBegins : SteppedSetup → Engine → Type 0
SteppedBegins how e = SteppedBeginsBy how.opened how e

-- The engine, the stage and the answers after these calls for a list. An access starts, with the one that follows it,
-- when the one before it is answered. When all are answered, eight idle cycles follow.
pub data SteppedCame (how : SteppedSetup) (list : List Access) : List Call → Engine → Stage → List Answer → Type 0 where
  has_begun : (e : Engine) → SteppedBegins how e → SteppedCame how list [] e Driving []
  has_turned : {calls : List Call} {answers : List Answer} (call : Call) (e f : Engine)
      → SteppedCame how list calls e Driving answers → EngineTurned call e f → IsEnginePhaseCue call.cue
      → SteppedCame how list (call ∷ calls) f Driving answers
  has_opened : {calls : List Call} {answers : List Answer} (e : Engine) → SteppedCame how list calls e Driving answers
      → engine_outcome e ≡ Some Opened → SteppedCame how list calls e Between answers
  has_answered : {calls : List Call} {answers : List Answer} (e : Engine) (answer : Answer)
      → SteppedCame how list calls e Driving answers → engine_outcome e ≡ Some (Answered answer)
      → SteppedCame how list calls e Between (answers ++ answer ∷ [])
  has_started : {calls : List Call} {answers : List Answer} (a : Access) (e f : Engine)
      → SteppedCame how list calls e Between answers → slice_get list (length answers) ≡ Some a
      → EngineStarts a (slice_get list (length answers + 1)) e f → SteppedCame how list calls f Driving answers
  has_idled : {calls : List Call} {answers : List Answer} (e : Engine) → SteppedCame how list calls e Between answers
      → length answers ≡ length list → SteppedCame how list (host_idle_call ∷ calls) e (Ended All) answers
  has_stopped : {calls : List Call} {answers : List Answer} (e : Engine) (end : End)
      → SteppedCame how list calls e Driving answers → engine_outcome e ≡ Some (Stopped end)
      → SteppedCame how list calls e (Ended end) answers

-- a list for which calls were made is valid, and has the accesses answered before the run; where the target was open
-- already, the list was checked before the first call
abbrev pub SteppedListAccepted : Bool → ℕ → List Access → List Call → Type 0
SteppedListAccepted false from accesses [] = Unit {0}
SteppedListAccepted opened from accesses calls =
    (length accesses ≤ 65536) × AreHostAccesses accesses × (from ≤ length accesses)

-- if no access is in progress, all are answered
abbrev pub SteppedIsLast : SteppedSetup → List Access → Run → List Answer → Type 0
SteppedIsLast how accesses run answers = run.stage ≡ Between → length answers ≡ length (drop how.from accesses)

-- A run that was made as `how` says has reached this state over a list, after these calls and with these answers.
-- Within a call it isn't known yet whether it has a cue.
pub record SteppedHasCome (how : SteppedSetup) (accesses : List Access) (calls : List Call) (run : Run)
    (answers : List Answer) : Type 0 where
  pub came : SteppedCame how (drop how.from accesses) calls run.engine run.stage answers
  pub number : run.answered ≡ how.from + length answers
  pub last : SteppedIsLast how accesses run answers

-- The same between two calls: the list is valid, and until the run ends, it has a cue.
pub record SteppedRan (how : SteppedSetup) (accesses : List Access) (calls : List Call) (run : Run)
    (answers : List Answer) : Type 0 where
  pub come : SteppedHasCome how accesses calls run answers
  pub accepted : SteppedListAccepted how.opened how.from accesses calls
  pub drives : run.stage ≡ Driving → engine_is_resting run.engine ≡ false

-- WHAT A RUN SHOWS
abbrev pub stepped_cue_at : Stage → Engine → Option Cue
stepped_cue_at Driving e = engine_cue e
stepped_cue_at Between e = Some (Lead 0 0 false 8)
stepped_cue_at (Ended end) e = None

-- what to send next
abbrev pub stepped_run_cue : Run → Option Cue
stepped_run_cue run = stepped_cue_at run.stage run.engine

abbrev pub stepped_end_at : Stage → Option End
stepped_end_at (Ended end) = Some end
stepped_end_at stage = None

-- the end of a run, if it has ended
abbrev pub stepped_run_end : Run → Option End
stepped_run_end run = stepped_end_at run.stage

-- A FURTHER CALL
abbrev pub stepped_answer_list : Option Answer → List Answer
stepped_answer_list (Some answer) = answer ∷ []
stepped_answer_list None = []

-- the answers of one call
abbrev pub stepped_answers : Answers → List Answer
stepped_answers came = stepped_answer_list came.first ++ stepped_answer_list came.second

-- what was seen at a cue: the reply to a request or to a read's data phase, else 0
abbrev pub stepped_seen : Cue → ℕ → ℕ
stepped_seen cue reply = if is_port_send cue then 0 else reply

abbrev pub stepped_call : Cue → ℕ → Call
stepped_call cue reply = record { cue = cue; seen = stepped_seen cue reply }

-- whatever calls and answers led to `before`: with this call, and `more` answers, they lead to `stepped_again`
abbrev pub SteppedExtends : Cue → ℕ → List Access → Run → List Answer → Run → Type 0
SteppedExtends cue reply accesses before more after =
    (how : SteppedSetup) (calls : List Call) (answers : List Answer) → SteppedRan how accesses calls before answers
    → SteppedRan how accesses (stepped_call cue reply ∷ calls) after (answers ++ more)

-- the same without a call: an outcome of the engine was taken, with this answer
abbrev pub SteppedLeaves : List Access → Run → List Answer → Run → Type 0
SteppedLeaves accesses before more after =
    (how : SteppedSetup) (calls : List Call) (answers : List Answer) → SteppedHasCome how accesses calls before answers
    → SteppedHasCome how accesses calls after (answers ++ more)

-- the same with a call
abbrev pub SteppedMakesCall : Cue → ℕ → List Access → Run → List Answer → Run → Type 0
SteppedMakesCall cue seen accesses before more after =
    (how : SteppedSetup) (calls : List Call) (answers : List Answer) → SteppedHasCome how accesses calls before answers
    → SteppedHasCome how accesses (record { cue = cue; seen = seen } ∷ calls) after (answers ++ more)

-- the line reset comes next
abbrev pub stepped_cue_is_lead : Option Cue → Bool
stepped_cue_is_lead (Some (Lead ones undriven switch zeros)) = true
stepped_cue_is_lead cue = false

-- a list for which the run may take a further call
pub record SteppedListFits (accesses : List Access) (run : Run) : Type 0 where
  pub few : length accesses ≤ 65536
  pub answered : run.answered ≤ length accesses
  pub are : stepped_cue_is_lead (engine_cue run.engine) ≡ true → AreHostAccesses accesses

-- why a call is refused
abbrev pub SteppedRefusalReason : Run → List Access → ℕ → Refusal → Type 0
SteppedRefusalReason run accesses reply HasEnded = stepped_run_cue run ≡ None
SteppedRefusalReason run accesses reply Reply =
    EngineHasCue (λ cue. IsPortSeen cue (stepped_seen cue reply) → ⊥) (stepped_run_cue run)
SteppedRefusalReason run accesses reply TooMany = HostRefusesList accesses HostTooMany
SteppedRefusalReason run accesses reply (Unaligned index) = HostRefusesList accesses (HostUnaligned index)
SteppedRefusalReason run accesses reply TooFew =
    (how : SteppedSetup) (calls : List Call) (answers : List Answer) → SteppedRan how accesses calls run answers
    → how.from ≤ length accesses → ⊥

-- a run that ended so may be resumed
abbrev pub stepped_may_resume : Stage → Bool
stepped_may_resume (Ended Lost) = true
stepped_may_resume (Ended TriesOut) = true
stepped_may_resume stage = false
