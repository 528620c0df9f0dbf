-- How many calls are made for a run at most. For the law `stepped_run_ends`.
use Rattle.std.proofs.Common.{ap, arith, sym, subst, ◌∙◌, ◌≡◌, ◌+◌, ◌*◌, ◌<◌, ◌≤◌, ℕ, Bool, true, false, inl, inr, List}
use Rattle.std.proofs.Common.{[], ◌∷◌, ◌++◌, length, length-append}
use Rattle.std.specs.Prelude.{◌⊎◌, Some, slice_get, drop}
use Rattle.std.proofs.lemmas.Option.{slice_get_within}
use Rattle.std.proofs.Math.Nat.{mul-le-mul_right}
use Rattle.swd_port.specs.declared.access.Access.{Access}
use Rattle.swd_port.specs.declared.access.Answer.{Answer}
use Rattle.swd_port.specs.declared.call.Call.{Call}
use Rattle.swd_host.specs.declared.engine.Engine.{Engine}
use Rattle.swd_host.specs.declared.outcome.Outcome.TheVariants.{Opened, Answered}
use Rattle.swd_host.specs.declared.task.Bursts.{Bursts}
use Rattle.swd_host.specs.Calls.{EngineTurned, host_idle_call}
use Rattle.swd_host.specs.Engines.{engine_outcome}
use Rattle.swd_host.specs.Progress.{engine_calls_left, engine_state_is_of, engine_stray_left}
use Rattle.swd_host.specs.Standing.{EngineIsOpened}
use Rattle.swd_host.specs.Bursts.{event_requests}
use Rattle.swd_host.specs.Turns.{EngineIsNew, EngineStarts}
use Rattle.swd_host.proofs.Folding.{engine_moves_few, engine_access_not_opened, start_access, start_left}
use Rattle.swd_host.proofs.Folding.{engine_turn_falls, engine_turn_works}
use Rattle.swd_steps.specs.declared.run.Stage.{Stage}
use Rattle.swd_steps.specs.declared.run.Stage.TheVariants.{Driving, Between, Ended}
use Rattle.swd_steps.specs.Laws.{SteppedRunEnds, stepped_most_calls}
use Rattle.swd_steps.specs.Runs.{SteppedBeginsBy, SteppedSetup, SteppedCame, has_begun, has_turned, has_opened}
use Rattle.swd_steps.specs.Runs.{has_answered}
use Rattle.swd_steps.specs.Runs.{has_started, has_idled, has_stopped}
use Rattle.swd_steps.proofs.Keeping.{stepped_begins_part, stepped_opening_no_answer}
use Rattle.swd_steps.proofs.Running.{stepped_few_answers}

-- ALONG A RUN
abbrev for_opening : SteppedSetup → ℕ
for_opening how = 2 * (10 + event_requests how.kind * how.tries + engine_stray_left how.again) + 1

abbrev for_access : SteppedSetup → ℕ
for_access how = 2 * (6 + event_requests how.kind * how.tries) + 1

-- the events that it may meet take as many requests as those of the run
abbrev HasEventsOf : SteppedSetup → Engine → Type 0
HasEventsOf how e = event_requests e.bursts * e.tries ≡ event_requests how.kind * how.tries

same_events : (how : SteppedSetup) (e f : Engine) → f.bursts ≡ e.bursts → f.tries ≡ e.tries → HasEventsOf how e
    → HasEventsOf how f
same_events how e f kind tries same =
    ap (λ b. event_requests b * f.tries) kind ∙ (ap (λ n. event_requests e.bursts * n) tries ∙ same)

-- the calls so far, and those that are left of the opening or the access
abbrev Spends : SteppedSetup → List Access → List Call → Engine → Stage → List Answer → Type 0
Spends how list calls e Driving answers = HasEventsOf how e
    × (((engine_state_is_of true e.state ≡ true) × (length calls + engine_calls_left e ≤ for_opening how))
    ⊎ ((engine_state_is_of false e.state ≡ true) × (length answers < length list)
    × (length calls + engine_calls_left e ≤ for_opening how + (length answers + 1) * for_access how)))
Spends how list calls e Between answers = HasEventsOf how e × (length answers ≤ length list)
    × (length calls ≤ for_opening how + length answers * for_access how)
Spends how list calls e (Ended end) answers = length calls ≤ for_opening how + length list * for_access how + 1

new_calls : (kind : Bursts) (again : Bool) (tries : ℕ) (e : Engine) → EngineIsNew kind again tries e
    → engine_calls_left e ≤ 2 * (10 + event_requests kind * tries + engine_stray_left again) + 1
new_calls kind again tries e new = grind arith

begins_events : (opened : Bool) (how : SteppedSetup) (e : Engine) → SteppedBeginsBy opened how e → HasEventsOf how e
begins_events false how e new =
    ap (λ b. event_requests b * e.tries) new.bursts ∙ ap (λ n. event_requests how.kind * n) new.tries
begins_events true how e new =
    ap (λ b. event_requests b * e.tries) new.bursts ∙ ap (λ n. event_requests how.kind * n) new.tries

opened_calls : (kind : Bursts) (again : Bool) (tries : ℕ) (e : Engine) → EngineIsOpened kind tries e
    → engine_calls_left e ≤ 2 * (10 + event_requests kind * tries + engine_stray_left again) + 1
opened_calls kind again tries e new = grind arith

begins_calls : (opened : Bool) (how : SteppedSetup) (e : Engine) → SteppedBeginsBy opened how e
    → engine_calls_left e ≤ for_opening how
begins_calls false how e new = new_calls how.kind how.again how.tries e new
begins_calls true how e new = opened_calls how.kind how.again how.tries e new

module _ (how : SteppedSetup) (list : List Access) where
  turned_events : (call : Call) (e f : Engine) → EngineTurned call e f → HasEventsOf how e → HasEventsOf how f
  turned_events call e f turned same =
      let works = engine_turn_works call e f turned in same_events how e f works.bursts works.tries same

  turned_made : (calls : List Call) (answers : List Answer) (call : Call) (e f : Engine) → EngineTurned call e f
      → Spends how list calls e Driving answers → Spends how list (call ∷ calls) f Driving answers
  turned_made calls answers call e f turned (same, inl h) = (
    turned_events call e f turned same,
    inl ((engine_turn_works call e f turned).part true h.0, omega (arith, h.1, engine_turn_falls call e f turned)),
  )
  turned_made calls answers call e f turned (same, inr h) = (
    turned_events call e f turned same,
    inr (
      (engine_turn_works call e f turned).part false h.0,
      h.1,
      omega (arith, h.2, engine_turn_falls call e f turned),
    ),
  )

  opened_made : (calls : List Call) (answers : List Answer) (e : Engine) → engine_outcome e ≡ Some Opened
      → length answers ≤ length list → Spends how list calls e Driving answers → Spends how list calls e Between
      answers
  opened_made calls answers e finished few (same, inl h) = (same, few, omega (arith, h.1))
  opened_made calls answers e finished few (same, inr h) = absurd (engine_access_not_opened e.state e.task h.0 finished)

  answered_made : (calls : List Call) (answers : List Answer) (e : Engine) (answer : Answer)
      → engine_outcome e ≡ Some (Answered answer) → Spends how list calls e Driving answers
      → Spends how list calls e Between (answers ++ answer ∷ [])
  answered_made calls answers e answer finished (same, inl h) =
      absurd (stepped_opening_no_answer e.state e.task answer h.0 finished)
  answered_made calls answers e answer finished (same, inr h) =
      let long : length answers + 1 ≡ length (answers ++ answer ∷ []) = sym (length-append answers (answer ∷ [])) in (
        same,
        omega (arith, h.1, long),
        subst (λ k. length calls ≤ for_opening how + k * for_access how) long (omega (arith, h.2)),
      )

  started_made : (calls : List Call) (answers : List Answer) (a : Access) (e f : Engine)
      → slice_get list (length answers) ≡ Some a → EngineStarts a (slice_get list (length answers + 1)) e f
      → Spends how list calls e Between answers → Spends how list calls f Driving answers
  started_made calls answers a e f at starts (same, few, h) = (
    same_events how e f starts.bursts starts.tries same,
    inr (
      start_access a (slice_get list (length answers + 1)) e f starts,
      slice_get_within list (length answers) a at,
      omega (
        arith,
        h,
        subst (λ n. engine_calls_left f ≤ 2 * (6 + n) + 1) same (omega (
          arith,
          start_left a (slice_get list (length answers + 1)) e f starts,
          engine_moves_few f.state,
        )),
      ),
    ),
  )

  idled_made : (calls : List Call) (answers : List Answer) (e : Engine) (call : Call) → length answers ≡ length list
      → Spends how list calls e Between answers
      → length (call ∷ calls) ≤ for_opening how + length list * for_access how + 1
  idled_made calls answers e call all (same, few, h) =
      subst (λ k. length (call ∷ calls) ≤ for_opening how + k * for_access how + 1) all (omega (arith, h))

  stopped_made : (calls : List Call) (answers : List Answer) (e : Engine) → Spends how list calls e Driving answers
      → length calls ≤ for_opening how + length list * for_access how + 1
  stopped_made calls answers e (same, inl h) = omega (arith, h.1)
  stopped_made calls answers e (same, inr h) =
      omega (
        arith,
        h.2,
        mul-le-mul_right {m = length answers + 1} {n = length list} (for_access how) (omega (arith, h.1)),
      )

  rested_made : (calls : List Call) (answers : List Answer) (e : Engine) → Spends how list calls e Between answers
      → length calls ≤ for_opening how + length list * for_access how + 1
  rested_made calls answers e (same, few, h) =
      omega (arith, h, mul-le-mul_right {m = length answers} {n = length list} (for_access how) few)

  made : {calls : List Call} {e : Engine} {stage : Stage} {answers : List Answer}
      → SteppedCame how list calls e stage answers → Spends how list calls e stage answers
  made (has_begun e new) = (
    begins_events how.opened how e new,
    inl (
      stepped_begins_part how.opened how e new,
      omega (arith, begins_calls how.opened how e new),
    ),
  )
  made (has_turned call e f came turned phase) = turned_made _ _ call e f turned (made came)
  made (has_opened e came finished) = opened_made _ _ e finished (stepped_few_answers came) (made came)
  made (has_answered e answer came finished) = answered_made _ _ e answer finished (made came)
  made (has_started a e f came at starts) = started_made _ _ a e f at starts (made came)
  made (has_idled e came all) = idled_made _ _ e host_idle_call all (made came)
  made (has_stopped e end came finished) = stopped_made _ _ e (made came)

  any_made : (calls : List Call) (answers : List Answer) (e : Engine) (stage : Stage) → Spends how list calls e stage
      answers
      → length calls ≤ stepped_most_calls how.again how.kind how.tries (length list)
  any_made calls answers e Driving h = stopped_made calls answers e h
  any_made calls answers e Between h = rested_made calls answers e h
  any_made calls answers e (Ended end) h = h

-- a run makes at most the calls that its opening and its accesses may take, and one more, whatever comes back
pub stepped_run_ends : SteppedRunEnds
stepped_run_ends how accesses calls run answers ran =
    any_made how (drop how.from accesses) calls answers run.engine run.stage
    (made how (drop how.from accesses) ran.come.came)
