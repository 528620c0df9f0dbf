-- What a run has come to, as what is known of it. For `Reporting`, `Ending` and `Stepping`.
use Rattle.std.proofs.Common.{arith, refl, sym, subst, ◌≡◌, ◌^◌, ◌<◌, ◌≤◌, ℕ, true, false, inl, inr, List, [], ◌∷◌}
use Rattle.std.proofs.Common.{◌++◌, length, length-append}
use Rattle.std.specs.Prelude.{◌⊎◌, Some}
use Rattle.std.proofs.lemmas.Option.{slice_get_within}
use Rattle.swd_port.specs.declared.access.Access.{Access}
use Rattle.swd_port.specs.declared.access.Answer.{Answer}
use Rattle.swd_port.specs.declared.call.Call.{Call}
use Rattle.swd_port.specs.declared.wire.Due.TheVariants.{Nothing}
use Rattle.swd_port.specs.Port.{Port}
use Rattle.swd_port.specs.Stories.{port_due_by}
use Rattle.swd_host.specs.declared.engine.Engine.{Engine}
use Rattle.swd_host.specs.declared.engine.State.{State}
use Rattle.swd_host.specs.declared.engine.State.TheVariants.{Leading}
use Rattle.swd_host.specs.declared.outcome.End.{End}
use Rattle.swd_host.specs.declared.outcome.Outcome.{Outcome}
use Rattle.swd_host.specs.declared.outcome.Outcome.TheVariants.{Opened, Answered, Stopped}
use Rattle.swd_host.specs.declared.task.Task.{Task}
use Rattle.swd_host.specs.Calls.{EngineTurned}
use Rattle.swd_host.specs.Engines.{IsEnginePhaseCue, engine_outcome_at, engine_outcome}
use Rattle.swd_host.specs.Progress.{engine_state_is_of}
use Rattle.swd_host.proofs.Folding.{engine_access_not_opened, start_access, engine_turn_works}
use Rattle.swd_steps.specs.declared.run.Stage.{Stage}
use Rattle.swd_steps.specs.declared.run.Stage.TheVariants.{Driving, Between, Ended}
use Rattle.swd_host.specs.Turns.{EngineIsNew}
use Rattle.swd_steps.specs.Runs.{SteppedBegins, SteppedBeginsBy}
use Rattle.swd_steps.specs.Runs.{SteppedSetup, SteppedCame, has_begun, has_turned, has_opened, has_answered}
use Rattle.swd_steps.specs.Runs.{has_started, has_idled, has_stopped}
use Rattle.swd_steps.proofs.Standing.{SteppedBetweenAccesses, SteppedAtEnd, SteppedHolds}
use Rattle.swd_steps.proofs.Keeping.{begins_holds, opening_turns, opening_rests, opening_answered, opening_stops}
use Rattle.swd_steps.proofs.Keeping.{rested_starts, hand_turns, hand_opened, hand_answered, hand_stops, rested_idles}
use Rattle.swd_steps.proofs.Keeping.{stepped_begins_part, stepped_opening_no_answer}

module _ (story : ℕ → Port) (past : List Call) (how : SteppedSetup) (list : List Access) (small : how.tries < 2 ^ 32)
    (clear : how.again ≡ false → port_due_by past ≡ Nothing) (rests : how.opened ≡ true → port_due_by past ≡ Nothing)
    (few : length list ≤ 65536) where
  turned_holds : (calls : List Call) (answers : List Answer) (call : Call) (e f : Engine) → EngineTurned call e f
      → IsEnginePhaseCue call.cue → SteppedHolds story past how list calls e Driving answers
      → SteppedHolds story past how list (call ∷ calls) f Driving answers
  turned_holds calls answers call e f turned phase (inl h) =
      inl (opening_turns story past how list small clear rests few calls call e f h.0 turned phase, h.1)
  turned_holds calls answers call e f turned phase (inr h) =
      inr (hand_turns story past how list small clear rests few calls answers call e f h turned phase)

  opened_holds : (calls : List Call) (answers : List Answer) (e : Engine) → engine_outcome e ≡ Some Opened
      → SteppedHolds story past how list calls e Driving answers
      → SteppedBetweenAccesses story past how list calls e answers
  opened_holds calls answers e finished (inl h) =
      subst (λ l. SteppedBetweenAccesses story past how list calls e l) (sym h.1)
      (opening_rests story past how list small clear rests few calls e h.0 finished)
  opened_holds calls answers e finished (inr h) =
      absurd (hand_opened story past how list small clear rests few calls answers e h finished)

  answered_holds : (calls : List Call) (answers : List Answer) (e : Engine) (answer : Answer)
      → engine_outcome e ≡ Some (Answered answer) → SteppedHolds story past how list calls e Driving answers
      → SteppedBetweenAccesses story past how list calls e (answers ++ answer ∷ [])
  answered_holds calls answers e answer finished (inl h) =
      absurd (opening_answered story past how list small clear rests few calls e answer h.0 finished)
  answered_holds calls answers e answer finished (inr h) =
      hand_answered story past how list small clear rests few calls answers e h answer finished

  stopped_holds : (calls : List Call) (answers : List Answer) (e : Engine) (end : End)
      → engine_outcome e ≡ Some (Stopped end) → SteppedHolds story past how list calls e Driving answers
      → SteppedAtEnd story past how list calls e answers end
  stopped_holds calls answers e end finished (inl h) = subst (λ l. SteppedAtEnd story past how list calls e l end) (sym
      h.1)
      (opening_stops story past how list small clear rests few calls e end h.0 finished)
  stopped_holds calls answers e end finished (inr h) =
      hand_stops story past how list small clear rests few calls answers e h end finished

  -- what is known at a stage of a run holds, by the calls and replies that led to it
  pub holds : {calls : List Call} {e : Engine} {stage : Stage} {answers : List Answer}
      → SteppedCame how list calls e stage answers → SteppedHolds story past how list calls e stage answers
  holds (has_begun e new) = inl (begins_holds story past how list small clear rests few e new, refl)
  holds (has_turned call e f came turned phase) = turned_holds _ _ call e f turned phase (holds came)
  holds (has_opened e came finished) = opened_holds _ _ e finished (holds came)
  holds (has_answered e answer came finished) = answered_holds _ _ e answer finished (holds came)
  holds (has_started a e f came at starts) =
      inr (rested_starts story past how list small clear rests few _ _ a e f (holds came) at starts)
  holds (has_idled e came all) = rested_idles story past how list small clear rests few _ _ e (holds came) all
  holds (has_stopped e end came finished) = stopped_holds _ _ e end finished (holds came)

-- HOW MANY ARE ANSWERED
abbrev FewAnswers : List Access → Stage → Engine → List Answer → Type 0
FewAnswers list Driving e answers = ((engine_state_is_of true e.state ≡ true) × (length answers ≡ 0))
    ⊎ ((engine_state_is_of false e.state ≡ true) × (length answers < length list))
FewAnswers list stage e answers = length answers ≤ length list

opened_counts : (list : List Access) (e : Engine) (answers : List Answer) → engine_outcome e ≡ Some Opened
    → FewAnswers list Driving e answers → length answers ≤ length list
opened_counts list e answers finished (inl h) = omega (arith, h.1)
opened_counts list e answers finished (inr h) = absurd (engine_access_not_opened e.state e.task h.0 finished)

answered_counts : (list : List Access) (e : Engine) (answers : List Answer) (answer : Answer)
    → engine_outcome e ≡ Some (Answered answer) → FewAnswers list Driving e answers
    → length (answers ++ answer ∷ []) ≤ length list
answered_counts list e answers answer finished (inl h) =
    absurd (stepped_opening_no_answer e.state e.task answer h.0 finished)
answered_counts list e answers answer finished (inr h) = omega (arith, h.1, length-append answers (answer ∷ []))

turned_counts : (list : List Access) (e f : Engine) (answers : List Answer) (call : Call) → EngineTurned call e f
    → FewAnswers list Driving e answers → FewAnswers list Driving f answers
turned_counts list e f answers call turned (inl h) = inl ((engine_turn_works call e f turned).part true h.0, h.1)
turned_counts list e f answers call turned (inr h) = inr ((engine_turn_works call e f turned).part false h.0, h.1)

stopped_counts : (list : List Access) (e : Engine) (answers : List Answer) → FewAnswers list Driving e answers
    → length answers ≤ length list
stopped_counts list e answers (inl h) = omega (arith, h.1)
stopped_counts list e answers (inr h) = omega (arith, h.1)

counts : {how : SteppedSetup} {list : List Access} {calls : List Call} {e : Engine} {stage : Stage} {answers : List
    Answer}
    → SteppedCame how list calls e stage answers → FewAnswers list stage e answers
counts {how} {list} (has_begun e new) = inl (stepped_begins_part how.opened how e new, refl)
counts {how} {list} (has_turned call e f came turned phase) = turned_counts list e f _ call turned (counts came)
counts {how} {list} (has_opened e came finished) = opened_counts list e _ finished (counts came)
counts {how} {list} (has_answered e answer came finished) = answered_counts list e _ answer finished (counts came)
counts {how} {list} (has_started a e f came at starts) =
    inr (start_access a _ e f starts, slice_get_within list _ a at)
counts {how} {list} (has_idled e came all) = counts came
counts {how} {list} (has_stopped e end came finished) = stopped_counts list e _ (counts came)

by_stage : (list : List Access) (stage : Stage) (e : Engine) (answers : List Answer) → FewAnswers list stage e answers
    → length answers ≤ length list
by_stage list Driving e answers h = stopped_counts list e answers h
by_stage list Between e answers h = h
by_stage list (Ended end) e answers h = h

-- no more than the list has
pub stepped_few_answers : {how : SteppedSetup} {list : List Access} {calls : List Call} {e : Engine} {stage : Stage}
    {answers : List Answer} → SteppedCame how list calls e stage answers → length answers ≤ length list
stepped_few_answers {how} {list} {calls} {e} {stage} {answers} came = by_stage list stage e answers (counts came)

-- BEFORE ANY CALL
abbrev Begins : List Call → Stage → Engine → Type 0
Begins [] stage e = (stage ≡ Driving) × (e.state ≡ Leading)
Begins calls stage e = Unit {0}

never_leads : (x : State) (task : Task) (outcome : Outcome) → x ≡ Leading → engine_outcome_at x task ≡ Some outcome → ⊥
never_leads x task outcome is h = grind arith

still_begins : (calls : List Call) (e : Engine) (outcome : Outcome) (stage : Stage) → engine_outcome e ≡ Some outcome
    → Begins calls Driving e → Begins calls stage e
still_begins [] e outcome stage finished h = absurd (never_leads e.state e.task outcome h.1 finished)
still_begins (call ∷ calls) e outcome stage finished h = tt

not_between : (calls : List Call) (e f : Engine) → Begins calls Between e → Begins calls Driving f
not_between [] e f h = absurd (cc)
not_between (call ∷ calls) e f h = tt

begins_leading : (how : SteppedSetup) (e : Engine) → how.opened ≡ false → SteppedBegins how e → e.state ≡ Leading
begins_leading how e is new = let anew : EngineIsNew how.kind how.again how.tries e =
    subst (λ b. SteppedBeginsBy b how e) is new in anew.leads

-- the line reset comes first, unless the target was open already
pub stepped_leads_first : {how : SteppedSetup} {list : List Access} {calls : List Call} {e : Engine} {stage : Stage}
    {answers : List Answer} → how.opened ≡ false → SteppedCame how list calls e stage answers → Begins calls stage e
stepped_leads_first {how} is (has_begun e new) = (refl, begins_leading how e is new)
stepped_leads_first is (has_turned call e f came turned phase) = tt
stepped_leads_first is (has_opened {calls} e came finished) =
    still_begins calls e Opened Between finished (stepped_leads_first is came)
stepped_leads_first is (has_answered {calls} e answer came finished) =
    still_begins calls e (Answered answer) Between finished (stepped_leads_first is came)
stepped_leads_first is (has_started {calls} a e f came at starts) = not_between calls e f (stepped_leads_first is came)
stepped_leads_first is (has_idled e came all) = tt
stepped_leads_first is (has_stopped {calls} e end came finished) =
    still_begins calls e (Stopped end) (Ended end) finished (stepped_leads_first is came)
