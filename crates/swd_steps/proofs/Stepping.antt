-- What each function of a run leaves, as a step of what it has come to.
use Rattle.std.proofs.Common.{arith, refl, sym, ap, subst, ◌∙◌, ◌≡◌, ◌+◌, ◌<◌, ◌≤◌, ℕ, Bool, true, false, List, [], ◌∷◌}
use Rattle.std.proofs.Common.{◌++◌, inl, inr, length, length-append, length-drop}
use Rattle.std.specs.Prelude.{Option, Some, None, IfSome, drop, slice_get}
use Rattle.std.proofs.lemmas.List.{append_assoc, append-nil}
use Rattle.std.proofs.lemmas.Bool.{cases_Bool}
use Rattle.swd_port.specs.declared.access.Access.{Access}
use Rattle.swd_port.specs.declared.access.Answer.{Answer}
use Rattle.swd_port.specs.declared.call.Call.{Call}
use Rattle.swd_port.specs.declared.cue.Cue.{Cue}
use Rattle.swd_port.specs.declared.cue.Cue.TheVariants.{Lead}
use Rattle.swd_port.specs.Steps.{IsPortSeen}
use Rattle.swd_host.specs.declared.engine.Ahead.{Ahead}
use Rattle.swd_host.specs.declared.engine.Ahead.TheVariants.{Unsent}
use Rattle.swd_host.specs.declared.engine.Engine.{Engine}
use Rattle.swd_host.specs.declared.engine.State.TheVariants.{Leading}
use Rattle.swd_host.specs.declared.outcome.End.{End}
use Rattle.swd_host.specs.declared.outcome.End.TheVariants.{All}
use Rattle.swd_host.specs.declared.outcome.Outcome.TheVariants.{Opened, Answered, Stopped}
use Rattle.swd_host.specs.declared.task.Task.{Task}
use Rattle.swd_host.specs.Engines.{EngineHasCue, IsEnginePhaseCue, engine_cue, engine_outcome, engine_is_ahead}
use Rattle.swd_host.specs.Engines.{engine_is_ahead_in, engine_is_resting, engine_outcome_at}
use Rattle.swd_host.specs.Plain.{AreHostAccesses}
use Rattle.swd_host.specs.Replies.{EngineTookReply}
use Rattle.swd_host.specs.Standing.{EngineHasOpened, EngineIsOpened}
use Rattle.swd_host.specs.declared.task.Bursts.{Bursts}
use Rattle.swd_host.specs.Turns.{EngineIsNew, EngineStarts, engine_first_state}
use Rattle.swd_steps.specs.declared.run.Run.{Run}
use Rattle.swd_steps.specs.declared.run.Stage.{Stage}
use Rattle.swd_steps.specs.declared.run.Stage.TheVariants.{Driving, Between, Ended}
use Rattle.swd_steps.specs.Runs.{SteppedBeginsBy, SteppedListAccepted}
use Rattle.swd_steps.specs.Runs.{SteppedSetup, SteppedCame, SteppedLeaves, SteppedExtends, SteppedHasCome}
use Rattle.swd_steps.specs.Runs.{SteppedListFits, SteppedRan, SteppedMakesCall, stepped_cue_at, has_answered, has_begun}
use Rattle.swd_steps.specs.Runs.{has_idled, has_opened, has_started, has_stopped, has_turned, stepped_cue_is_lead}
use Rattle.swd_steps.specs.Runs.{stepped_answer_list, stepped_opened, stepped_run_cue, stepped_seen}
use Rattle.swd_steps.proofs.Lists.{stepped_get_in_rest, stepped_none_past_end}
use Rattle.swd_steps.proofs.Running.{stepped_leads_first, stepped_few_answers}

-- A NEW RUN
new_moves : (e : Engine) → e.state ≡ Leading → engine_is_resting e ≡ false
new_moves e leads = grind arith

-- a run that was just made is in its state before any call, with a cue and no answer
pub stepped_new_ran : (how : SteppedSetup) (list : List Access) (run : Run) (e : Engine)
    → how.opened ≡ false → EngineIsNew how.kind how.again how.tries e
    → run.engine ≡ e → run.stage ≡ Driving → run.answered ≡ how.from → SteppedRan how list [] run []
stepped_new_ran how list run e closed new engine stage answered = record {
  come = record {
    came = subst (λ x. SteppedCame how (drop how.from list) [] run.engine x []) (sym stage)
        (subst (λ x. SteppedCame how (drop how.from list) [] x Driving []) (sym engine)
        (has_begun e (subst (λ b. SteppedBeginsBy b how e) (sym closed) new)));
    number = omega (arith, answered);
    last = λ at. absurd (let both : Driving ≡ Between = sym stage ∙ at in cc);
  };
  accepted = subst (λ b. SteppedListAccepted b how.from list []) (sym closed) tt;
  drives = λ at. ap engine_is_resting engine ∙ new_moves e new.leads;
}

-- WHERE THE ENGINE HAS COME TO AN OUTCOME
by_option : (o : Option Access) (P : Type 0) → ((a : Access) → o ≡ Some a → P) → (o ≡ None → P) → P
by_option (Some a) P some none = some a refl
by_option None P some none = none refl

module _ (accesses : List Access) (before after : Run)
    (starts : (a : Access) → slice_get accesses before.answered ≡ Some a
    → EngineStarts a (slice_get accesses (before.answered + 1)) before.engine after.engine)
    (none : slice_get accesses before.answered ≡ None → (after.engine ≡ before.engine) × (after.stage ≡ Between)) where
  -- an access is begun, or none is left
  pub begun_comes : ((a : Access) → slice_get accesses before.answered ≡ Some a → after.stage ≡ Driving)
      → after.answered ≡ before.answered → (how : SteppedSetup) (calls : List Call) (answers : List Answer)
      → SteppedCame how (drop how.from accesses) calls before.engine Between answers
      → before.answered ≡ how.from + length answers → SteppedHasCome how accesses calls after answers
  begun_comes drives same how calls answers came number =
      by_option (slice_get accesses before.answered) (SteppedHasCome how accesses calls after answers)
      (λ a at.
      let driving = drives a at in
      let here : slice_get (drop how.from accesses) (length answers) ≡ Some a =
      stepped_get_in_rest how.from accesses (length answers) ∙ (ap (λ n. slice_get accesses n) (sym number) ∙ at) in
      let place : before.answered + 1 ≡ how.from + (length answers + 1) = omega (arith, number) in
      let next : slice_get accesses (before.answered + 1) ≡ slice_get (drop how.from accesses) (length answers + 1) =
      ap (λ n. slice_get accesses n) place ∙ sym (stepped_get_in_rest how.from accesses (length answers + 1)) in
      record {
        came = subst (λ x. SteppedCame how (drop how.from accesses) calls after.engine x answers) (sym driving)
            (has_started a before.engine after.engine came here
            (subst (λ f. EngineStarts a f before.engine after.engine) next (starts a at)));
        number = same ∙ number;
        last = λ at. absurd (let both : Driving ≡ Between = sym driving ∙ at in cc);
      })
      (λ at.
      let left = none at in
      let past : length (drop how.from accesses) ≤ length answers =
      stepped_none_past_end (drop how.from accesses) (length answers)
      (stepped_get_in_rest how.from accesses (length answers) ∙ (ap (λ n. slice_get accesses n) (sym number) ∙ at)) in
      record {
        came = subst (λ x. SteppedCame how (drop how.from accesses) calls after.engine x answers) (sym left.1)
            (subst (λ x. SteppedCame how (drop how.from accesses) calls x Between answers) (sym left.0) came);
        number = same ∙ number;
        last = λ at. omega (arith, past, stepped_few_answers came);
      })

  start_calm : (given : Bool) (ahead : Ahead) (aims : Bool) (task : Task)
      → engine_is_ahead_in (engine_first_state given ahead aims) task ≡ false
  start_calm given ahead aims task = grind arith

  -- no request of the access after it was sent
  pub begun_calm : after.stage ≡ Driving → (after.engine.ahead ≡ Unsent) × (engine_is_ahead after.engine ≡ false)
  begun_calm driving = by_option (slice_get accesses before.answered)
      ((after.engine.ahead ≡ Unsent) × (engine_is_ahead after.engine ≡ false))
      (λ a at.
      let started = starts a at in (
        started.ahead,
        ap (λ x. engine_is_ahead_in x after.engine.task) started.state
            ∙ start_calm (engine_is_ahead before.engine) before.engine.ahead after.engine.aims after.engine.task,
      ))
      (λ at. absurd (let both : Driving ≡ Between = sym driving ∙ (none at).1 in cc))

  start_drives : (a : Access) (following : Option Access) (e g : Engine) → EngineStarts a following e g
      → e.ahead ≡ Unsent → engine_is_ahead e ≡ false → engine_is_resting g ≡ false
  start_drives a following e g started unsent calm = grind arith

  -- and so it has something to send
  pub begun_drives : before.engine.ahead ≡ Unsent → engine_is_ahead before.engine ≡ false → after.stage ≡ Driving
      → engine_is_resting after.engine ≡ false
  begun_drives unsent calm driving = by_option (slice_get accesses before.answered)
      (engine_is_resting after.engine ≡ false)
      (λ a at. start_drives a (slice_get accesses (before.answered + 1)) before.engine after.engine (starts a at) unsent
      calm)
      (λ at. absurd (let both : Driving ≡ Between = sym driving ∙ (none at).1 in cc))

-- A RUN OVER AN OPEN TARGET, once its first access has started
open_outcome : (e : Engine) → EngineHasOpened e → engine_outcome e ≡ Some Opened
open_outcome e has = ap (λ x. engine_outcome_at x e.task) has.at

open_calm : (e : Engine) → EngineHasOpened e → engine_is_ahead e ≡ false
open_calm e has = ap (λ x. engine_is_ahead_in x e.task) has.at

-- a run over an open target, before its first call
pub stepped_open_ran : (kind : Bursts) (tries : ℕ) (accesses : List Access) (e : Engine) (before after : Run)
    → EngineIsOpened kind tries e → before.engine ≡ e → before.answered ≡ 0
    → (length accesses ≤ 65536) × AreHostAccesses accesses
    → ((a : Access) → slice_get accesses before.answered ≡ Some a
    → EngineStarts a (slice_get accesses (before.answered + 1)) before.engine after.engine)
    → ((a : Access) → slice_get accesses before.answered ≡ Some a → after.stage ≡ Driving)
    → (slice_get accesses before.answered ≡ None → (after.engine ≡ before.engine) × (after.stage ≡ Between))
    → after.answered ≡ before.answered → SteppedRan (stepped_opened kind tries) accesses [] after []
stepped_open_ran kind tries accesses e before after opened engine answered accepted starts drives none same =
    let how : SteppedSetup = stepped_opened kind tries in
    let first : EngineIsOpened kind tries before.engine = subst (EngineIsOpened kind tries) (sym engine) opened in
    let came : SteppedCame how (drop 0 accesses) [] before.engine Between [] =
    has_opened before.engine (has_begun before.engine first) (open_outcome before.engine first.has) in
    record {
      come = begun_comes accesses before after starts none drives same how [] [] came (omega (arith, answered));
      accepted = (accepted.0, accepted.1, omega arith);
      drives = begun_drives accesses before after starts none first.ahead (open_calm before.engine first.has);
    }

driven : (how : SteppedSetup) (accesses : List Access) (calls : List Call) (run : Run) (answers : List Answer)
    → run.stage ≡ Driving → SteppedHasCome how accesses calls run answers
    → SteppedCame how (drop how.from accesses) calls run.engine Driving answers
driven how accesses calls run answers at h =
    subst (λ x. SteppedCame how (drop how.from accesses) calls run.engine x answers) at h.came

-- where the engine stopped, the run has ended, and no answer is added
pub stepped_stop_leaves : (accesses : List Access) (run : Run) (end : End) → run.stage ≡ Driving
    → engine_outcome run.engine ≡ Some (Stopped end)
    → SteppedLeaves accesses run [] (record run { stage = Ended end })
stepped_stop_leaves accesses run end at finished how calls answers h =
    subst (λ l. SteppedHasCome how accesses calls (record run { stage = Ended end }) l)
    (sym (append-nil answers))
    (record {
      came = has_stopped run.engine end (driven how accesses calls run answers at h) finished;
      number = h.number;
      last = λ is. absurd (cc);
    })

-- where the opening succeeded, the next access starts, unless the list has no further one, and no answer is added
pub stepped_opened_leaves : (accesses : List Access) (run after : Run) → run.stage ≡ Driving
    → engine_outcome run.engine ≡ Some Opened
    → ((a : Access) → slice_get accesses run.answered ≡ Some a
    → EngineStarts a (slice_get accesses (run.answered + 1)) run.engine after.engine)
    → ((a : Access) → slice_get accesses run.answered ≡ Some a → after.stage ≡ Driving)
    → (slice_get accesses run.answered ≡ None → (after.engine ≡ run.engine) × (after.stage ≡ Between))
    → after.answered ≡ run.answered → SteppedLeaves accesses run [] after
stepped_opened_leaves accesses run after at finished starts drives none same how calls answers h =
    subst (λ l. SteppedHasCome how accesses calls after l) (sym (append-nil answers))
    (begun_comes accesses run after starts none drives same how calls answers
    (has_opened run.engine (driven how accesses calls run answers at h) finished) h.number)

-- where the access is answered, the next one starts, unless the list has no further one, and that answer is added
pub stepped_answer_leaves : (accesses : List Access) (run more after : Run) (answer : Answer) → run.stage ≡ Driving
    → engine_outcome run.engine ≡ Some (Answered answer) → more.engine ≡ run.engine → more.answered ≡ run.answered + 1
    → ((a : Access) → slice_get accesses more.answered ≡ Some a
    → EngineStarts a (slice_get accesses (more.answered + 1)) more.engine after.engine)
    → ((a : Access) → slice_get accesses more.answered ≡ Some a → after.stage ≡ Driving)
    → (slice_get accesses more.answered ≡ None → (after.engine ≡ more.engine) × (after.stage ≡ Between))
    → after.answered ≡ more.answered → SteppedLeaves accesses run (answer ∷ []) after
stepped_answer_leaves accesses run more after answer at finished engine one starts drives none same how calls answers h
    =
    begun_comes accesses more after starts none drives same how calls (answers ++ answer ∷ [])
    (subst (λ x. SteppedCame how (drop how.from accesses) calls x Between (answers ++ answer ∷ [])) (sym engine)
    (has_answered run.engine answer (driven how accesses calls run answers at h) finished))
    (omega (arith, one, h.number, length-append answers (answer ∷ [])))

-- A CALL
-- the eight idle cycles
pub stepped_idle_makes_call : (accesses : List Access) (run : Run) (seen : ℕ) → run.stage ≡ Between
    → EngineHasCue (λ cue. IsPortSeen cue seen × IsEnginePhaseCue cue) (stepped_run_cue run)
    → EngineHasCue (λ cue. SteppedMakesCall cue seen accesses run [] (record run { stage = Ended All }))
    (stepped_run_cue run)
stepped_idle_makes_call accesses run seen at asked =
    let cue : stepped_run_cue run ≡ Some (Lead 0 0 false 8) = ap (λ x. stepped_cue_at x run.engine) at in
    let none : seen ≡ 0 = (subst (EngineHasCue (λ cue. IsPortSeen cue seen × IsEnginePhaseCue cue)) cue asked).0 in
    subst (EngineHasCue (λ cue. SteppedMakesCall cue seen accesses run [] (record run { stage = Ended All }))) (sym cue)
    (λ how calls answers h.
    subst (λ n. SteppedHasCome how accesses (record { cue = Lead 0 0 false 8; seen = n } ∷ calls)
    (record run { stage = Ended All }) (answers ++ [])) (sym none)
    (subst (λ l. SteppedHasCome how accesses (record { cue = Lead 0 0 false 8; seen = 0 } ∷ calls)
    (record run { stage = Ended All }) l) (sym (append-nil answers))
    (record {
      came = has_idled run.engine
          (subst (λ x. SteppedCame how (drop how.from accesses) calls run.engine x answers) at h.came) (h.last at);
      number = h.number;
      last = λ is. absurd (cc);
    })))

module _ (accesses : List Access) (before mid one two : Run) (seen : ℕ) (first second : Option Answer)
    (came : List Answer) (stage : mid.stage ≡ before.stage) (answered : mid.answered ≡ before.answered)
    (follows : SteppedLeaves accesses mid (stepped_answer_list first) one)
    (goes_on : SteppedLeaves accesses one (stepped_answer_list second) two)
    (is : came ≡ stepped_answer_list first ++ stepped_answer_list second) where
  driving_turns : (o : Option Cue) → engine_cue before.engine ≡ o → before.stage ≡ Driving
      → EngineHasCue (λ cue. IsPortSeen cue seen × IsEnginePhaseCue cue) o
      → IfSome o (λ cue. EngineTookReply cue seen before.engine mid.engine)
      → EngineHasCue (λ cue. SteppedMakesCall cue seen accesses before came two) o
  driving_turns (Some cue) asks at asked replied = λ how calls answers h.
      let turned : SteppedHasCome how accesses (record { cue = cue; seen = seen } ∷ calls) mid answers = record {
        came = subst (λ x. SteppedCame how (drop how.from accesses) (record { cue = cue; seen = seen } ∷ calls)
            mid.engine x answers) (sym (stage ∙ at))
            (has_turned (record { cue = cue; seen = seen }) before.engine mid.engine
            (driven how accesses calls before answers at h)
            (record { cue = asks; seen = asked.0; replied = replied }) asked.1);
        number = answered ∙ h.number;
        last = λ is. absurd (let both : Driving ≡ Between = sym (stage ∙ at) ∙ is in cc);
      } in
      subst (λ l. SteppedHasCome how accesses (record { cue = cue; seen = seen } ∷ calls) two l)
      (append_assoc answers (stepped_answer_list first) (stepped_answer_list second) ∙ ap (λ l. answers ++ l) (sym is))
      (goes_on how (record { cue = cue; seen = seen } ∷ calls) (answers ++ stepped_answer_list first)
      (follows how (record { cue = cue; seen = seen } ∷ calls) answers turned))
  driving_turns None asks at asked replied = absurd asked

  at_stage : (x : Stage) → before.stage ≡ x → (x ≡ Between → ⊥)
      → EngineHasCue (λ cue. IsPortSeen cue seen × IsEnginePhaseCue cue) (stepped_cue_at x before.engine)
      → IfSome (engine_cue before.engine) (λ cue. EngineTookReply cue seen before.engine mid.engine)
      → EngineHasCue (λ cue. SteppedMakesCall cue seen accesses before came two) (stepped_cue_at x before.engine)
  at_stage Driving at never asked replied = driving_turns (engine_cue before.engine) refl at asked replied
  at_stage Between at never asked replied = absurd (never refl)
  at_stage (Ended end) at never asked replied = absurd asked

  -- a call that the engine asked for, and what it came to
  pub engine_turns : (before.stage ≡ Between → ⊥)
      → EngineHasCue (λ cue. IsPortSeen cue seen × IsEnginePhaseCue cue) (stepped_run_cue before)
      → IfSome (engine_cue before.engine) (λ cue. EngineTookReply cue seen before.engine mid.engine)
      → EngineHasCue (λ cue. SteppedMakesCall cue seen accesses before came two) (stepped_run_cue before)
  engine_turns never asked replied = at_stage before.stage refl never asked replied

-- after two outcomes there is something to send, or the engine is not asked any more
pub stepped_two_outcomes_drive : (mid one two : Run) → (engine_is_resting mid.engine ≡ false → one ≡ mid)
    → (engine_is_resting mid.engine ≡ true → one.stage ≡ Driving
    → (one.engine.ahead ≡ Unsent) × (engine_is_ahead one.engine ≡ false))
    → (engine_is_resting one.engine ≡ false → two ≡ one)
    → (one.engine.ahead ≡ Unsent → engine_is_ahead one.engine ≡ false → two.stage ≡ Driving
    → engine_is_resting two.engine ≡ false)
    → (two.stage ≡ Driving → one.stage ≡ Driving) → two.stage ≡ Driving → engine_is_resting two.engine ≡ false
stepped_two_outcomes_drive mid one two same calm further drives driven at =
    elim (cases_Bool (engine_is_resting mid.engine)) [
      | inl rests ↦ (let known = calm rests (driven at) in drives known.0 known.1 at)
      | inr moves ↦
          (let first : engine_is_resting one.engine ≡ false = ap (λ (x : Run). engine_is_resting x.engine) (same moves)
          ∙ moves in
          ap (λ (x : Run). engine_is_resting x.engine) (further first) ∙ first)
    ]

-- A STEP OF A RUN
leads_first : (e : Engine) → e.state ≡ Leading → stepped_cue_is_lead (engine_cue e) ≡ true
leads_first e at = grind arith

accepted_by : (opened : Bool) (how : SteppedSetup) (accesses : List Access) (calls : List Call) (run : Run)
    (answers : List Answer) → how.opened ≡ opened → SteppedListAccepted opened how.from accesses calls
    → SteppedCame how (drop how.from accesses) calls run.engine run.stage answers → SteppedListFits accesses run
    → AreHostAccesses accesses
accepted_by false how accesses [] run answers is accepted came fit =
    fit.are (leads_first run.engine (stepped_leads_first is came).1)
accepted_by false how accesses (call ∷ calls) run answers is accepted came fit = accepted.1
accepted_by true how accesses [] run answers is accepted came fit = accepted.1
accepted_by true how accesses (call ∷ calls) run answers is accepted came fit = accepted.1

accepted_first : (how : SteppedSetup) (accesses : List Access) (calls : List Call) (run : Run) (answers : List Answer)
    → SteppedRan how accesses calls run answers → SteppedListFits accesses run → AreHostAccesses accesses
accepted_first how accesses calls run answers ran fit =
    accepted_by how.opened how accesses calls run answers refl ran.accepted ran.come.came fit

-- what a list needs for a further call holds of it after the call, whether or not the target was open already
accepted_then : (opened : Bool) (from : ℕ) (accesses : List Access) (call : Call) (calls : List Call)
    → (length accesses ≤ 65536) × AreHostAccesses accesses × (from ≤ length accesses)
    → SteppedListAccepted opened from accesses (call ∷ calls)
accepted_then false from accesses call calls h = h
accepted_then true from accesses call calls h = h

-- a call for a list that fits the run extends the run's calls by this one, and its answers by those of this call
pub stepped_call_extends_run : (accesses : List Access) (before after : Run) (cue : Cue) (reply seen : ℕ)
    (came : List Answer)
    → SteppedListFits accesses before → seen ≡ stepped_seen cue reply
    → SteppedMakesCall cue seen accesses before came after
    → (after.stage ≡ Driving → engine_is_resting after.engine ≡ false)
    → SteppedExtends cue reply accesses before came after
stepped_call_extends_run accesses before after cue reply seen came fit is turns drives how calls answers ran =
    record {
      come = subst (λ n. SteppedHasCome how accesses (record { cue = cue; seen = n } ∷ calls) after (answers ++ came))
          is (turns how calls answers ran.come);
      accepted = accepted_then how.opened how.from accesses _ calls (
        fit.few,
        accepted_first how accesses calls before answers ran fit,
        omega (arith, ran.come.number, fit.answered),
      );
      drives = drives;
    }

-- no run answers more than the list has
pub stepped_too_few_accesses : (how : SteppedSetup) (accesses : List Access) (calls : List Call) (run : Run)
    (answers : List Answer)
    → SteppedHasCome how accesses calls run answers → how.from ≤ length accesses → length accesses < run.answered → ⊥
stepped_too_few_accesses how accesses calls run answers h from low =
    absurd (omega (arith, h.number, stepped_few_answers h.came, length-drop how.from accesses))

-- a list with fewer accesses than the run has answered isn't the one that led to it
pub stepped_too_few_before : (accesses : List Access) (run : Run) → length accesses < run.answered
    → (how : SteppedSetup) (calls : List Call) (answers : List Answer) → SteppedRan how accesses calls run answers
    → how.from ≤ length accesses → ⊥
stepped_too_few_before accesses run low how calls answers ran from =
    stepped_too_few_accesses how accesses calls run answers ran.come from low

-- nor is a list with fewer accesses than the run has answered after the next call
pub stepped_too_few_after : (accesses : List Access) (before after : Run) (cue : Cue) (seen : ℕ) (came : List Answer)
    → SteppedMakesCall cue seen accesses before came after → length accesses < after.answered
    → (how : SteppedSetup) (calls : List Call) (answers : List Answer) → SteppedRan how accesses calls before answers
    → how.from ≤ length accesses → ⊥
stepped_too_few_after accesses before after cue seen came turns low how calls answers ran from =
    stepped_too_few_accesses how accesses (record { cue = cue; seen = seen } ∷ calls) after (answers ++ came)
    (turns how calls answers ran.come) from low
