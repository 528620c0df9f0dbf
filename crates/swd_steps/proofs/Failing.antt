-- A run whose line failed inside its cue.
use Rattle.std.proofs.Common.{arith, refl, sym, ap, subst, ◌∙◌, ◌≡◌, Bool, true, false, List, [], ◌∷◌}
use Rattle.std.specs.Prelude.{IfSome, Some, drop}
use Rattle.std.proofs.lemmas.List.{append-nil}
use Rattle.swd_bits.specs.declared.request.Request.{Request}
use Rattle.swd_port.specs.declared.access.Access.{Access}
use Rattle.swd_port.specs.declared.access.Answer.{Answer}
use Rattle.swd_port.specs.declared.call.Call.{Call}
use Rattle.swd_port.specs.declared.cue.Cue.TheVariants.{Ask}
use Rattle.swd_host.specs.declared.engine.Engine.{Engine}
use Rattle.swd_host.specs.declared.engine.State.TheVariants.{Leading}
use Rattle.swd_host.specs.declared.outcome.End.TheVariants.{Lost}
use Rattle.swd_host.specs.declared.outcome.Outcome.TheVariants.{Stopped}
use Rattle.swd_host.specs.Engines.{engine_cue, engine_lead_cue, engine_outcome, engine_outcome_at, engine_cue_at}
use Rattle.swd_host.specs.Replies.{EngineSawAck, EngineTookReply}
use Rattle.swd_steps.specs.declared.run.Run.{Run}
use Rattle.swd_steps.specs.Failing.{SteppedFails}
use Rattle.swd_steps.specs.declared.run.Stage.{Stage}
use Rattle.swd_steps.specs.declared.run.Stage.TheVariants.{Driving, Between, Ended}
use Rattle.swd_steps.specs.Runs.{SteppedCame, SteppedExtends, SteppedListAccepted, SteppedRan, SteppedSetup}
use Rattle.swd_steps.specs.Runs.{has_stopped, has_turned, stepped_call, stepped_cue_at, stepped_run_cue}
use Rattle.swd_steps.proofs.Running.{stepped_leads_first}

-- a run that asks is driven by its engine, whose cue it has
stepped_asks_by : (stage : Stage) (e : Engine) (q : Request) → stepped_cue_at stage e ≡ Some (Ask q)
    → (stage ≡ Driving) × (engine_cue e ≡ Some (Ask q))
stepped_asks_by Driving e q is = (refl, is)
stepped_asks_by Between e q is = absurd (cc)
stepped_asks_by (Ended end) e q is = absurd (cc)

leads_not_asks : (e : Engine) (q : Request) → e.state ≡ Leading → engine_cue e ≡ Some (Ask q) → ⊥
leads_not_asks e q leads asks =
    let lead : engine_cue e ≡ Some (engine_lead_cue e.stray) = ap (λ x. engine_cue_at x e.stray e.task) leads in
    let both : Some (engine_lead_cue e.stray) ≡ Some (Ask q) = sym lead ∙ asks in cc

accepted_at : (opened : Bool) (how : SteppedSetup) (accesses : List Access) (calls : List Call) (run : Run)
    (answers : List Answer) (q : Request) (call : Call) → how.opened ≡ opened
    → SteppedListAccepted opened how.from accesses calls
    → SteppedCame how (drop how.from accesses) calls run.engine run.stage answers → engine_cue run.engine ≡ Some (Ask q)
    → SteppedListAccepted opened how.from accesses (call ∷ calls)
accepted_at false how accesses [] run answers q call is accepted came asks =
    absurd (leads_not_asks run.engine q (stepped_leads_first is came).1 asks)
accepted_at false how accesses (other ∷ calls) run answers q call is accepted came asks = accepted
accepted_at true how accesses [] run answers q call is accepted came asks = accepted
accepted_at true how accesses (other ∷ calls) run answers q call is accepted came asks = accepted

-- a request that nothing acknowledged ends the run as lost
stepped_unacknowledged_ends : (accesses : List Access) (before : Run) (f : Engine) (q : Request)
    → before.stage ≡ Driving → engine_cue before.engine ≡ Some (Ask q) → EngineSawAck 7 before.engine f
    → SteppedExtends (Ask q) 7 accesses before [] (record before { engine = f; stage = Ended Lost })
stepped_unacknowledged_ends accesses before f q driving asks saw how calls answers ran =
    let call : Call = stepped_call (Ask q) 7 in
    let stopped : engine_outcome f ≡ Some (Stopped Lost) = ap (λ x. engine_outcome_at x f.task) saw.sees.state in
    let came : SteppedCame how (drop how.from accesses) calls before.engine Driving answers =
    subst (λ x. SteppedCame how (drop how.from accesses) calls before.engine x answers) driving ran.come.came in
    subst (λ l. SteppedRan how accesses (call ∷ calls) (record before { engine = f; stage = Ended Lost }) l)
    (sym (append-nil answers))
    (record {
      come = record {
        came = has_stopped f Lost (has_turned call before.engine f came
            (record { cue = asks; seen = omega arith; replied = saw }) tt) stopped;
        number = ran.come.number;
        last = λ is. absurd (cc);
      };
      accepted = accepted_at how.opened how accesses calls before answers q call refl ran.accepted ran.come.came asks;
      drives = λ is. absurd (cc);
    })

-- what a line that failed at a request leaves
pub stepped_asking_fails : (before : Run) (f : Engine) (q : Request) → stepped_run_cue before ≡ Some (Ask q)
    → IfSome (engine_cue before.engine) (λ cue. EngineTookReply cue 7 before.engine f)
    → SteppedFails (Ask q) before (record before { engine = f; stage = Ended Lost })
stepped_asking_fails before f q is took =
    let at = stepped_asks_by before.stage before.engine q is in
    let saw : EngineSawAck 7 before.engine f =
    subst (λ cue. IfSome cue (λ cue. EngineTookReply cue 7 before.engine f)) at.1 took in
    record {
      lost = refl;
      answered = refl;
      engine = λ accesses. stepped_unacknowledged_ends accesses before f q at.0 at.1 saw;
    }
