-- The report of a run that ended is that of the theorem. For the law `runs`.
use Rattle.std.proofs.Common.{arith, refl, sym, ap, subst, ◌∙◌, ◌≡◌, ◌^◌, ◌<◌, ◌≤◌, ℕ, Bool, true, false}
use Rattle.std.proofs.Common.{List, [], ◌∷◌, ◌++◌, length, length-drop}
use Rattle.std.specs.Prelude.{drop}
use Rattle.std.specs.FinMap.{FinMap}
use Rattle.std.proofs.lemmas.List.{append-nil}
use Rattle.swd_port.specs.declared.access.Access.{Access}
use Rattle.swd_port.specs.declared.access.Answer.{Answer}
use Rattle.swd_port.specs.declared.call.Call.{Call}
use Rattle.swd_port.specs.declared.wire.Due.TheVariants.{Nothing}
use Rattle.swd_port.specs.Bus.{Bus}
use Rattle.swd_port.specs.PlainBus.{bus_of}
use Rattle.swd_port.specs.Port.{Port}
use Rattle.swd_port.specs.Made.{port_made}
use Rattle.swd_port.specs.Stories.{FitsStory, port_due_by, port_at}
use Rattle.swd_host.specs.declared.engine.Engine.{Engine}
use Rattle.swd_host.specs.declared.outcome.End.{End}
use Rattle.swd_host.specs.Again.{ResumeFits}
use Rattle.swd_host.specs.Plain.{AreHostAccesses}
use Rattle.swd_host.specs.Progress.{engine_stray_left}
use Rattle.swd_host.specs.Reports.{Closes, IsAtRest, HostKnowsTarget, RunFits, HostReport}
use Rattle.swd_host.specs.OpenLists.{ListCloses, ListsWithin}
use Rattle.swd_host.specs.Resuming.{resume_report}
use Rattle.swd_host.specs.Confirming.{HostConfirms}
use Rattle.swd_host.specs.Sent.{HostReportsCalls}
use Rattle.swd_host.specs.Standing.{EngineDoes, EngineIsOpened, engine_report}
use Rattle.swd_host.specs.Turns.{EngineIsNew, EngineWorks}
use Rattle.swd_host.specs.Calls.{EngineTurns}
use Rattle.swd_host.specs.Engines.{engine_is_resting}
use Rattle.swd_host.specs.declared.engine.State.TheVariants.{Resting}
use Rattle.swd_host.specs.declared.outcome.Outcome.TheVariants.{Opened, Stopped}
use Rattle.swd_host.specs.declared.task.Bursts.{Bursts}
use Rattle.swd_host.proofs.Folding.{opening_closes, list_closes, engine_closes_equal, engine_requests_small}
use Rattle.swd_host.proofs.Folding.{engine_report_matches, engine_turn_moves, list_report_closes, list_report_sent}
use Rattle.swd_host.proofs.Folding.{list_runs_within, list_confirms, list_sent_confirms}
use Rattle.swd_host.proofs.Folding.{opening_counts}
use Rattle.swd_host.proofs.Folding.{opening_stop_sent, opening_stops, list_fits, resume_stops, resume_performs}
use Rattle.swd_steps.specs.declared.run.Run.{Run}
use Rattle.swd_steps.specs.declared.run.Stage.TheVariants.{Ended}
use Rattle.swd_steps.specs.Laws.{SteppedAlwaysCloses, SteppedOpenFits, SteppedReportCloses, SteppedResumeFits}
use Rattle.swd_steps.specs.Laws.{SteppedRunFits}
use Rattle.swd_steps.specs.Runs.{SteppedBeginsBy, SteppedListAccepted, SteppedSetup, SteppedCame, SteppedRan}
use Rattle.swd_steps.specs.Runs.{stepped_again, stepped_anew, stepped_opened}
use Rattle.swd_steps.proofs.Keeping.{stepped_opened_rests, stepped_opened_same}
use Rattle.swd_steps.proofs.Running.{stepped_leads_first, holds}
use Rattle.swd_steps.proofs.Standing.{SteppedAtEnd, never_opened, performed}

-- A RUN THAT ENDED
-- calls were made for it, or its target was open already
ended_calls : (opened : Bool) (accesses : List Access) (how : SteppedSetup) (list : List Access) (calls : List Call)
    (e : Engine) (answers : List Answer) (end : End) → how.opened ≡ opened
    → SteppedCame how list calls e (Ended end) answers → SteppedListAccepted opened how.from accesses calls
    → (length accesses ≤ 65536) × AreHostAccesses accesses × (how.from ≤ length accesses)
ended_calls false accesses how list [] e answers end is came h =
    absurd (let first = (stepped_leads_first is came).0 in cc)
ended_calls false accesses how list (call ∷ calls) e answers end is came h = h
ended_calls true accesses how list [] e answers end is came h = h
ended_calls true accesses how list (call ∷ calls) e answers end is came h = h

module _ (how : SteppedSetup) (accesses : List Access) (calls : List Call) (run : Run) (answers : List Answer)
    (end : End) (small : how.tries < 2 ^ 32) (ran : SteppedRan how accesses calls run answers)
    (ended : run.stage ≡ Ended end) where
  abbrev pub rest : List Access
  rest = drop how.from accesses

  came : SteppedCame how rest calls run.engine (Ended end) answers
  came = subst (λ x. SteppedCame how rest calls run.engine x answers) ended ran.come.came

  pub accepted : (length accesses ≤ 65536) × AreHostAccesses accesses × (how.from ≤ length accesses)
  accepted = ended_calls how.opened accesses how rest calls run.engine answers end refl came ran.accepted

  pub few : length rest ≤ 65536
  few = omega (arith, length-drop how.from accesses, accepted.0)

  pub finished : (story : ℕ → Port) (past : List Call) → (how.again ≡ false → port_due_by past ≡ Nothing)
      → (how.opened ≡ true → port_due_by past ≡ Nothing) → SteppedAtEnd story past how rest calls run.engine answers end
  finished story past clear rests = holds story past how rest small clear rests few came

-- WHATEVER CAME BACK
no_memory : Bus
no_memory = bus_of (record { words = Rattle.std.specs.FinMap.empty; log = []; room = 0 })

nothing_yet : ℕ → Port
nothing_yet n = port_made 0 no_memory

closes_spare : (again : Bool) → engine_stray_left again ≤ 5
closes_spare again = grind arith

-- an engine of an open target isn't stopped before its list
open_goes_on : (kind : Bursts) (tries : ℕ) (first o : Engine) (end : End) → EngineIsOpened kind tries first
    → EngineWorks first o → o.state ≡ Resting (Stopped end) → ⊥
open_goes_on kind tries first o end opened works at =
    let same : o ≡ first = stepped_opened_same kind tries first o opened works in
    let both : Resting Opened ≡ Resting (Stopped end) = sym opened.has.at ∙ (ap (λ x. x.state) (sym same) ∙ at) in cc

-- and no call was made for it
open_no_calls : (first : Engine) (early : List Call) (o : Engine) → engine_is_resting first ≡ true
    → EngineTurns first early o → early ≡ []
open_no_calls first [] o rests turns = refl
open_no_calls first (call ∷ early) o rests (x, before, turned) =
    absurd (let none : early ≡ [] = open_no_calls first early x rests before in
    let same : x ≡ first = subst (λ l. EngineTurns first l x) none before in
    let moves : engine_is_resting x ≡ false = engine_turn_moves call x o turned in
    let both : true ≡ false = sym rests ∙ (ap engine_is_resting (sym same) ∙ moves) in cc)

closed_by : (opened : Bool) (how : SteppedSetup) (list : List Access) (calls : List Call) (e : Engine)
    (answers : List Answer) (end : End) → how.opened ≡ opened → how.tries < 2 ^ 32 → length list ≤ 65536
    → SteppedAtEnd nothing_yet [] how list calls e answers end
    → SteppedReportCloses opened how list (engine_report answers e end) (port_due_by calls)
    × HostReportsCalls list (engine_report answers e end) calls
closed_by false how list calls e answers end is small short (never_opened h at none) =
    let new : EngineIsNew how.kind how.again how.tries h.first = subst (λ b. SteppedBeginsBy b how h.first) is h.new in
    let due : port_due_by (calls ++ []) ≡ port_due_by calls = ap port_due_by (append-nil calls) in
    let closes : Closes (engine_stray_left how.again) how.kind list how.tries
    (engine_report answers e end) (port_due_by calls) =
    subst (λ d. Closes (engine_stray_left how.again) how.kind list how.tries
    (engine_report answers e end) d) due
    (engine_closes_equal (engine_stray_left how.again) how.kind list how.tries (engine_report [] e end)
    (engine_report answers e end) (port_due_by (calls ++ [])) (ap (λ l. engine_report l e end) none)
    (opening_closes how.kind how.again how.tries h.first e small new h.went.works list end (port_due_by (calls ++ []))
    at h.went.due)) in (
      closes,
      engine_report_matches list [] e end (engine_report answers e end) calls
          (ap (λ l. engine_report l e end) none)
          (engine_requests_small (engine_stray_left how.again) how.kind list how.tries
          (engine_report answers e end) (port_due_by calls) (closes_spare how.again) short small closes)
          (opening_stop_sent list how.kind how.again how.tries h.first e end calls new h.went.turns at),
    )
closed_by false how list calls e answers end is small short (performed o early late parts h at performs does tells) =
    let new : EngineIsNew how.kind how.again how.tries h.first = subst (λ b. SteppedBeginsBy b how h.first) is h.new in
    let due : port_due_by (calls ++ []) ≡ port_due_by calls = ap port_due_by (append-nil calls) in
    let closes : Closes (engine_stray_left how.again) how.kind list how.tries
    (engine_report answers e end) (port_due_by calls) =
    subst (λ d. Closes (engine_stray_left how.again) how.kind list how.tries
    (engine_report answers e end) d) due
    (engine_closes_equal (engine_stray_left how.again) how.kind list how.tries
    (engine_report performs.answers e end)
    (engine_report answers e end) (port_due_by (calls ++ [])) (ap (λ l. engine_report l e end) performs.added)
    (list_closes how.kind how.again how.tries h.first o small new h.went.works list e end (port_due_by (calls ++ []))
    [] answers performs)) in (
      closes,
      subst (λ l. HostReportsCalls list (engine_report answers e end) l) (sym parts)
          (engine_report_matches list tells.answers e end (engine_report answers e end) (late ++ early)
          (ap (λ l. engine_report l e end) tells.added)
          (engine_requests_small (engine_stray_left how.again) how.kind list how.tries
          (engine_report answers e end) (port_due_by calls) (closes_spare how.again) short small closes)
          (tells.ends early (opening_counts list how.kind how.again how.tries h.first o early new h.went.turns at))),
    )
closed_by true how list calls e answers end is small short (never_opened h at none) =
    absurd (open_goes_on how.kind how.tries h.first e end (subst (λ b. SteppedBeginsBy b how h.first) is h.new)
    h.went.works at)
closed_by true how list calls e answers end is small short (performed o early late parts h at performs does tells) =
    let first : EngineIsOpened how.kind how.tries h.first = subst (λ b. SteppedBeginsBy b how h.first) is h.new in
    let opened : EngineIsOpened how.kind how.tries o =
    subst (EngineIsOpened how.kind how.tries) (sym (stepped_opened_same how.kind how.tries h.first o first
    h.went.works)) first in
    let none : early ≡ [] =
    open_no_calls h.first early o (stepped_opened_rests how.kind how.tries h.first first) h.went.turns in
    let due : port_due_by (calls ++ []) ≡ port_due_by calls = ap port_due_by (append-nil calls) in
    let closes : ListCloses how.kind list how.tries (engine_report answers e end) (port_due_by calls) =
    subst (λ d. ListCloses how.kind list how.tries (engine_report answers e end) d) due
    (list_report_closes how.kind how.tries list o e [] answers end (engine_report answers e end) opened refl
    (port_due_by (calls ++ [])) performs) in (
      closes,
      subst (λ l. HostReportsCalls list (engine_report answers e end) l)
          (sym (parts ∙ (ap (λ l. late ++ l) none ∙ append-nil late)))
          (list_report_sent how.kind how.tries list o e [] answers end (engine_report answers e end) opened refl
          (port_due_by calls) short small closes late tells),
    )

-- what is confirmed before the next write, whatever came back
confirms_by : (opened : Bool) (how : SteppedSetup) (list : List Access) (calls : List Call) (e : Engine)
    (answers : List Answer) (end : End) → how.opened ≡ opened → SteppedAtEnd nothing_yet [] how list calls e answers end
    → HostConfirms how.kind calls
confirms_by false how list calls e answers end is (never_opened h at none) =
    let new : EngineIsNew how.kind how.again how.tries h.first = subst (λ b. SteppedBeginsBy b how h.first) is h.new in
    subst (λ b. HostConfirms b calls) (h.went.works.bursts ∙ new.bursts)
    (opening_stop_sent list how.kind how.again how.tries h.first e end calls new h.went.turns at).confirms
confirms_by false how list calls e answers end is (performed o early late parts h at performs does tells) =
    let new : EngineIsNew how.kind how.again how.tries h.first = subst (λ b. SteppedBeginsBy b how h.first) is h.new in
    subst (HostConfirms how.kind) (sym parts)
    (list_confirms list how.kind o e [] answers end early late (h.went.works.bursts ∙ new.bursts)
    (opening_counts list how.kind how.again how.tries h.first o early new h.went.turns at) tells)
confirms_by true how list calls e answers end is (never_opened h at none) =
    absurd (open_goes_on how.kind how.tries h.first e end (subst (λ b. SteppedBeginsBy b how h.first) is h.new)
    h.went.works at)
confirms_by true how list calls e answers end is (performed o early late parts h at performs does tells) =
    let first : EngineIsOpened how.kind how.tries h.first = subst (λ b. SteppedBeginsBy b how h.first) is h.new in
    let opened : EngineIsOpened how.kind how.tries o =
    subst (EngineIsOpened how.kind how.tries) (sym (stepped_opened_same how.kind how.tries h.first o first
    h.went.works)) first in
    let none : early ≡ [] =
    open_no_calls h.first early o (stepped_opened_rests how.kind how.tries h.first first) h.went.turns in
    subst (HostConfirms how.kind) (sym (parts ∙ (ap (λ l. late ++ l) none ∙ append-nil late)))
    (list_sent_confirms how.kind how.tries list o e [] answers end (engine_report answers e end) opened refl late tells)

-- whatever came back, the report of a run that ended has what every report has, and matches the calls that were made
pub stepped_always_closes : SteppedAlwaysCloses
stepped_always_closes how accesses calls run answers end small ran ended =
    let at = finished how accesses calls run answers end small ran ended nothing_yet [] (λ new. refl) (λ ready. refl) in
    let both = closed_by how.opened how (drop how.from accesses) calls run.engine answers end refl small
    (few how accesses calls run answers end small ran ended) at in
    record {
      closes = both.0;
      sent = both.1;
      confirms = confirms_by how.opened how (drop how.from accesses) calls run.engine answers end refl at;
    }

-- WHERE WHAT CAME BACK FITS A STORY
runs_by : (how : SteppedSetup) (list : List Access) (calls : List Call) (e : Engine) (answers : List Answer) (end : End)
    (story : ℕ → Port) (past : List Call) → how.tries < 2 ^ 32 → how.opened ≡ false → how.again ≡ false
    → AreHostAccesses list
    → SteppedAtEnd story past how list calls e answers end → FitsStory story (calls ++ past)
    → IsAtRest (port_at story past)
    → RunFits how.kind list how.tries (port_at story past).target.memory (engine_report answers e end)
    (port_at story past) (port_at story (calls ++ past))
runs_by how list calls e answers end story past small closed new ok (never_opened h at none) fits rest =
    opening_stops how.kind list how.tries h.first e answers (port_at story past) (port_at story (calls ++ past)) small
    (subst (λ b. EngineIsNew how.kind b how.tries h.first) new
    (subst (λ b. SteppedBeginsBy b how h.first) closed h.new)) (h.went.goes fits).1 h.went.due none rest end at
runs_by how list calls e answers end story past small closed new ok
    (performed o early late parts h at performs does tells)
    fits
    rest =
    let done = does fits in
    let opened = h.went.goes done.0 in
    list_fits how.kind list how.tries h.first o [] (port_at story past) (port_at story (early ++ past)) small
    (subst (λ b. EngineIsNew how.kind b how.tries h.first) new
    (subst (λ b. SteppedBeginsBy b how h.first) closed h.new)) opened.1 h.went.due refl rest e answers end
    (port_at story (calls ++ past)) at done.1 ok

-- where the calls are consistent with the model, the theorem of a run holds of the report of a new run that ended
pub stepped_run_fits : SteppedRunFits
stepped_run_fits kind tries accesses calls run answers end small ran ended story past clear fits rest =
    runs_by (stepped_anew kind tries) accesses calls run.engine answers end story past small refl refl
    (accepted (stepped_anew kind tries) accesses calls run answers end small ran ended).1
    (finished (stepped_anew kind tries) accesses calls run answers end small ran ended story past (λ new. clear)
    (λ ready. absurd (cc))) fits rest

opens_by : (kind : Bursts) (tries : ℕ) (list : List Access) (calls : List Call) (e : Engine) (answers : List Answer)
    (end : End) (story : ℕ → Port) (past : List Call) → tries < 2 ^ 32 → AreHostAccesses list
    → SteppedAtEnd story past (stepped_opened kind tries) list calls e answers end → FitsStory story (calls ++ past)
    → ListsWithin kind list tries (engine_report answers e end) (port_at story past)
    (port_at story (calls ++ past))
opens_by kind tries list calls e answers end story past small ok (never_opened h at none) fits =
    absurd (open_goes_on kind tries h.first e end h.new h.went.works at)
opens_by kind tries list calls e answers end story past small ok (performed o early late parts h at performs does tells)
    fits =
    let opened : EngineIsOpened kind tries o =
    subst (EngineIsOpened kind tries) (sym (stepped_opened_same kind tries h.first o h.new h.went.works)) h.new in
    let none : early ≡ [] =
    open_no_calls h.first early o (stepped_opened_rests kind tries h.first h.new) h.went.turns in
    let done = (does fits).1 in
    list_runs_within kind tries list o e [] answers end (engine_report answers e end) opened refl (port_at story past)
    (port_at story (calls ++ past)) ok
    (subst (λ l. EngineDoes list o e [] answers end (port_at story (l ++ past)) (port_at story (calls ++ past))) none
    done)

-- where the calls are consistent with the model, the theorem of a list holds of the report of a run over an open target
pub stepped_open_fits : SteppedOpenFits
stepped_open_fits kind tries accesses calls run answers end small ran ended story past clear fits =
    opens_by kind tries accesses calls run.engine answers end story past small
    (accepted (stepped_opened kind tries) accesses calls run answers end small ran ended).1
    (finished (stepped_opened kind tries) accesses calls run answers end small ran ended story past (λ new. clear)
    (λ ready. clear)) fits

-- the same answers, after those that were there
does_after : (list : List Access) (o f : Engine) (before answers : List Answer) (end : End) (s t : Port)
    → EngineDoes list o f [] answers end s t → EngineDoes list o f before (before ++ answers) end s t
does_after list o f before answers end s t h = record {
  answers = h.answers;
  added = ap (λ l. before ++ l) h.added;
  asked = h.asked;
  later = h.later;
  over = h.over;
}

resumes_by : (kind : Bursts) (tries : ℕ) (accesses : List Access) (calls : List Call) (e : Engine)
    (answers : List Answer) (end : End) (earlier : HostReport) (story : ℕ → Port) (past : List Call) → tries < 2 ^ 32
    → AreHostAccesses accesses → length earlier.answers ≤ length accesses
    → SteppedAtEnd story past (stepped_again kind (length earlier.answers) tries) (drop (length earlier.answers)
    accesses) calls e answers end
    → FitsStory story (calls ++ past) → HostKnowsTarget (port_at story past).target
    → ResumeFits kind accesses tries earlier (resume_report (engine_report (earlier.answers ++ answers) e end) earlier)
    (port_at story past) (port_at story (calls ++ past))
resumes_by kind tries accesses calls e answers end earlier story past small ok reported (never_opened h at none) fits
    known =
    resume_stops kind accesses tries earlier h.first e (earlier.answers ++ answers) (port_at story past)
    (port_at story (calls ++ past)) small h.new ok reported known (h.went.goes fits).1 h.went.due
    (ap (λ l. earlier.answers ++ l) none ∙ append-nil earlier.answers) end at
resumes_by kind tries accesses calls e answers end earlier story past small ok reported
    (performed o early late parts h at performs does tells) fits known =
    let done = does fits in
    let opened = h.went.goes done.0 in
    resume_performs kind accesses tries earlier h.first o earlier.answers (port_at story past) (port_at story (early ++
    past))
    small h.new ok reported known opened.1 h.went.due refl end e (earlier.answers ++ answers) (port_at story (calls ++
    past)) at
    (does_after (drop (length earlier.answers) accesses) o e earlier.answers answers end (port_at story (early ++
    past))
    (port_at story (calls ++ past)) done.1)

-- where the calls are consistent with the model, the theorem of `resume` holds of the report of a run that resumed
pub stepped_resume_fits : SteppedResumeFits
stepped_resume_fits kind tries accesses calls run answers end earlier small ran ended story past fits known =
    let how : SteppedSetup = stepped_again kind (length earlier.answers) tries in
    let ok = accepted how accesses calls run answers end small ran ended in
    resumes_by kind tries accesses calls run.engine answers end earlier story past small ok.1 ok.2
    (finished how accesses calls run answers end small ran ended story past (λ new. absurd (cc))
    (λ ready. absurd (cc))) fits known
