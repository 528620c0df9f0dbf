-- Calls that stand in for others lead a run to the same state.
use Rattle.std.proofs.Common.{◌≡◌, ℕ, Bool, true, false, List, [], ◌∷◌, subst, sym}
use Rattle.swd_port.specs.declared.access.Access.{Access}
use Rattle.swd_port.specs.declared.access.Answer.{Answer}
use Rattle.swd_port.specs.declared.call.Call.{Call}
use Rattle.swd_host.specs.declared.engine.Engine.{Engine}
use Rattle.swd_host.specs.Calls.{host_idle_call}
use Rattle.swd_host.specs.Engines.{IsEnginePhaseCue}
use Rattle.swd_host.specs.StandIns.{AreHostStandIns, IsHostStandIn, same_call, same_damage}
use Rattle.swd_host.proofs.StandIns.{engine_turned_by_stand_in, host_stand_in_cue}
use Rattle.swd_steps.specs.declared.run.Stage.{Stage}
use Rattle.swd_steps.specs.Runs.{SteppedCame, SteppedListAccepted, SteppedSetup, has_begun, has_turned, has_opened}
use Rattle.swd_steps.specs.Runs.{has_answered, has_started, has_idled, has_stopped, stepped_anew}
use Rattle.swd_steps.specs.StandIns.{SteppedRanByStandIns, SteppedRunFitsByStandIns}
use Rattle.swd_steps.proofs.Reporting.{stepped_run_fits}

idles_as : (d : Call) → IsHostStandIn host_idle_call d → d ≡ host_idle_call
idles_as d (same_call is) = is
idles_as d (same_damage first second from to) = absurd (cc)

came_by : {how : SteppedSetup} {list : List Access} {calls : List Call} {e : Engine} {stage : Stage}
    {answers : List Answer} → SteppedCame how list calls e stage answers → (others : List Call)
    → AreHostStandIns calls others → SteppedCame how list others e stage answers
came_by (has_begun e new) [] are = has_begun e new
came_by (has_begun e new) (d ∷ others) are = absurd are
came_by (has_turned call e f came turned phase) [] are = absurd are
came_by (has_turned call e f came turned phase) (d ∷ others) are =
    has_turned d e f (came_by came others are.1) (engine_turned_by_stand_in call d e f are.0 turned)
    (subst IsEnginePhaseCue (sym (host_stand_in_cue call d are.0)) phase)
came_by (has_opened e came finished) others are = has_opened e (came_by came others are) finished
came_by (has_answered e answer came finished) others are = has_answered e answer (came_by came others are) finished
came_by (has_started a e f came at starts) others are = has_started a e f (came_by came others are) at starts
came_by (has_idled e came all) [] are = absurd are
came_by {how} {list} {calls} {e} {stage} {answers} (has_idled f came all) (d ∷ others) are =
    subst (λ (x : Call). SteppedCame how list (x ∷ others) e stage answers) (sym (idles_as d are.0))
    (has_idled f (came_by came others are.1) all)
came_by (has_stopped e end came finished) others are = has_stopped e end (came_by came others are) finished

accepted_by : (opened : Bool) (from : ℕ) (accesses : List Access) (calls others : List Call)
    → AreHostStandIns calls others → SteppedListAccepted opened from accesses calls
    → SteppedListAccepted opened from accesses others
accepted_by opened from accesses [] [] are h = h
accepted_by opened from accesses [] (d ∷ others) are h = absurd are
accepted_by opened from accesses (c ∷ calls) [] are h = absurd are
accepted_by true from accesses (c ∷ calls) (d ∷ others) are h = h
accepted_by false from accesses (c ∷ calls) (d ∷ others) are h = h

-- a run may have come where it is by stand-ins
pub stepped_ran_by_stand_ins : SteppedRanByStandIns
stepped_ran_by_stand_ins how accesses calls others run answers are h = record {
  come = record { came = came_by h.come.came others are; number = h.come.number; last = h.come.last };
  accepted = accepted_by how.opened how.from accesses calls others are h.accepted;
  drives = h.drives;
}

-- so its report is that of the theorem
pub stepped_run_fits_by_stand_ins : SteppedRunFitsByStandIns
stepped_run_fits_by_stand_ins kind tries accesses told made run answers end small are ran ended story past clear fits =
    stepped_run_fits kind tries accesses made run answers end small
    (stepped_ran_by_stand_ins (stepped_anew kind tries) accesses told made run answers are ran) ended story past clear
    fits
