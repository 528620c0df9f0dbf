-- Each step of a run keeps what is known of it. For `Running`.
use Rattle.std.proofs.Common.{arith, refl, sym, ap, subst, ◌∙◌, ◌≡◌, ◌+◌, ◌^◌, ◌<◌, ◌≤◌, ℕ, Bool, true, false, List, []}
use Rattle.std.proofs.Common.{◌∷◌, ◌++◌, length, get_or, length-append}
use Rattle.std.specs.Prelude.{Some, is_some, slice_get}
use Rattle.std.proofs.lemmas.List.{append_assoc}
use Rattle.std.proofs.lemmas.Option.{get_or_from_slice_get, slice_get_within}
use Rattle.swd_port.specs.declared.access.Access.{Access}
use Rattle.swd_port.specs.declared.access.Access.TheVariants.{Read}
use Rattle.swd_port.specs.declared.access.Answer.{Answer}
use Rattle.swd_port.specs.declared.call.Call.{Call}
use Rattle.swd_port.specs.declared.wire.Due.{Due}
use Rattle.swd_port.specs.declared.wire.Due.TheVariants.{Nothing}
use Rattle.swd_port.specs.Port.{Port}
use Rattle.swd_port.specs.Stories.{port_due_by, port_at}
use Rattle.swd_host.specs.declared.engine.Engine.{Engine}
use Rattle.swd_host.specs.declared.engine.State.{State}
use Rattle.swd_host.specs.declared.engine.State.TheVariants.{Resting}
use Rattle.swd_host.specs.declared.outcome.End.{End}
use Rattle.swd_host.specs.declared.outcome.End.TheVariants.{All}
use Rattle.swd_host.specs.declared.outcome.Outcome.TheVariants.{Opened, Answered, Stopped}
use Rattle.swd_host.specs.declared.task.Bursts.{Bursts}
use Rattle.swd_host.specs.declared.task.Task.{Task}
use Rattle.swd_host.specs.Calls.{EngineTurned, host_idle_call}
use Rattle.swd_host.specs.Engines.{IsEnginePhaseCue, engine_is_resting, engine_outcome_at, engine_outcome}
use Rattle.swd_host.specs.Progress.{engine_state_is_of}
use Rattle.swd_host.specs.Standing.{EngineHasOpened, EngineIsOpened, EngineStands, EngineStays}
use Rattle.swd_host.specs.Tracks.{EngineDueAt, EngineDueFits}
use Rattle.swd_host.specs.Turns.{EngineIsNew, EngineStarts, EngineWorks}
use Rattle.swd_host.proofs.Folding.{engine_turn_moves, engine_turn_works, engine_turn_due, engine_turn_goes}
use Rattle.swd_host.proofs.Folding.{engine_works_refl, engine_works_trans, engine_goes_refl, engine_goes_trans}
use Rattle.swd_host.proofs.Folding.{burst_next_access, start_access, engine_due_at_start, engine_start_not_all}
use Rattle.swd_host.proofs.Folding.{engine_stop_not_all, engine_stopped_state, engine_opened_state}
use Rattle.swd_host.proofs.Folding.{engine_access_not_opened, opened_engine_stays, opened_engine_stands, answered_stays}
use Rattle.swd_host.proofs.Folding.{answered_stands, engine_sent_answered, access_performs, access_does}
use Rattle.swd_host.proofs.Folding.{engine_sent_stopped, engine_performs_all, all_does, engine_sent_all}
use Rattle.swd_steps.specs.Runs.{SteppedBegins, SteppedBeginsBy, SteppedSetup}
use Rattle.swd_steps.proofs.Lists.{stepped_next_access}
use Rattle.swd_steps.proofs.Standing.{SteppedWent, SteppedInOpening, SteppedBetweenAccesses, SteppedInAccess}
use Rattle.swd_steps.proofs.Standing.{SteppedAtEnd, never_opened, performed}

-- an opening comes to no answer
pub stepped_opening_no_answer : (x : State) (task : Task) (answer : Answer) → engine_state_is_of true x ≡ true
    → engine_outcome_at x task ≡ Some (Answered answer) → ⊥
stepped_opening_no_answer x task answer opening h = grind arith

-- nothing is due where the opening is at its end
opened_due : (x : State) (stray : Bool) (task : Task) (due : Due) → x ≡ Resting Opened → EngineDueAt x stray task due
    → due ≡ Nothing
opened_due x stray task due at h = grind arith

new_due : (kind : Bursts) (again : Bool) (tries : ℕ) (e : Engine) (s : Port) → EngineIsNew kind again tries e
    → (again ≡ false → s.link.due ≡ Nothing) → EngineDueFits e s
new_due kind again tries e s new clear = grind arith

opened_fits : (kind : Bursts) (tries : ℕ) (e : Engine) (s : Port) → EngineIsOpened kind tries e → s.link.due ≡ Nothing
    → EngineDueFits e s
opened_fits kind tries e s opened clear =
    subst (λ x. EngineDueAt x e.stray e.task s.link.due) (sym opened.has.at) clear

has_opened : (kind : Bursts) (again : Bool) (tries : ℕ) (e o : Engine) → tries < 2 ^ 32 → EngineIsNew kind again tries e
    → EngineWorks e o → o.state ≡ Resting Opened → EngineHasOpened o
has_opened kind again tries e o small new works at = grind arith

-- an engine of an open target rests
pub stepped_opened_rests : (kind : Bursts) (tries : ℕ) (e : Engine) → EngineIsOpened kind tries e
    → engine_is_resting e ≡ true
stepped_opened_rests kind tries e opened = ap (λ x. is_some (engine_outcome_at x e.task)) opened.has.at

-- so nothing was done in its opening
pub stepped_opened_same : (kind : Bursts) (tries : ℕ) (e o : Engine) → EngineIsOpened kind tries e → EngineWorks e o
    → o ≡ e
stepped_opened_same kind tries e o opened works = works.rests (stepped_opened_rests kind tries e opened)

begins_due : (opened : Bool) (how : SteppedSetup) (e : Engine) (s : Port) → SteppedBeginsBy opened how e
    → (how.again ≡ false → s.link.due ≡ Nothing) → (opened ≡ true → s.link.due ≡ Nothing) → EngineDueFits e s
begins_due false how e s new clear rests = new_due how.kind how.again how.tries e s new clear
begins_due true how e s new clear rests = opened_fits how.kind how.tries e s new (rests refl)

-- whether the line reset comes first or the target is open, the engine is in its opening
pub stepped_begins_part : (opened : Bool) (how : SteppedSetup) (e : Engine) → SteppedBeginsBy opened how e
    → engine_state_is_of true e.state ≡ true
stepped_begins_part false how e new = ap (engine_state_is_of true) new.leads
stepped_begins_part true how e new = ap (engine_state_is_of true) new.has.at

begins_opened : (opened : Bool) (how : SteppedSetup) (e o : Engine) → how.tries < 2 ^ 32 → SteppedBeginsBy opened how e
    → EngineWorks e o → o.state ≡ Resting Opened → EngineHasOpened o
begins_opened false how e o small new works at = has_opened how.kind how.again how.tries e o small new works at
begins_opened true how e o small new works at =
    subst EngineHasOpened (sym (stepped_opened_same how.kind how.tries e o new works)) new.has

-- ONE CALL AFTER THE OTHER
went_none : (story : ℕ → Port) (calls : List Call) (e : Engine) → EngineDueFits e (port_at story calls)
    → SteppedWent story calls calls e [] e
went_none story calls e due = record {
  works = engine_works_refl e;
  turns = refl;
  due = due;
  goes = λ fits. (fits, engine_goes_refl e (port_at story calls));
}

-- a call that the engine asked for, after those before it
went_then : (story : ℕ → Port) (older newer made : List Call) (call : Call) (first e f : Engine)
    → SteppedWent story older newer first made e → EngineTurned call e f → IsEnginePhaseCue call.cue
    → SteppedWent story older (call ∷ newer) first (call ∷ made) f
went_then story older newer made call first e f h turned phase =
    let on = engine_turn_moves call e f turned in record {
      works = engine_works_trans first e f on h.works (engine_turn_works call e f turned);
      turns = (e, h.turns, turned);
      due = engine_turn_due call e f (port_at story (call ∷ newer)) turned refl;
      goes = λ fits. (
          let soon = h.goes fits.0 in (
            soon.0,
            engine_goes_trans first e f (port_at story older) (port_at story newer) (port_at story (call ∷ newer)) on
                soon.1 (engine_turn_goes call e f (port_at story newer) (port_at story (call ∷ newer)) turned phase
                fits.1),
          ));
    }

module _ (story : ℕ → Port) (past : List Call) (how : SteppedSetup) (list : List Access) (small : how.tries < 2 ^ 32)
    (clear : how.again ≡ false → port_due_by past ≡ Nothing) (rests : how.opened ≡ true → port_due_by past ≡ Nothing)
    (few : length list ≤ 65536) where
  abbrev port : List Call → Port
  port calls = port_at story (calls ++ past)

  -- THE OPENING
  pub begins_holds : (e : Engine) → SteppedBegins how e → SteppedInOpening story past how [] e
  begins_holds e new = record {
    first = e;
    new = new;
    went = went_none story past e (begins_due how.opened how e (port []) new clear rests);
  }

  -- a call that the engine asks for in the opening keeps what is known of the opening
  pub opening_turns : (calls : List Call) (call : Call) (e f : Engine) → SteppedInOpening story past how calls e
      → EngineTurned call e f
      → IsEnginePhaseCue call.cue → SteppedInOpening story past how (call ∷ calls) f
  opening_turns calls call e f h turned phase = record {
    first = h.first;
    new = h.new;
    went = went_then story past (calls ++ past) calls call h.first e f h.went turned phase;
  }

  opening_part : (calls : List Call) (e : Engine) → SteppedInOpening story past how calls e
      → engine_state_is_of true e.state ≡ true
  opening_part calls e h = h.went.works.part true (stepped_begins_part how.opened how h.first h.new)

  opened : (calls : List Call) (e : Engine) (h : SteppedInOpening story past how calls e) → e.state ≡ Resting Opened →
      EngineHasOpened e
  opened calls e h at = begins_opened how.opened how h.first e small h.new h.went.works at

  -- where the opening succeeded, what holds between two accesses holds, with no answer yet
  pub opening_rests : (calls : List Call) (e : Engine) → SteppedInOpening story past how calls e
      → engine_outcome e ≡ Some Opened → SteppedBetweenAccesses story past how list calls e []
  opening_rests calls e h finished =
      let at : e.state ≡ Resting Opened =
      engine_opened_state e.state e.task Opened (opening_part calls e h) finished (λ end is. absurd (cc)) in
      let due = opened_due e.state e.stray e.task (port calls).link.due at h.went.due in
      let has = opened calls e h at in record {
        o = e;
        early = calls;
        late = [];
        parts = refl;
        opening = h;
        at = at;
        stays = opened_engine_stays list e (port calls) has due;
        stands = λ fits. (fits, opened_engine_stands list e (port calls) has due);
        keeps = λ before counts. counts;
      }

  -- an opening never ends in an answer
  pub opening_answered : (calls : List Call) (e : Engine) (answer : Answer) → SteppedInOpening story past how calls e
      → engine_outcome e ≡ Some (Answered answer) → ⊥
  opening_answered calls e answer h finished =
      stepped_opening_no_answer e.state e.task answer (opening_part calls e h) finished

  -- where the opening stopped, what holds at the end of a run holds, without answers
  pub opening_stops : (calls : List Call) (e : Engine) (end : End) → SteppedInOpening story past how calls e
      → engine_outcome e ≡ Some (Stopped end) → SteppedAtEnd story past how list calls e [] end
  opening_stops calls e end h finished = never_opened h (engine_stopped_state e.state e.task end finished) refl

  -- AN ACCESS
  pub rested_starts : (calls : List Call) (answers : List Answer) (a : Access) (e f : Engine)
      → SteppedBetweenAccesses story past how list calls e answers → slice_get list (length answers) ≡ Some a
      → EngineStarts a (slice_get list (length answers + 1)) e f → SteppedInAccess story past how list calls f answers
  rested_starts calls answers a e f h at starts =
      let here : get_or list (length answers) (Read 0) ≡ a =
      get_or_from_slice_get list (length answers) a (Read 0) at in
      let started = subst (λ b. EngineStarts b (slice_get list (length answers + 1)) e f) (sym here) starts in record {
        e = e;
        g = f;
        before = calls;
        recent = [];
        parts = refl;
        rested = h;
        low = slice_get_within list (length answers) a at;
        following = slice_get list (length answers + 1);
        next = stepped_next_access list (length answers) (slice_get list (length answers + 1)) refl;
        starts = started;
        went = went_none story (calls ++ past) f (engine_due_at_start (get_or list (length answers) (Read 0))
            (slice_get list (length answers + 1)) e f (port calls) started h.stays.rests
            (burst_next_access (length answers) list h.o e answers (port calls) (Read 0) h.stays) h.stays.due);
      }

  -- a call that the engine asks for within an access keeps what is known of the access
  pub hand_turns : (calls : List Call) (answers : List Answer) (call : Call) (e f : Engine)
      → SteppedInAccess story past how list calls e answers → EngineTurned call e f → IsEnginePhaseCue call.cue
      → SteppedInAccess story past how list (call ∷ calls) f answers
  hand_turns calls answers call e f h turned phase = record {
    e = h.e;
    g = h.g;
    before = h.before;
    recent = call ∷ h.recent;
    parts = ap (λ l. call ∷ l) h.parts;
    rested = h.rested;
    low = h.low;
    following = h.following;
    next = h.next;
    starts = h.starts;
    went = went_then story (h.before ++ past) (calls ++ past) h.recent call h.g e f h.went turned phase;
  }

  -- an access never ends in the outcome `Opened`
  pub hand_opened : (calls : List Call) (answers : List Answer) (e : Engine)
      → SteppedInAccess story past how list calls e answers
      → engine_outcome e ≡ Some Opened → ⊥
  hand_opened calls answers e h finished =
      engine_access_not_opened e.state e.task (h.went.works.part false (start_access _ h.following h.e h.g h.starts))
      finished

  module _ (calls : List Call) (answers : List Answer) (f : Engine)
      (h : SteppedInAccess story past how list calls f answers)
    where
      abbrev r : SteppedBetweenAccesses story past how list h.before h.e answers
      r = h.rested

      joined : calls ≡ (h.recent ++ r.late) ++ r.early
      joined = h.parts ∙ (ap (λ l. h.recent ++ l) r.parts ∙ sym (append_assoc h.recent r.late r.early))

      has : EngineHasOpened r.o
      has = opened r.early r.o r.opening r.at

      -- where the access is answered, what holds between two accesses holds, with its answer added
      pub hand_answered : (answer : Answer) → engine_outcome f ≡ Some (Answered answer)
          → SteppedBetweenAccesses story past how list calls f (answers ++ answer ∷ [])
      hand_answered answer finished =
          let long : length answers + 1 ≡ length (answers ++ answer ∷ []) = sym (length-append answers (answer ∷ [])) in
          let stays : EngineStays (length answers + 1) list r.o f (answers ++ answer ∷ []) (port calls) =
          answered_stays (length answers) list r.o h.e h.g f answers (port h.before) (port calls) (Read 0) h.following
          r.stays h.starts h.went.works answer (answers ++ answer ∷ []) refl h.went.due h.next finished in
          record {
            o = r.o;
            early = r.early;
            late = h.recent ++ r.late;
            parts = joined;
            opening = r.opening;
            at = r.at;
            stays = subst (λ n. EngineStays n list r.o f (answers ++ answer ∷ []) (port calls)) long stays;
            stands = λ fits. (
                let soon = h.went.goes fits in
                let first = r.stands soon.0 in (
                  first.0,
                  subst (λ n. EngineStands n list r.o (port r.early) f (answers ++ answer ∷ []) (port calls)) long
                      (answered_stands (length answers) list r.o h.e h.g f answers (port r.early) (port h.before)
                      (port calls) (Read 0) h.following has (omega (arith, h.low, few)) h.low first.1 h.starts soon.1
                      h.went.due answer (answers ++ answer ∷ []) refl finished stays),
                ));
            keeps = engine_sent_answered (length answers) list r.o h.e f answers (port h.before) (Read 0) h.following
                r.stays h.low
                h.next answer finished r.late h.recent r.keeps (h.g, h.starts, h.went.turns);
          }

      -- where the engine stopped within an access, what holds at the end of a run holds, with the answers so far
      pub hand_stops : (end : End) → engine_outcome f ≡ Some (Stopped end)
          → SteppedAtEnd story past how list calls f answers end
      hand_stops end finished =
          let at = engine_stopped_state f.state f.task end finished in
          let never = engine_stop_not_all h.g f end h.went.works (engine_start_not_all _ h.following h.e h.g h.starts)
          at in
          performed r.o r.early (h.recent ++ r.late) joined r.opening r.at
          (access_performs (length answers) list r.o h.e h.g f answers (port h.before) (port calls) (Read 0) h.following
          r.stays
          h.starts h.went.works end h.low h.went.due at never [] answers refl)
          (λ fits.
          let soon = h.went.goes fits in
          let first = r.stands soon.0 in (
            first.0,
            access_does (length answers) list r.o h.e h.g f answers (port r.early) (port h.before) (port calls) (Read 0)
                h.following has (omega (arith, h.low, few)) h.low first.1 h.starts soon.1 h.went.due [] answers end refl
                h.next finished,
          ))
          (engine_sent_stopped (length answers) list r.o h.e f answers (port h.before) (Read 0) h.following r.stays
          h.low h.next end at never [] answers refl r.late h.recent r.keeps (h.g, h.starts, h.went.turns))

  -- ALL ARE ANSWERED
  pub rested_idles : (calls : List Call) (answers : List Answer) (e : Engine)
      → SteppedBetweenAccesses story past how list calls e answers
      → length answers ≡ length list → SteppedAtEnd story past how list (host_idle_call ∷ calls) e answers All
  rested_idles calls answers e r all =
      performed r.o r.early (host_idle_call ∷ r.late) (ap (λ l. host_idle_call ∷ l) r.parts) r.opening r.at
      (engine_performs_all (length answers) list r.o e answers (port calls) (port (host_idle_call ∷ calls)).link.due
      r.stays all refl [] answers refl) (λ fits.
      let first = r.stands fits.0 in (
        first.0,
        all_does (length answers) list r.o e answers (port r.early) (port calls)
            (opened r.early r.o r.opening r.at) all first.1 [] answers (port (host_idle_call ∷ calls)) refl fits.1,
      ))
      (engine_sent_all (length answers) list r.o e answers (port calls) r.stays all [] answers refl r.late
      (host_idle_call ∷ []) r.keeps refl)
