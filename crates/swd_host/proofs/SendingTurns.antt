-- What an engine knows of the calls so far, along an opening and an access.
use Rattle.swd_host.proofs.Words.{◌≡◌, ◌++◌, ◌∷◌, [], ℕ, Bool, true, false, refl, sym, ap, subst, not, inl, inr, arith}
use Rattle.swd_host.proofs.Words.{◌∙◌, List, Option, Some, if◌then◌else◌, max, bit, data_phase_word, Answered, Opened}
use Rattle.swd_host.proofs.Words.{Task, Job, Data, State, Doing, Resting, Ahead, Unsent, NextSent, NextFailed, At}
use Rattle.swd_host.proofs.Words.{Confirm, Engine, engine_job_starts, engine_is_ahead, engine_is_ahead_in}
use Rattle.swd_host.proofs.Words.{engine_job_is_of, engine_state_is_of, engine_state_after_ack, engine_job, is_burst}
use Rattle.swd_host.proofs.Words.{is_burst_write, access_of_task, Access, Answer, engine_outcome_at, engine_first_state}
use Rattle.swd_host.proofs.Words.{engine_ahead_failed, engine_count_more, engine_cue, continues_burst, task_for}
use Rattle.swd_host.proofs.Words.{task_drw_register, engine_request_for, EngineStarts, EngineSeesAck, ◌&&◌, Bursts, End}
use Rattle.swd_host.proofs.Words.{EngineIsNew, engine_stops_at_all, Stopped, ◌⊎◌, None, Waited, engine_is_ahead_at}
use Rattle.swd_host.proofs.Words.{engine_word_for}
use Rattle.swd_port.specs.declared.access.Answer.TheVariants.{Written}
use Rattle.swd_port.specs.declared.call.Call.{Call}
use Rattle.swd_port.specs.declared.cue.Cue.{Cue}
use Rattle.swd_port.specs.declared.cue.Cue.TheVariants.{Lead, Ask as CueAsk, Take, Give, Pass}
use Rattle.swd_port.specs.declared.register.Register.TheVariants.{DrwWrite}
use Rattle.swd_port.specs.Steps.{is_port_ask}
use Rattle.swd_host.specs.declared.engine.Phase.TheVariants.{Faulted}
use Rattle.swd_host.specs.declared.task.Task.TheVariants.{BurstWrite}
use Rattle.swd_host.specs.declared.engine.Phase.{Phase}
use Rattle.swd_host.specs.Engines.{engine_cue_at, engine_data_cue}
use Rattle.swd_host.specs.Calls.{EngineTurns}
use Rattle.swd_host.specs.Replies.{EngineTookReply}
use Rattle.swd_host.specs.Sent.{HostSent, HostSince, Quiet, Failed as Fails, host_asks_drw, host_awaits_drw, host_okay}
use Rattle.swd_host.specs.Sent.{none, other, fault, host_since_after_call}
use Rattle.swd_host.specs.Stages.{engine_stage, EngineStood, EngineBetween, EngineAccessEnded, EngineKnowsAt}
use Rattle.swd_host.specs.Stages.{EngineKnowsCalls, EngineCallsAtRestIn, EngineCallsAtRest, engine_counted}
use Rattle.swd_host.specs.Stages.{EngineCountsCalls, EngineEndsWithCalls}
use Rattle.swd_host.specs.Steps.{EngineGoesTo, EngineRestsWith, engine_ahead_to, engine_is_rested, engine_is_stopped}
use Rattle.swd_host.specs.Steps.{engine_after_read, engine_after_cue}
use Rattle.swd_host.specs.Turns.{engine_begun_left, EngineContinuesBurst}
use Rattle.std.proofs.lemmas.List.{append-nil}
use Rattle.swd_host.proofs.Working.{IsEngineAsking, engine_at_ask}
use Rattle.swd_host.proofs.Turning.{IsEngineTaking, engine_at_take, IsEngineGiving, engine_at_give}
use Rattle.swd_host.proofs.Turned.{engine_lands_by, engine_turn_works}
use Rattle.swd_host.proofs.Starts.{engine_ahead_burst, engine_ahead_write, block_task_is_burst}
use Rattle.swd_host.proofs.SendingStages.{IsTaskInList, engine_none_settled}
use Rattle.swd_host.proofs.Sending.{ask_knows, waited_knows, faulted_knows, given_knows, taken_knows, knows_as}
use Rattle.swd_host.proofs.Sending.{sent_as}
use Rattle.swd_host.proofs.SendingWords.{opening_turns_make, engine_turns_never}
use Rattle.swd_host.proofs.Confirming.{EngineConfirms, engine_may_await, opening_turns_confirm, confirms_any}
use Rattle.swd_host.proofs.Confirming.{settles_any}

-- the job of a state of an access is one of an access
state_job : (x : State) (job : Job) (phase : Phase) → x ≡ Doing job phase → engine_state_is_of false x ≡ true
    → engine_job_is_of false job ≡ true
state_job x job phase at on = sym (ap (engine_state_is_of false) at) ∙ on

-- a turnaround is due
passing : (x : State) (stray : Bool) (task : Task) → engine_cue_at x stray task ≡ Some Pass
    → ((job : Job) × (x ≡ Doing job Waited)) ⊎ ((job : Job) × (x ≡ Doing job Faulted))
passing (Doing job Waited) stray task e = inl (job, refl)
passing (Doing job Faulted) stray task e = inr (job, refl)
passing (Doing job Data) stray task e = absurd (apart (engine_is_ahead_at job Data task) (engine_word_for job task) e)
  where
    apart : (ahead : Bool) (word : Option ℕ) → engine_data_cue ahead word ≡ Some Pass → ⊥
    apart true word e = cc
    apart false (Some word) e = cc
    apart false None e = cc
passing x stray task e = absurd (cc)

module _ (list : List Access) (answers : List Answer) where
  turned_by : (e f : Engine) (cue : Cue) (seen : ℕ) (calls : List Call) → engine_state_is_of false e.state ≡ true
      → IsTaskInList list answers e.task → EngineKnowsCalls list answers e calls → engine_cue e ≡ Some cue
      → EngineTookReply cue seen e f → EngineKnowsCalls list answers f (record { cue = cue; seen = seen } ∷ calls)
  turned_by e f (CueAsk q) seen calls on here h asks saw =
      let a : IsEngineAsking e.state e.task q = engine_at_ask e.state e.stray e.task q asks in
      let sees : EngineSeesAck seen e f = saw.sees in
      let job : engine_job e.state ≡ a.job = ap engine_job a.at in
      let begun : f.begun ≡ max e.begun (engine_job_starts a.job e.task) =
      sees.begun ∙ ap (λ j. max e.begun (engine_job_starts j e.task)) job in
      let before : EngineBetween list answers e.begun (engine_stage a.job e.task) calls =
      subst (λ x. EngineKnowsAt list answers x e.task e.begun e.ahead calls) a.at h in
      knows_as list answers f e.task f.begun _ sees.task refl
      (subst (λ r. EngineKnowsAt list answers f.state e.task f.begun f.ahead
      (record { cue = CueAsk r; seen = seen } ∷ calls)) (sym a.is)
      (subst (λ x. EngineKnowsAt list answers x e.task f.begun f.ahead
      (record { cue = CueAsk (engine_request_for a.job e.task); seen = seen } ∷ calls))
      (sym (sees.state ∙ ap (λ j. engine_state_after_ack j seen) job))
      (ask_knows list answers a.job e.task e.begun f.begun seen f.ahead calls here (omega (arith, begun))
      (omega (arith, begun)) before)))
  turned_by e f Take seen calls on here h asks took =
      let p : IsEngineTaking e.state e.task = engine_at_take e.state e.stray e.task asks in
      let job : engine_job e.state ≡ p.job = ap engine_job p.at in
      let own : engine_job_is_of false p.job ≡ true = state_job e.state p.job Data p.at on in
      knows_as list answers f e.task _ _ took.lands.task took.lands.begun
      (taken_knows list answers p.job e.task e.aims e.bursts e.begun seen f.ahead calls f.state here own p.reads
      p.ahead_not
      (subst (λ j. EngineGoesTo (engine_after_read j (data_phase_word seen) e.task e.aims e.bursts) f.state) job
      (took.goes (ap (engine_job_is_of false) job ∙ own)))
      (subst (λ j. EngineRestsWith (engine_ahead_to j e.task) f.state f.ahead) job took.rests)
      (subst (λ x. EngineKnowsAt list answers x e.task e.begun e.ahead calls) p.at h))
  turned_by e f (Give bits) seen calls on here h asks did =
      let p : IsEngineGiving e.state e.task bits = engine_at_give e.state e.stray e.task bits asks in
      knows_as list answers f e.task _ _ did.lands.task did.lands.begun
      (subst (λ b. EngineKnowsAt list answers f.state e.task (engine_begun_left f.state e.task e.begun) f.ahead
      (record { cue = Give b; seen = seen } ∷ calls)) (sym p.sends)
      (given_knows list answers p.job e.task e.begun p.gives seen f.ahead calls f.state here
      (state_job e.state p.job Data p.at on) p.is
      (subst (λ x. EngineGoesTo (engine_after_cue x e.task) f.state) p.at did.goes)
      (subst (λ x. EngineKnowsAt list answers x e.task e.begun e.ahead calls) p.at h)))
  turned_by e f Pass seen calls on here h asks did =
      elim (passing e.state e.stray e.task asks) [
        | inl at ↦ knows_as list answers f e.task _ _ did.lands.task did.lands.begun
            (waited_knows list answers at.0 e.task e.begun seen f.ahead f.ahead calls f.state
            (subst (λ x. EngineGoesTo (engine_after_cue x e.task) f.state) at.1 did.goes) (λ rests. refl)
            (subst (λ x. EngineKnowsAt list answers x e.task e.begun e.ahead calls) at.1 h))
        | inr at ↦ knows_as list answers f e.task _ _ did.lands.task did.lands.begun
            (faulted_knows list answers at.0 e.task e.begun seen f.ahead f.ahead calls f.state
            (state_job e.state at.0 Faulted at.1 on)
            (subst (λ x. EngineGoesTo (engine_after_cue x e.task) f.state) at.1 did.goes) (λ rests. refl)
            (subst (λ x. EngineKnowsAt list answers x e.task e.begun e.ahead calls) at.1 h))
      ]
  turned_by e f (Lead ones undriven switch low) seen calls on here h asks did =
      absurd (leading e.state e.stray e.task ones undriven switch low on asks) where
        leading : (x : State) (stray : Bool) (task : Task) (ones undriven : ℕ) (switch : Bool) (low : ℕ)
            → engine_state_is_of false x ≡ true → engine_cue_at x stray task ≡ Some (Lead ones undriven switch low) → ⊥
        leading x stray task ones undriven switch low on e = grind arith

  -- the calls of an access
  pub turns_know : (e f : Engine) (past calls : List Call) → engine_state_is_of false e.state ≡ true
      → IsTaskInList list answers e.task → EngineKnowsCalls list answers e past → EngineTurns e calls f
      → (engine_state_is_of false f.state ≡ true) × (f.task ≡ e.task) × EngineKnowsCalls list answers f (calls ++ past)
  turns_know e f past [] on here h same = (
    ap (λ (x : Engine). engine_state_is_of false x.state) same ∙ on,
    ap (λ (x : Engine). x.task) same,
    subst (λ x. EngineKnowsCalls list answers x past) (sym same) h,
  )
  turns_know e f past (call ∷ calls) on here h (g, turns, turned) =
      let before = turns_know e g past calls on here h turns in (
        (engine_turn_works call g f turned).part false before.0,
        (engine_turn_works call g f turned).task ∙ before.1,
        turned_by g f call.cue call.seen (calls ++ past) before.0
            (subst (λ t. IsTaskInList list answers t) (sym before.1) here) before.2 turned.cue turned.replied,
      )

-- THE NUMBER OF REQUESTS
counts_by : (e f : Engine) (cue : Cue) (seen n : ℕ) → e.requests ≡ n → EngineTookReply cue seen e f
    → f.requests ≡ (if is_port_ask cue then engine_count_more n else n)
counts_by e f (CueAsk q) seen n is saw = saw.requests ∙ ap engine_count_more is
counts_by e f cue seen n is replied = (engine_lands_by cue seen e f refl replied).requests ∙ is

-- the engine counts the requests of its calls
pub engine_turns_counted : (e f : Engine) (past calls : List Call) → e.requests ≡ engine_counted past
    → EngineTurns e calls f → f.requests ≡ engine_counted (calls ++ past)
engine_turns_counted e f past [] is same = ap (λ (x : Engine). x.requests) same ∙ is
engine_turns_counted e f past (call ∷ calls) is (g, turns, turned) =
    counts_by g f call.cue call.seen (engine_counted (calls ++ past)) (engine_turns_counted e g past calls is turns)
    turned.replied

-- THE OPENING
not_drw : (job : Job) (task : Task) → engine_job_is_of true job ≡ true
    → host_asks_drw (CueAsk (engine_request_for job task)) ≡ false
not_drw job task h = grind arith

opening_cue : (e : Engine) (cue : Cue) → engine_state_is_of true e.state ≡ true → engine_cue e ≡ Some cue
    → host_asks_drw cue ≡ false
opening_cue e (CueAsk q) on asks =
    let a : IsEngineAsking e.state e.task q = engine_at_ask e.state e.stray e.task q asks in
    ap (λ r. host_asks_drw (CueAsk r)) a.is ∙ not_drw a.job e.task (sym (ap (engine_state_is_of true) a.at) ∙ on)
opening_cue e cue on asks = refl

seen_moves : (job : Job) (v : ℕ) → engine_is_rested (engine_state_after_ack job v) ≡ false
seen_moves job v = grind arith

sent_moves : (x : State) (task : Task) → engine_is_rested (engine_after_cue x task) ≡ false
sent_moves x task = grind arith

rested_goes : (x : State) → engine_is_rested x ≡ true → engine_is_stopped x ≡ false
rested_goes x h = grind arith

opening_ahead : (x : State) (task : Task) → engine_state_is_of true x ≡ true
    → engine_ahead_to (engine_job x) task ≡ Unsent
opening_ahead x task h = grind arith

did_moves : (x y : State) (task : Task) → EngineGoesTo (engine_after_cue x task) y → engine_is_rested y ≡ true → ⊥
did_moves x y task goes rested =
    let same : y ≡ engine_after_cue x task = goes (rested_goes y rested) in
    let both : true ≡ false = sym rested ∙ (ap engine_is_rested same ∙ sent_moves x task) in absurd (cc)

-- where the opening ends, nothing is known of a next access
opened_ahead : (e f : Engine) (cue : Cue) (seen : ℕ) → engine_state_is_of true e.state ≡ true
    → EngineTookReply cue seen e f → EngineRestsWith Unsent f.state f.ahead
opened_ahead e f (CueAsk q) seen on saw rested =
    absurd (let both : true ≡ false = sym rested ∙ (ap engine_is_rested saw.sees.state ∙ seen_moves _ seen) in cc)
opened_ahead e f Take seen on took rested = took.rests rested ∙ opening_ahead e.state e.task on
opened_ahead e f (Give bits) seen on did rested = absurd (did_moves e.state f.state e.task did.goes rested)
opened_ahead e f Pass seen on did rested = absurd (did_moves e.state f.state e.task did.goes rested)
opened_ahead e f (Lead ones undriven switch low) seen on did rested =
    absurd (did_moves e.state f.state e.task did.goes rested)

-- what is known along the opening
pub record OpeningCalls (list : List Access) (e : Engine) (calls : List Call) : Type 0 where
  pub on : engine_state_is_of true e.state ≡ true
  pub ahead : EngineRestsWith Unsent e.state e.ahead
  pub none : host_awaits_drw calls ≡ false
  pub since : HostSince
  pub sent : HostSent list [] 0 0 since calls

unasked : (b : Bool) (c : Bool) → b ≡ false → (b && c) ≡ false
unasked b c h = ap (λ x. x && c) h

-- the calls of an opening
pub opening_turns_calls : (list : List Access) (e f : Engine) (calls : List Call)
    → engine_state_is_of true e.state ≡ true
    → engine_is_rested e.state ≡ false → EngineTurns e calls f → OpeningCalls list f calls
opening_turns_calls list e f [] on moves same = record {
  on = ap (λ (x : Engine). engine_state_is_of true x.state) same ∙ on;
  ahead = λ rested.
      absurd (let both : true ≡ false = sym rested ∙ (ap (λ (x : Engine). engine_is_rested x.state) same ∙ moves) in
      cc);
  none = refl;
  since = Quiet;
  sent = none;
}
opening_turns_calls list e f (call ∷ calls) on moves (g, turns, turned) =
    let before : OpeningCalls list g calls = opening_turns_calls list e g calls on moves turns in record {
      on = (engine_turn_works call g f turned).part true before.on;
      ahead = opened_ahead g f call.cue call.seen before.on turned.replied;
      none = unasked (host_asks_drw call.cue) _ (opening_cue g call.cue before.on turned.cue);
      since = host_since_after_call call before.since;
      sent = other call before.none (λ k. (engine_none_settled 0 before.since refl, refl)) before.sent;
    }

-- an opening that came to its end
pub opening_counts : (list : List Access) (kind : Bursts) (again : Bool) (tries : ℕ) (e f : Engine) (calls : List Call)
    → EngineIsNew kind again tries e → EngineTurns e calls f → f.state ≡ Resting Opened
    → EngineCountsCalls list [] f calls
opening_counts list kind again tries e f calls new turns at =
    let opens : OpeningCalls list f calls =
    opening_turns_calls list e f calls (ap (engine_state_is_of true) new.leads) (ap engine_is_rested new.leads) turns in
    let nil : calls ++ [] ≡ calls = append-nil calls in
    record {
      requests = engine_turns_counted e f [] calls new.requests turns ∙ ap engine_counted nil;
      makes = (opening_turns_make list kind again tries e f calls new turns).makes;
      goes_on = (opening_turns_make list kind again tries e f calls new turns).goes_on;
      settles = settles_any f.bursts calls (λ other. let c : EngineConfirms f calls =
          opening_turns_confirm list kind again tries e f calls new turns in record {
            each = c.each;
            none = c.sure (ap engine_may_await at);
          });
      rests = subst (λ x. EngineCallsAtRestIn (engine_is_ahead_in x f.task) list [] f.ahead f.task calls) (sym at)
          (subst (λ a. EngineAccessEnded list [] a f.task calls) (sym (opens.ahead (ap engine_is_rested at)))
          (record {
            none = opens.none;
            goes_on = λ k. absurd (cc);
            stood = record {
              sent = 0;
              sure = 0;
              since = opens.since;
              at = (refl, refl);
              few = omega arith;
              is = opens.sent;
            };
          }));
    }

-- an opening that stopped
pub opening_stop_sent : (list : List Access) (kind : Bursts) (again : Bool) (tries : ℕ) (e f : Engine) (end : End)
    (calls : List Call) → EngineIsNew kind again tries e → EngineTurns e calls f → f.state ≡ Resting (Stopped end)
    → EngineEndsWithCalls list [] f end calls
opening_stop_sent list kind again tries e f end calls new turns at =
    let opens : OpeningCalls list f calls =
    opening_turns_calls list e f calls (ap (engine_state_is_of true) new.leads) (ap engine_is_rested new.leads) turns in
    record {
      requests = engine_turns_counted e f [] calls new.requests turns ∙ ap engine_counted (append-nil calls);
      stood = record { sent = 0; sure = 0; since = opens.since; at = tt; few = omega arith; is = opens.sent };
      makes = (opening_turns_make list kind again tries e f calls new turns).makes;
      idles = λ whole. absurd (let never : engine_stops_at_all f.state ≡ false =
          engine_turns_never e f calls (ap engine_stops_at_all new.leads) turns in
          let both : true ≡ false = sym (ap (λ x. engine_stops_at_all (Resting (Stopped x))) whole)
          ∙ (ap engine_stops_at_all (sym at) ∙ never) in cc);
      confirms = confirms_any f.bursts calls
          (λ other. (opening_turns_confirm list kind again tries e f calls new turns).each);
    }

-- AN ACCESS FROM ITS START
next_written : (task : Task) (kind : Bursts) (a : Access) (following : Option Access) → is_burst_write task ≡ true
    → continues_burst (access_of_task task) (Some a) ≡ true → task_drw_register (task_for kind a following) ≡ DrwWrite
next_written task kind a following h on = grind arith

module _ (list : List Access) (answers : List Answer) where
  first_knows : (given : Bool) (ahead : Ahead) (aims : Bool) (before task : Task) (b : ℕ) (calls : List Call)
      → (given ≡ true → is_burst before ≡ true) → (given ≡ true → task_drw_register task ≡ DrwWrite)
      → b ≡ bit (is_burst before && not (not given && engine_ahead_failed ahead)) → IsTaskInList list answers task
      → EngineCallsAtRestIn given list answers ahead before calls
      → EngineKnowsAt list answers (engine_first_state given ahead aims) task b Unsent calls
  first_knows true ahead aims before task b calls burst writes begun here (earlier, asked, h) = record {
    earlier = earlier;
    asked = asked ∙ ap (λ r. host_okay r ∷ earlier) (sym (writes refl));
    begun = let on : is_burst before ≡ true = burst refl in
        let one : b ≡ 1 = begun ∙ ap (λ x. bit (x && true)) on in omega arith;
    stood = record {
      sent = h.sent;
      sure = h.sure;
      since = h.since;
      at = (omega (arith, h.few), h.at, engine_none_settled h.sent h.since (omega (arith, h.few)));
      few = omega (arith, h.few);
      is = h.is;
    };
  }
  first_knows false NextSent aims before task b calls burst writes begun here h =
      let on : is_burst before ≡ true = block_task_is_burst before (h.goes_on refl) in
      let one : b ≡ 1 = begun ∙ ap (λ x. bit (x && true)) on in
      let s = h.stood in record {
        none = h.none;
        stood = record {
          sent = s.sent;
          sure = s.sure;
          since = s.since;
          at = (s.at.0, s.at.1, s.at.2);
          few = omega (arith, s.at.0);
          is = s.is;
        };
      }
  first_knows false NextFailed aims before task b calls burst writes begun here h =
      let s = h.stood in record {
        none = h.none;
        goes_on = λ k. absurd (cc);
        stood = record {
          sent = 0;
          sure = 0;
          since = Quiet;
          at = (refl, refl);
          few = omega arith;
          is = fault (access_of_task task) 0 here.has
              (sent_as list answers s.sent s.sure 1 0 s.since Fails _ s.at.0 s.at.1 s.at.2 s.is);
        };
      }
  first_knows false Unsent true before task b calls burst writes begun here h =
      let s = h.stood in record {
        none = h.none;
        stood = record {
          sent = s.sent;
          sure = s.sure;
          since = s.since;
          at = (omega (arith, s.at.0), s.at.1, engine_none_settled s.sent s.since s.at.0);
          few = omega (arith, s.at.0);
          is = s.is;
        };
      }
  first_knows false Unsent false before task b calls burst writes begun here h =
      let s = h.stood in record {
        none = h.none;
        stood = record {
          sent = s.sent;
          sure = s.sure;
          since = s.since;
          at = (omega (arith, s.at.0), s.at.1, engine_none_settled s.sent s.since s.at.0);
          few = omega (arith, s.at.0);
          is = s.is;
        };
      }

  -- an access begins where the engine rests
  pub start_knows : (a : Access) (following : Option Access) (e g : Engine) (calls : List Call)
      → EngineStarts a following e g → EngineContinuesBurst e a → IsTaskInList list answers g.task
      → EngineCallsAtRest list answers e calls → EngineKnowsCalls list answers g calls
  start_knows a following e g calls starts chain here h =
      subst (λ x. EngineKnowsAt list answers x g.task g.begun g.ahead calls) (sym starts.state)
      (subst (λ x. EngineKnowsAt list answers (engine_first_state (engine_is_ahead e) e.ahead g.aims) g.task g.begun x
      calls) (sym starts.ahead) (first_knows (engine_is_ahead e) e.ahead g.aims e.task g.task g.begun calls
      (λ on. engine_ahead_burst e.state e.task on)
      (λ on. ap task_drw_register starts.task ∙ next_written e.task e.bursts a _ (engine_ahead_write e.state e.task on)
      (chain.on on))
      starts.begun here h))

  -- the access is answered
  pub answered_rests : (x : State) (task : Task) (b : ℕ) (ahead : Ahead) (calls : List Call) (answer : Answer)
      → engine_outcome_at x task ≡ Some (Answered answer) → EngineKnowsAt list answers x task b ahead calls
      → EngineCallsAtRestIn (engine_is_ahead_in x task) list (answers ++ answer ∷ []) ahead task calls
  answered_rests (Resting (Answered was)) task b ahead calls answer is h =
      let same : was ≡ answer = cc in subst (λ a. EngineAccessEnded list (answers ++ a ∷ []) ahead task calls) same h
  answered_rests (Doing (At Confirm) Data) (BurstWrite at word) b ahead calls answer is h =
      let same : Written ≡ answer = cc in
      (h.earlier, h.asked, subst (λ a. EngineStood list (answers ++ a ∷ []) 0 (λ s c f. c ≡ 0) calls) same h.stood)
  answered_rests x task b ahead calls answer is h = absurd (cc)
