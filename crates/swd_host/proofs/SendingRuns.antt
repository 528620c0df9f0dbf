-- What is reported of a list matches what was sent: along the list, and for the whole run.
use Rattle.swd_host.specs.Tasks.{resumed_bursts}
use Rattle.swd_host.proofs.EventRequests.{event_requests_most}
use Rattle.swd_host.proofs.Words.{event_requests}
use Rattle.swd_host.proofs.Words.{◌≡◌, ◌≢◌, ◌+◌, ◌*◌, ◌^◌, ◌<◌, ◌≤◌, ◌++◌, ◌∷◌, [], ℕ, Bool, true, false, refl, sym, ap}
use Rattle.swd_host.proofs.Words.{subst, inr, arith, ◌∙◌, List, length, get_or, Option, Some, None, if◌then◌else◌}
use Rattle.swd_host.proofs.Words.{Access, Answer, Answered, Stopped, Task, Resting, End, All, Engine, Bursts, Port}
use Rattle.swd_host.proofs.Words.{access_of_task, engine_is_ahead, engine_is_ahead_in, task_is_block, is_burst}
use Rattle.swd_host.proofs.Words.{engine_outcome, engine_next_failed, task_for, engine_count_more, EngineStarts}
use Rattle.swd_host.proofs.Words.{HostNextAccess, Closes, HostReport, engine_report, engine_begun}
use Rattle.std.proofs.lemmas.List.{append_assoc, get_or_default}
use Rattle.std.proofs.lemmas.List.Recursion.{is_count_by}
use Rattle.std.proofs.Math.Seq.{drop-append_seam}
use Rattle.std.proofs.Math.Nat.{mul-le-mul_right}
use Rattle.std.proofs.Common.{length-drop}
use Rattle.std.specs.Prelude.{count_by, max, min, drop, ◌-◌}
use Rattle.swd_port.specs.declared.access.Access.TheVariants.{Read, Write}
use Rattle.swd_port.specs.declared.call.Call.{Call}
use Rattle.swd_port.specs.declared.wire.Due.{Due}
use Rattle.swd_port.specs.Steps.{is_port_ask}
use Rattle.swd_host.specs.Calls.{EngineTurns, EngineTurnsFrom, host_idle_call}
use Rattle.swd_host.specs.Again.{ResumeCloses, resume_own_report}
use Rattle.swd_host.specs.Resuming.{host_end_is_all, resume_report}
use Rattle.swd_port.specs.PlainMemory.{plain_address}
use Rattle.swd_host.specs.Sent.{HostSent, HostListHasAccess, HostListHasAddress, HostReportsCalls, other}
use Rattle.swd_host.specs.Stages.{EngineStood, EngineKnowsAt, EngineKnowsCalls, EngineCallsAtRestIn, engine_counted}
use Rattle.swd_host.specs.Stages.{EngineCountsCalls, EngineEndsWithCalls, EngineListCalls, engine_most_begun_at}
use Rattle.swd_host.specs.Standing.{EngineStays}
use Rattle.swd_host.specs.declared.engine.Ahead.{Ahead}
use Rattle.swd_host.specs.declared.engine.Ahead.TheVariants.{Unsent}
use Rattle.swd_host.proofs.Starts.{block_task_is_burst, single_task_not_ahead, same_access, start_access}
use Rattle.swd_host.proofs.Alone.{burst_next_access, last_task_not_burst}
use Rattle.swd_host.proofs.SendingStages.{IsTaskInList}
use Rattle.swd_host.proofs.SendingWords.{EngineMakes, engine_knows_awaits, engine_turns_make}
use Rattle.swd_host.specs.declared.task.Bursts.TheVariants.{Writes}
use Rattle.swd_host.specs.Confirming.{HostSettled, HostConfirms}
use Rattle.swd_host.proofs.Words.{is_burst_write}
use Rattle.swd_host.proofs.Confirming.{EngineConfirms, engine_turns_confirm, confirms_any, settles_any, settled_of}
use Rattle.swd_host.proofs.Confirming.{answered_sure, turns_bursts, never_burst}
use Rattle.swd_host.proofs.SendingTurns.{answered_rests, start_knows, engine_turns_counted, turns_know}

none_follows : (kind : Bursts) (a : Access) → task_is_block (task_for kind a None) ≡ true → ⊥
none_follows kind a h = grind arith

no_write : (kind : Bursts) (a : Access) (at word : ℕ) → task_is_block (task_for kind a (Some (Write at word))) ≡ true
    → ⊥
no_write kind a at word h = grind arith

-- a read of a block is followed by a read
block_follower : (kind : Bursts) (a : Access) (following : Option Access)
    → task_is_block (task_for kind a following) ≡ true → (at : ℕ) × (following ≡ Some (Read at))
block_follower kind a None h = absurd (none_follows kind a h)
block_follower kind a (Some (Read at)) h = (at, refl)
block_follower kind a (Some (Write at word)) h = absurd (no_write kind a at word h)

kept_following : (failed : Bool) (following : Option Access) (a : Access)
    → (if failed then None else following) ≡ Some a → following ≡ Some a
kept_following true following a h = absurd (cc)
kept_following false following a h = h

module _ (i : ℕ) (list : List Access) (o e g f : Engine) (answers : List Answer) (t : Port) (d : Access)
    (following : Option Access) (stays : EngineStays i list o e answers t) (low : i < length list)
    (starts : EngineStarts (get_or list i d) following e g)
    (next : (b : Access) → following ≡ Some b → HostNextAccess i list b) where
  here : IsTaskInList list answers g.task
  here = record {
    has = subst (λ n. HostListHasAccess list n (access_of_task g.task)) (sym stays.number)
        (subst (λ a. HostListHasAccess list i a) (sym (same_access (get_or list i d) following e g starts))
        (low, get_or_default list i (get_or list i d) d low));
    next = λ block. (
        let follower = block_follower e.bursts (get_or list i d) (if engine_next_failed e then None else following)
        (ap task_is_block (sym starts.task) ∙ block) in
        let follows : HostNextAccess i list (Read follower.0) =
        next (Read follower.0) (kept_following (engine_next_failed e) following (Read follower.0) follower.1) in (
          follower.0,
          subst (λ n. HostListHasAccess list (n + 1) (Read follower.0)) (sym stays.number)
              (follows.number, follows.same (Read follower.0)),
        ));
  }

  -- TAR's word is the address of the access in hand
  listed : HostListHasAddress list (plain_address (access_of_task g.task))
  listed = record { place = length answers; access = access_of_task g.task; has = here.has; is = refl }

  known : (past calls : List Call) → EngineCountsCalls list answers e past → EngineTurns g calls f
      → (f.requests ≡ engine_counted (calls ++ past)) × EngineKnowsCalls list answers f (calls ++ past)
      × EngineMakes list f (calls ++ past)
  known past calls h turns =
      let knows : EngineKnowsCalls list answers g past =
      start_knows list answers (get_or list i d) following e g past starts
      (burst_next_access i list o e answers t d stays) here h.rests in (
        engine_turns_counted g f past calls (starts.requests ∙ h.requests) turns,
        (turns_know list answers g f past calls (start_access (get_or list i d) following e g starts) here knows
            turns).2,
        (engine_turns_make list g f past calls (λ none. listed) (record {
          awaits = engine_knows_awaits list answers g.state g.task g.begun g.ahead past knows;
          makes = h.makes;
          goes_on = h.goes_on;
        }) turns).1,
      )

  -- no DRW write is unconfirmed where a write to an access port is asked, but in bursts of writes
  confirmed : (past calls : List Call) → EngineCountsCalls list answers e past → EngineTurns g calls f
      → e.bursts ≢ Writes → EngineConfirms f (calls ++ past)
  confirmed past calls h turns apart =
      let settled : HostSettled past = settled_of e.bursts past apart h.settles in
      let knows : EngineKnowsCalls list answers g past =
      start_knows list answers (get_or list i d) following e g past starts
      (burst_next_access i list o e answers t d stays) here h.rests in
      (engine_turns_confirm g f past calls (ap is_burst_write starts.task
      ∙ never_burst e.bursts (get_or list i d) (if engine_next_failed e then None else following) apart)
      (λ early x went. (engine_turns_make list g x past early (λ none. listed) (record {
        awaits = engine_knows_awaits list answers g.state g.task g.begun g.ahead past knows;
        makes = h.makes;
        goes_on = h.goes_on;
      }) went).1.awaits)
      (record { each = settled.each; sure = λ none. settled.none }) turns).1

  same_bursts : (calls : List Call) → EngineTurns g calls f → f.bursts ≡ e.bursts
  same_bursts calls turns = turns_bursts g f calls turns ∙ starts.bursts

  answered_counts : (answer : Answer) → engine_outcome f ≡ Some (Answered answer) → (past calls : List Call)
      → EngineCountsCalls list answers e past → EngineTurns g calls f
      → EngineCountsCalls list (answers ++ answer ∷ []) f (calls ++ past)
  answered_counts answer finished past calls h turns =
      let knows = known past calls h turns in
      record {
        requests = knows.0;
        rests = answered_rests list answers f.state f.task f.begun f.ahead (calls ++ past) answer finished knows.1;
        makes = knows.2.makes;
        goes_on = knows.2.goes_on;
        settles = settles_any f.bursts (calls ++ past) (λ apart.
            let c : EngineConfirms f (calls ++ past) =
            confirmed past calls h turns (λ w. apart (same_bursts calls turns ∙ w)) in record {
              each = c.each;
              none = c.sure (answered_sure f.state f.task answer finished);
            });
      }

  stopped_most : (end : End) → end ≢ All → (b : ℕ) → engine_most_begun_at end b ≡ b
  stopped_most All never b = absurd (never refl)
  stopped_most end never b = refl

  stopped_ends : (end : End) → f.state ≡ Resting (Stopped end) → end ≢ All → (past calls : List Call)
      → EngineCountsCalls list answers e past → EngineTurns g calls f
      → EngineEndsWithCalls list answers f end (calls ++ past)
  stopped_ends end at never past calls h turns =
      let knows = known past calls h turns in
      let begun : engine_begun f ≡ f.begun = ap (λ x. if engine_is_ahead_in x f.task then 0 else f.begun) at in
      record {
        requests = knows.0;
        stood = subst (λ n. EngineStood list answers n (λ s c z. Unit {0}) (calls ++ past))
            (sym (stopped_most end never (engine_begun f) ∙ begun))
            (subst (λ x. EngineKnowsAt list answers x f.task f.begun f.ahead (calls ++ past)) at knows.1);
        makes = knows.2.makes;
        idles = λ whole. absurd (never whole);
        confirms = confirms_any f.bursts (calls ++ past)
            (λ apart. (confirmed past calls h turns (λ w. apart (same_bursts calls turns ∙ w))).each);
      }

-- ONE ACCESS AFTER THE OTHER
-- these calls leave what is known between two accesses, behind those of the opening
abbrev pub EngineSentSoFar : List Access → List Answer → Engine → Engine → List Call → Type 0
EngineSentSoFar list answers o e calls = (past : List Call) → EngineCountsCalls list [] o past
    → EngineCountsCalls list answers e (calls ++ past)

-- an access more that is answered
pub engine_sent_answered : (i : ℕ) (list : List Access) (o e f : Engine) (answers : List Answer) (t : Port) (d : Access)
    (following : Option Access) → EngineStays i list o e answers t → i < length list
    → ((b : Access) → following ≡ Some b → HostNextAccess i list b) → (answer : Answer)
    → engine_outcome f ≡ Some (Answered answer) → (early late : List Call) → EngineSentSoFar list answers o e early
    → EngineTurnsFrom (get_or list i d) following e late f
    → EngineSentSoFar list (answers ++ answer ∷ []) o f (late ++ early)
engine_sent_answered i list o e f answers t d following stays low next answer finished early late h
    (g, starts, turns) past p =
    subst (λ l. EngineCountsCalls list (answers ++ answer ∷ []) f l) (sym (append_assoc late early past))
    (answered_counts i list o e g f answers t d following stays low starts next answer finished (early ++ past) late
    (h past p) turns)

-- an access that stopped
pub engine_sent_stopped : (i : ℕ) (list : List Access) (o e f : Engine) (answers : List Answer) (t : Port) (d : Access)
    (following : Option Access) → EngineStays i list o e answers t → i < length list
    → ((b : Access) → following ≡ Some b → HostNextAccess i list b) → (end : End)
    → f.state ≡ Resting (Stopped end) → end ≢ All → (before after : List Answer) → after ≡ before ++ answers
    → (early late : List Call) → EngineSentSoFar list answers o e early
    → EngineTurnsFrom (get_or list i d) following e late f → EngineListCalls list o f before after end (late ++ early)
engine_sent_stopped i list o e f answers t d following stays low next end at never before after added early late h
    (g, starts, turns) = record {
      answers = answers;
      added = added;
      bursts = turns_bursts g f late turns ∙ starts.bursts ∙ stays.bursts;
      ends = λ past p. subst (λ l. EngineEndsWithCalls list answers f end l) (sym (append_assoc late early past))
          (stopped_ends i list o e g f answers t d following stays low starts next end at never (early ++ past) late
          (h past p) turns);
    }

-- ALL ARE ANSWERED
last_rests : (list : List Access) (answers : List Answer) (given : Bool) (ahead : Ahead) (task : Task)
    (calls : List Call) → is_burst task ≡ false → given ≡ false
    → EngineCallsAtRestIn given list answers ahead task calls
    → EngineStood list answers 0 (λ s c f. Unit {0}) (host_idle_call ∷ calls)
last_rests list answers true ahead task calls plain none h = absurd (cc)
last_rests list answers false Unsent task calls plain none h = let s = h.stood in record {
  sent = s.sent;
  sure = s.sure;
  since = s.since;
  at = tt;
  few = omega (arith, s.at.0);
  is = other _ h.none (λ k. absurd (cc)) s.is;
}
last_rests list answers false ahead task calls plain none h =
    absurd (let both : true ≡ false = sym (block_task_is_burst task (h.goes_on refl)) ∙ plain in cc)

-- all are answered, and eight idle cycles follow
pub engine_sent_all : (i : ℕ) (list : List Access) (o e : Engine) (answers : List Answer) (t : Port)
    → EngineStays i list o e answers t → i ≡ length list → (before after : List Answer) → after ≡ before ++ answers
    → (early late : List Call) → EngineSentSoFar list answers o e early → late ≡ host_idle_call ∷ []
    → EngineListCalls list o e before after All (late ++ early)
engine_sent_all i list o e answers t stays all before after added early late h is =
    let plain : is_burst e.task ≡ false = last_task_not_burst i list o e answers t stays all in
    record {
      answers = answers;
      added = added;
      bursts = stays.bursts;
      ends = λ past p. subst (λ l. EngineEndsWithCalls list answers e All ((l ++ early) ++ past)) (sym is)
          (let counts : EngineCountsCalls list answers e (early ++ past) = h past p in
          record {
            requests = counts.requests;
            stood = last_rests list answers (engine_is_ahead e) e.ahead e.task (early ++ past) plain
                (single_task_not_ahead e.state e.task plain) counts.rests;
            makes = (inr (counts.goes_on, refl), counts.makes);
            idles = λ whole. refl;
            confirms = confirms_any e.bursts (host_idle_call ∷ (early ++ past))
                (λ apart. (λ writes. absurd (cc), (settled_of e.bursts (early ++ past) apart counts.settles).each));
          });
    }

-- THE REPORT
asks_in : List Call → ℕ
asks_in [] = 0
asks_in (call ∷ calls) = if is_port_ask call.cue then 1 + asks_in calls else asks_in calls

counted_more : (asks : Bool) (n k : ℕ) → (n < 18446744073709551615 → n ≡ k)
    → (if asks then engine_count_more n else n) < 18446744073709551615
    → (if asks then engine_count_more n else n) ≡ (if asks then 1 + k else k)
counted_more true n k rest h = grind arith
counted_more false n k rest h = rest h

asks_counted : (calls : List Call) → engine_counted calls < 18446744073709551615 → engine_counted calls ≡ asks_in calls
unfolding asks_in
asks_counted [] h = refl
asks_counted (call ∷ calls) h =
    counted_more (is_port_ask call.cue) (engine_counted calls) (asks_in calls) (asks_counted calls) h

-- the number that is counted is that of the requests, where it doesn't reach its greatest value
counted_exact : (calls : List Call) → engine_counted calls < 18446744073709551615
    → engine_counted calls ≡ count_by (λ call. is_port_ask call.cue) calls
unfolding asks_in
counted_exact calls h = asks_counted calls h
    ∙ is_count_by asks_in (λ call. is_port_ask call.cue) refl (λ call calls. refl) calls

most_few : (end : End) (b : ℕ) → engine_most_begun_at end b ≤ b
most_few All b = omega arith
most_few end b = omega arith

tells_sent : (list : List Access) (answers : List Answer) (f : Engine) (end : End) (calls : List Call)
    → f.requests < 18446744073709551615 → EngineEndsWithCalls list answers f end calls
    → HostReportsCalls list (engine_report answers f end) calls
tells_sent list answers f end calls small h = let s = h.stood in record {
  requests = h.requests ∙ counted_exact calls (omega (arith, h.requests));
  sent = s.sent;
  sure = s.sure;
  since = s.since;
  few = omega (arith, s.few, most_few end (engine_begun f));
  is = s.is;
  makes = h.makes;
  idles = h.idles;
}

-- the report of a run
pub engine_report_matches : (list : List Access) (answers : List Answer) (f : Engine) (end : End) (told : HostReport)
    (calls : List Call)
    → told ≡ engine_report answers f end → told.requests < 18446744073709551615
    → EngineEndsWithCalls list answers f end calls
    → HostReportsCalls list told calls
engine_report_matches list answers f end told calls is small h = subst (λ x. HostReportsCalls list x calls) (sym is)
    (tells_sent list answers f end calls
    (subst (λ x. x < 18446744073709551615) (ap (λ (x : HostReport). x.requests) is) small) h)

-- whatever came back, the count doesn't reach its greatest value
pub engine_requests_small : (spare : ℕ) (kind : Bursts) (list : List Access) (tries : ℕ) (told : HostReport)
    (due : Due) → spare ≤ 5 → length list ≤ 65536 → tries < 2 ^ 32 → Closes spare kind list tries told due
    → told.requests < 18446744073709551615
engine_requests_small spare kind list tries told due few short small h =
    let n : ℕ = min (length list) (length told.answers + 1) in
    let most : n ≤ 65536 = omega arith in
    let product : n * (6 + event_requests kind * tries) ≤ 65536 * (6 + event_requests kind * tries) =
    mul-le-mul_right (6 + event_requests kind * tries) most in
    omega (arith, h.spends, event_requests_most kind tries)

-- what is confirmed before the next write, by the kind of the engine that the list began with
pub list_confirms : (list : List Access) (kind : Bursts) (o f : Engine) (before after : List Answer) (end : End)
    (past made : List Call) → o.bursts ≡ kind → EngineCountsCalls list [] o past
    → EngineListCalls list o f before after end made → HostConfirms kind (made ++ past)
list_confirms list kind o f before after end past made same counts h =
    subst (λ b. HostConfirms b (made ++ past)) (h.bursts ∙ same) (h.ends past counts).confirms

-- GOING ON
most_after : (end : End) (b k : ℕ) → engine_most_begun_at end b ≤ (if host_end_is_all end then 0 else max b k)
most_after All b k = omega arith
most_after end b k = omega arith

-- the report of a call that went on
pub resumed_report_sent : (rest : List Access) (earlier raw told : HostReport) (answers : List Answer) (f : Engine)
    (end : End) (calls : List Call) → told ≡ resume_report raw earlier
    → raw ≡ engine_report (earlier.answers ++ answers) f end
    → told.requests < 18446744073709551615 → EngineEndsWithCalls rest answers f end calls
    → HostReportsCalls rest (resume_own_report earlier told told.begun) calls
resumed_report_sent rest earlier raw told answers f end calls is by small h =
    let whole : told ≡ resume_report (engine_report (earlier.answers ++ answers) f end) earlier =
    is ∙ ap (λ x. resume_report x earlier) by in
    let few : f.requests < 18446744073709551615 =
    subst (λ (x : HostReport). x.requests < 18446744073709551615) whole small in
    let sent : HostReportsCalls rest (engine_report answers f end) calls = tells_sent rest answers f end calls few h in
    subst (λ (x : HostReport). HostReportsCalls rest (resume_own_report earlier x x.begun) calls) (sym whole) (record {
      requests = sent.requests;
      sent = h.stood.sent;
      sure = h.stood.sure;
      since = h.stood.since;
      few = omega (
        arith,
        h.stood.few,
        most_after end (engine_begun f)
            (earlier.begun - (length (earlier.answers ++ answers) - length earlier.answers)),
      );
      is = subst (λ l. HostSent rest l h.stood.sent h.stood.sure h.stood.since calls)
          (sym (drop-append_seam earlier.answers answers)) h.stood.is;
      makes = h.makes;
      idles = h.idles;
    })

-- the same of a call that goes on
pub resumed_requests_small : (kind : Bursts) (list : List Access) (tries : ℕ) (earlier told : HostReport) (due : Due)
    → length list ≤ 65536
    → tries < 2 ^ 32 → ResumeCloses kind list tries earlier told due → told.requests < 18446744073709551615
resumed_requests_small kind list tries earlier told due short small h =
    engine_requests_small 5 (resumed_bursts kind) (drop (length earlier.answers) list) tries
    (resume_own_report earlier told h.own) due (omega arith)
    (omega (arith, length-drop (length earlier.answers) list)) small h.closes
