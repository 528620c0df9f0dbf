-- What a run tells that was resumed at lost acknowledgements.
use Rattle.std.proofs.Common.{◌≡◌, ℕ, zero, suc, ◌+◌, ◌-◌, ◌*◌, ◌<◌, ◌≤◌, ◌∙◌, List, [], ◌∷◌, ◌++◌, length, take, drop}
use Rattle.std.proofs.Common.{min, Bool, false, true, refl, sym, ap, subst, inl, inr, arith}
use Rattle.std.proofs.lemmas.List.{length-append, length-drop, length-take-le, take-append-le, take_all}
use Rattle.std.specs.Prelude.{◌↔◌, ◌≢◌, max, if◌then◌else◌}
use Rattle.swd_port.specs.declared.access.Access.{Access}
use Rattle.swd_port.specs.declared.access.Answer.{Answer}
use Rattle.swd_port.specs.declared.wire.Wire.{Ghosts}
use Rattle.swd_port.specs.declared.mark.Mark.{Mark}
use Rattle.swd_port.specs.declared.wire.Due.TheVariants.{Lost as DueLost}
use Rattle.swd_port.specs.Bus.{Bus, bus_after}
use Rattle.swd_port.specs.Port.{Port}
use Rattle.swd_port.specs.Choices.{Choice, IsPortChoice}
use Rattle.swd_port.specs.MarkCounts.{port_disturbed_among, port_lost_among}
use Rattle.swd_port.specs.Completion.{port_completed}
use Rattle.swd_port.specs.Becoming.{MayBecome}
use Rattle.swd_port.proofs.CompletionLaws.{port_may_become_of_none}
use Rattle.swd_recorder.specs.Steps.{recorded_due_count}
use Rattle.swd_host.specs.declared.outcome.End.{End}
use Rattle.swd_host.specs.declared.outcome.End.TheVariants.{All, Lost, TriesOut, WrongId, Confused}
use Rattle.swd_port.specs.PlainBus.{plain_words_of}
use Rattle.swd_host.specs.Plain.{answers_of}
use Rattle.swd_host.specs.PlainRuns.{IsPlainWithRoom}
use Rattle.swd_host.specs.Reports.{HostReport, HostEndsAt, HostIsOpen, host_due_at_end, FitsFrom, Fits, IsAtRest}
use Rattle.swd_host.specs.Reports.{HostKnowsTarget, host_most_requests}
use Rattle.swd_host.specs.declared.task.Bursts.{Bursts}
use Rattle.swd_host.specs.Tasks.{resumed_bursts}
use Rattle.swd_host.specs.Bursts.{bursts_limit, event_requests}
use Rattle.swd_host.proofs.EventRequests.{event_requests_sum}
use Rattle.swd_host.specs.Again.{Again, ResumeCloses, ResumeFits, resume_added, resume_own_report}
use Rattle.swd_host.specs.Resuming.{host_end_is_all, resume_begun}
use Rattle.swd_host.specs.Chains.{ResumeChain, AreBlockReads, first as first_call, again as next_call}
use Rattle.swd_host.specs.Chains.{resume_chain_first_begun as first_begun}
use Rattle.swd_host.proofs.Chains.{resume_target_known, resume_chain_repeats}
use Rattle.swd_host.proofs.ReadChains.{resume_chain_reads}
use Rattle.swd_script.specs.Scripts.{ScriptListed}
use Rattle.swd_run.specs.declared.going_on.Stop.{Stop}
use Rattle.swd_run.specs.declared.limits.Limits.{Limits}
use Rattle.swd_run.specs.GoingOn.{ScriptCallsFrom, ran, resumed, script_stop_of, script_stops_of}
use Rattle.swd_run.specs.GoingOn.{script_requests_before, script_chain_calls, script_chain_last, script_most_resumed}
use Rattle.swd_run.specs.GoingOn.{script_resumed_bursts}
use Rattle.swd_run.specs.GoingOn.{IsScriptCall, AreScriptCalls, script_answered_first, script_begun_first}
use Rattle.swd_run.specs.GoingOn.{ScriptCallsInTurn, ScriptCallsAgain, ScriptCallsOfReads, ScriptCallsReport}
use Rattle.swd_run.specs.Running.{IsRunExcused, RunsOn}
use Rattle.swd_run.specs.Sessions.{batch_bursts, ScriptRun, RunsBatchFrom}
use Rattle.swd_run.specs.Starts.{ScriptCallCloses, ScriptCallFits, ScriptStarts, script_most_requests}
use Rattle.swd_run.specs.Starts.{script_opening_requests}
use Rattle.swd_run.proofs.RunLemmas.{script_run_end_due, script_run_end_excused, batch_run_under_plan}

-- ---- lists

one_more : {X : Type 0} (xs : List X) (x : X) → length (xs ++ x ∷ []) ≡ length xs + 1
one_more xs x = length-append xs (x ∷ [])

-- a list has as many answers of the plain memory as it has accesses
pub script_calls_answer_count : (list : List Access) (m : Bus) → length (answers_of list m) ≡ length list
script_calls_answer_count [] m = refl
script_calls_answer_count (a ∷ list) m = ap (λ n. suc n) (script_calls_answer_count list (bus_after a m))

requests_more : (stops : List Stop) (stop : Stop)
    → script_requests_before (stops ++ stop ∷ []) ≡ script_requests_before stops + stop.requests
requests_more [] stop = omega arith
requests_more (first ∷ stops) stop = let h = requests_more stops stop in omega (arith, h)

-- ---- one call

lost_at : (ended : End) (tries : ℕ) (s t : Port) → ended ≡ Lost → HostEndsAt ended tries s t
    → s.tally.lost < t.tally.lost
lost_at ended tries s t is e = (subst (λ x. HostEndsAt x tries s t) is e).1

open_at : (ended : End) (tries : ℕ) (s t : Port) → ended ≡ All → HostEndsAt ended tries s t → HostIsOpen t
open_at ended tries s t is e = subst (λ x. HostEndsAt x tries s t) is e

spends_first : (most : ℕ → ℕ) (n a r : ℕ) → r ≤ most (min n (a + 1)) → r ≤ most (min (n - 0) (a - 0 + 1))
spends_first most n a r h =
    let e : n ≡ n - 0 = omega arith in
    let f : a ≡ a - 0 = omega arith in
    subst (λ x. r ≤ most (min x (a - 0 + 1))) e (subst (λ y. r ≤ most (min n (y + 1))) f h)

-- what a run tells as begun, it began itself
open_first : (ended : End) (begun answered : ℕ) → (begun ≢ 0 → ended ≢ All)
    → begun ≡ if host_end_is_all ended then 0 else max begun (0 - (answered - 0))
open_first All zero answered never = refl
open_first All (suc n) answered never = absurd (never (λ none. absurd (omega (arith, none))) refl)
open_first Lost begun answered never = omega arith
open_first TriesOut begun answered never = omega arith
open_first (WrongId word) begun answered never = omega arith
open_first Confused begun answered never = omega arith

-- a run
call_ran : (opened : Bool) (kind : Bursts) (tries : ℕ) (list : List Access) (m : Bus) (told : HostReport) (now : Bus)
    (due : _)
    → ScriptCallCloses opened kind list tries told due
    → FitsFrom (script_opening_requests opened) (bursts_limit kind) list m told now
    → IsScriptCall (script_opening_requests opened) (script_most_requests opened kind tries) (bursts_limit kind)
    (length list) 0 0
    (length told.answers) told.begun told.requests told.ended
call_ran opened kind tries list m told now due closes (k, fit) =
    let many : length told.answers ≡ k =
    ap length fit.answers ∙ script_calls_answer_count (take k list) m ∙ length-take-le k list fit.reported in
    record {
      grows = omega arith;
      number = closes.number;
      whole = closes.whole;
      own = told.begun;
      few = closes.begun;
      unanswered = open_first told.ended told.begun (length told.answers) (λ some. (fit.begun some).1);
      begins = λ some. let h = (fit.begun some).2 in omega (arith, h, many);
      spends = spends_first (script_most_requests opened kind tries) (length list) (length told.answers) told.requests
          closes.spends;
    }

abbrev any : Choice
any = record {
  address = 0;
  filler = 0;
  others = 0;
  elsewhere = 0;
  refuses = false;
  debug_late = false;
  system_late = false;
}

is_any : IsPortChoice any
is_any = record { address = omega arith; filler = omega arith; others = omega arith; elsewhere = omega arith }

-- the bus may become what a pending transfer leaves
became : (t : Port) → MayBecome t (port_completed any t).target.memory
unfolding MayBecome
became t = inr (any, is_any, refl)

-- what holds of the bus as it is, and of what each choice leaves, holds of each that it may become
became_either : (P : Bus → Type 0) (t : Port) (now : Bus) → MayBecome t now → P t.target.memory
    → ((c : Choice) → P (port_completed c t).target.memory) → P now
unfolding MayBecome
became_either P t now (inl given) here later = subst P (sym given.1) here
became_either P t now (inr (c, legal, is)) here later = subst P (sym is) (later c)

-- going on
call_resumed : (kind : Bursts) (tries : ℕ) (list : List Access) (earlier told : HostReport) (due : _) (s t : Port)
    → ResumeCloses (script_resumed_bursts kind) list tries earlier told due
    → ResumeFits (script_resumed_bursts kind) list tries earlier told s t
    → IsScriptCall 9 (script_most_resumed kind tries) 1 (length list) (length earlier.answers) earlier.begun
    (length told.answers) told.begun told.requests told.ended
call_resumed kind tries list earlier told due s t goes fits =
    let added : List Answer = resume_added earlier told in
    let many : length told.answers ≡ length earlier.answers + length added =
    ap length goes.kept ∙ length-append earlier.answers added in
    let rest : length (drop (length earlier.answers) list) ≡ length list - length earlier.answers =
    length-drop (length earlier.answers) list in
    let number = goes.number in
    let new : length added ≡ length told.answers - length earlier.answers = omega (arith, many) in
    let from = fits.goes (port_completed any t).target.memory (became t) in
    let fit = from.fits.1 in
    let told_many : length added ≡ from.fits.0 =
    ap length fit.answers ∙ script_calls_answer_count (take from.fits.0 (drop (length earlier.answers) list))
    from.before ∙ length-take-le from.fits.0 (drop (length earlier.answers) list) fit.reported in
    record {
      grows = omega (arith, many);
      number = goes.number;
      whole = λ all. let h = goes.closes.whole all in omega (arith, h, many, rest, number);
      own = fits.own;
      few = fit.few;
      unanswered = fits.begun;
      begins = λ some. let h = (fit.begun some).2 in omega (arith, h, told_many, new);
      spends = subst (λ x. told.requests ≤ 5 + host_most_requests (resumed_bursts (script_resumed_bursts kind)) tries
          (min x (length told.answers - length earlier.answers + 1))) rest
          (subst (λ y. told.requests ≤ 5 + host_most_requests (resumed_bursts (script_resumed_bursts kind)) tries
          (min (length (drop (length earlier.answers) list)) (y + 1))) new goes.closes.spends);
    }

calls_more : (opening : ℕ) (most : ℕ → ℕ) (limit : ℕ) (again : ℕ → ℕ) (n from left : ℕ) (stops : List Stop)
    (earlier told : HostReport) → earlier.ended ≡ Lost
    → AreScriptCalls opening most limit again n from left stops earlier
    → IsScriptCall 9 again 1 n (length earlier.answers) earlier.begun (length told.answers)
    told.begun told.requests told.ended
    → AreScriptCalls opening most limit again n from left (stops ++ script_stop_of earlier ∷ []) told
calls_more opening most limit again n from left [] earlier told lost calls call = (
  subst (λ x. IsScriptCall opening most limit n from left (length earlier.answers) earlier.begun earlier.requests x)
      lost calls,
  call,
)
calls_more opening most limit again n from left (stop ∷ stops) earlier told lost calls call = (
  calls.0,
  calls_more 9 again 1 again n stop.answered stop.begun stops earlier told lost calls.1 call,
)

answered_same : (stops : List Stop) (earlier told : HostReport)
    → script_answered_first (stops ++ script_stop_of earlier ∷ []) told ≡ script_answered_first stops earlier
answered_same [] earlier told = refl
answered_same (stop ∷ stops) earlier told = refl

-- the requests of the disturbances since a moment, by a bound of all
pub events_within : (kind : Bursts) (later earlier d : ℕ) → later ≤ d
    → event_requests kind * (later - earlier) ≤ event_requests kind * d
events_within kind later earlier d few =
    let h = event_requests_sum kind (later - earlier) 0 d (omega (arith, few)) in omega (arith, h)

most_more : (base q r k x : ℕ) → q ≤ base + k * x → r ≤ x → q + r ≤ base + (k + 1) * x
most_more base q r k x h l = omega (arith, h, l)

-- ---- all calls

-- whatever came back
module _ {W : Type 0} (wire : Ghosts W) {opened : Bool} (kind : Bursts)
    (list : List Access) (tries : ℕ) (s : W)
  where
    -- what is due after a run is what its end says
    pub due_after : (stops : List Stop) (told : HostReport) (t : W)
        → ScriptCallsFrom wire opened kind list tries s stops told t
        → (wire.port t).link.due ≡ host_due_at_end told.ended
    due_after stops told t (ran same closes over says) = closes.due
    due_after stops told t (resumed went lost same goes over says) = goes.closes.due

    -- so it was lawful from the start
    pub law_before : (stops : List Stop) (told : HostReport) (t : W)
        → ScriptCallsFrom wire opened kind list tries s stops told t → wire.lawful t → wire.lawful s
    law_before stops told t (ran same closes over says) law = (over law).0
    law_before stops told t (resumed {stops = before} {earlier = e} {t = u} went lost same goes over says) law =
        law_before before e u went (over law).0

    -- a run and its resumed calls don't change the plan
    pub plan_kept : (stops : List Stop) (told : HostReport) (t : W)
        → ScriptCallsFrom wire opened kind list tries s stops told t → wire.plan t ≡ wire.plan s
    plan_kept stops told t (ran same closes over says) = same
    plan_kept stops told t (resumed went lost same goes over says) = same

-- ---- the calls, as `ResumeChain` counts them

-- requests of an opening, which weren't sent, are added
fits_with_opening : (limit : ℕ) (list : List Access) (m : Bus) (told : HostReport) (now : Bus)
    → FitsFrom 0 limit list m told now → Fits limit list m (record told { requests = 9 + told.requests }) now
fits_with_opening limit list m told now (k, fit) = (
  k,
  record {
    reported = fit.reported;
    answers = fit.answers;
    memory = fit.memory;
    few = fit.few;
    begun = λ some. (let h = fit.begun some in let sent = h.2 in (h.0, h.1, omega (arith, sent)));
    all = fit.all;
  },
)

chain_first : (opened : Bool) (limit : ℕ) (list : List Access) (m : Bus) (told : HostReport) (now : Bus)
    → FitsFrom (script_opening_requests opened) limit list m told now
    → ResumeChain limit list m (script_chain_calls opened []) (script_chain_last opened [] told) now
chain_first false limit list m told now fits = first_call fits
chain_first true limit list m told now fits = first_call (fits_with_opening limit list m told now fits)

chain_more : (opened : Bool) (limit : ℕ) (list : List Access) (m : Bus) (calls : List HostReport)
    (earlier told : HostReport) (before now : Bus)
    → ResumeChain limit list m (script_chain_calls opened calls) (script_chain_last opened calls earlier) before
    → (own : ℕ) → told.answers ≡ earlier.answers ++ resume_added earlier told
    → told.begun ≡ resume_begun earlier told own
    → Fits 1 (drop (length earlier.answers) list) before (resume_own_report earlier told own) now
    → ResumeChain limit list m (script_chain_calls opened (calls ++ earlier ∷ []))
    (script_chain_last opened (calls ++ earlier ∷ []) told) now
chain_more false limit list m calls earlier told before now chain own kept begun fits =
    next_call chain own kept begun fits
chain_more true limit list m [] earlier told before now chain own kept begun fits =
    next_call chain own kept begun fits
chain_more true limit list m (call ∷ calls) earlier told before now chain own kept begun fits =
    next_call chain own kept begun fits

chain_many : (opened : Bool) (calls : List HostReport) → length (script_chain_calls opened calls) ≡ length calls
chain_many false calls = refl
chain_many true [] = refl
chain_many true (call ∷ calls) = refl

chain_begun : (opened : Bool) (calls : List HostReport) (told : HostReport)
    → first_begun (script_chain_calls opened calls) (script_chain_last opened calls told) ≡ first_begun calls told
chain_begun false calls told = refl
chain_begun true [] told = refl
chain_begun true (call ∷ calls) told = refl

-- what an added opening doesn't change
chain_again : (opened : Bool) (calls : List HostReport) (told : HostReport) (places : List ℕ) (list : List Access)
    (m now : Bus) → Again places list m (script_chain_last opened calls told) now → Again places list m told now
chain_again false calls told places list m now again = again
chain_again true [] told places list m now (k, at) = (
  k,
  record {
    reported = at.reported;
    answers = at.answers;
    memory = at.memory;
    few = at.few;
    begun = at.begun;
    all = at.all;
  },
)
chain_again true (call ∷ calls) told places list m now again = again

chain_answers : (opened : Bool) (calls : List HostReport) (told : HostReport)
    → (script_chain_last opened calls told).answers ≡ told.answers
chain_answers false calls told = refl
chain_answers true [] told = refl
chain_answers true (call ∷ calls) told = refl

chain_ended : (opened : Bool) (calls : List HostReport) (told : HostReport)
    → (script_chain_last opened calls told).ended ≡ told.ended
chain_ended false calls told = refl
chain_ended true [] told = refl
chain_ended true (call ∷ calls) told = refl

-- the calls, and what each of them told
record InTurn (opened : Bool) (limit : ℕ) (list : List Access) (m : Bus) (stops : List Stop) (told : HostReport)
    (t : Port) : Type 0
  where
    calls : List HostReport
    are : stops ≡ script_stops_of calls
    chained : (now : Bus) → MayBecome t now
        → ResumeChain limit list m (script_chain_calls opened calls) (script_chain_last opened calls told) now

stops_more : (calls : List HostReport) (told : HostReport)
    → script_stops_of (calls ++ told ∷ []) ≡ script_stops_of calls ++ script_stop_of told ∷ []
stops_more [] told = refl
stops_more (call ∷ calls) told = ap (λ l. script_stop_of call ∷ l) (stops_more calls told)

stops_many : (calls : List HostReport) → length (script_stops_of calls) ≡ length calls
stops_many [] = refl
stops_many (call ∷ calls) = ap suc (stops_many calls)

begun_there : (calls : List HostReport) (told : HostReport)
    → script_begun_first (script_stops_of calls) told ≡ first_begun calls told
begun_there [] told = refl
begun_there (call ∷ calls) told = refl

-- the memory that the last call leaves: where it ended whole, the one that is there
in_turn_at : (opened : Bool) (limit : ℕ) (list : List Access) (m : Bus) (stops : List Stop) (told : HostReport)
    (t : Port) (ended : End) → told.ended ≡ ended → (told.ended ≡ All → IsAtRest t)
    → InTurn opened limit list m stops told t → ScriptCallsInTurn opened limit stops list m told t.target.memory
in_turn_at opened limit list m stops told t ended is at_rest h = by ended is
  where
    early : (told.ended ≡ All → ⊥) → ScriptCallsInTurn opened limit stops list m told t.target.memory
    early never = record {
      calls = h.calls;
      are = h.are;
      memory = (port_completed any t).target.memory;
      chain = h.chained (port_completed any t).target.memory (became t);
      left = λ all. absurd (never all);
    }

    by : (x : End) → told.ended ≡ x → ScriptCallsInTurn opened limit stops list m told t.target.memory
    by All all = record {
      calls = h.calls;
      are = h.are;
      memory = t.target.memory;
      chain = h.chained t.target.memory (port_may_become_of_none.same t (at_rest all).settled);
      left = λ all. refl;
    }
    by Lost x = early (λ all. absurd cc)
    by TriesOut x = early (λ all. absurd cc)
    by (WrongId word) x = early (λ all. absurd cc)
    by Confused x = early (λ all. absurd cc)

again_in_turn : (opened : Bool) (limit : ℕ) (list : List Access) (m : Bus) (stops : List Stop) (told : HostReport)
    (after : Bus)
    → ScriptCallsInTurn opened limit stops list m told after → script_begun_first stops told ≤ 1
    → IsPlainWithRoom (length stops) list m → ScriptCallsAgain stops list m told after
again_in_turn opened limit list m stops told after h few room =
    let many : length stops ≡ length (script_chain_calls opened h.calls) =
    ap length h.are ∙ stops_many h.calls ∙ sym (chain_many opened h.calls) in
    let begun : script_begun_first stops told
    ≡ first_begun (script_chain_calls opened h.calls) (script_chain_last opened h.calls told) =
    ap (λ l. script_begun_first l told) h.are ∙ begun_there h.calls told ∙ sym (chain_begun opened h.calls told) in
    let r = resume_chain_repeats limit list m (script_chain_calls opened h.calls)
    (script_chain_last opened h.calls told) h.memory (omega (arith, few, begun))
    (record { plain = room.plain; room = omega (arith, room.room, many) }) h.chain in
    let r_few = r.few in
    record {
      places = r.places;
      few = omega (arith, r_few, many);
      memory = h.memory;
      again = chain_again opened h.calls told r.places list m h.memory r.again;
      left = h.left;
      words = λ all. ap plain_words_of (sym (h.left all)) ∙ r.words (chain_ended opened h.calls told ∙ all);
    }

reads_in_turn : (opened : Bool) (limit : ℕ) (list : List Access) (m : Bus) (stops : List Stop) (told : HostReport)
    (after : Bus)
    → ScriptCallsInTurn opened limit stops list m told after → 1 ≤ limit → AreBlockReads list
    → ScriptCallsOfReads limit stops list m told after
reads_in_turn opened limit list m stops told after h some reads =
    let many : length stops ≡ length (script_chain_calls opened h.calls) =
    ap length h.are ∙ stops_many h.calls ∙ sym (chain_many opened h.calls) in
    let r = resume_chain_reads limit list m (script_chain_calls opened h.calls)
    (script_chain_last opened h.calls told) h.memory some reads h.chain in
    record {
      answers = λ room. subst (λ (l : List Answer). l ≡ answers_of (take (length l) list) m)
          (chain_answers opened h.calls told)
          (r.answers (record { plain = room.plain; room = omega (arith, room.room, many) }));
      words = λ plain all. ap plain_words_of (sym (h.left all)) ∙ r.words plain;
    }

module _ {W : Type 0} (wire : Ghosts W) {opened : Bool} (kind : Bursts)
    (list : List Access) (tries : ℕ) (s : W) (starts : ScriptStarts opened (wire.port s)) where
  known : (stops : List Stop) (told : HostReport) (t : W) → ScriptCallsFrom wire opened kind list tries s stops told t
      → wire.lawful t → HostKnowsTarget (wire.port t).target
  known stops told t (ran {told = a} {t = u} same closes over says) law =
      resume_target_known a.ended tries (wire.port s) (wire.port u) ((over law).1 starts).ends
  known stops told t (resumed {stops = before} {earlier = e} {told = a} {t = u} {u = v} went lost same goes over says)
      law =
      resume_target_known a.ended tries (wire.port u) (wire.port v)
      ((over law).1 (known before e u went (over law).0)).ends

  -- over a lawful wire, from a target at rest, the count of requests grows by the requests of all calls
  pub asked : (stops : List Stop) (told : HostReport) (t : W)
      → ScriptCallsFrom wire opened kind list tries s stops told t → wire.lawful t
      → (wire.port t).tally.asked ≡ (wire.port s).tally.asked + (script_requests_before stops + told.requests)
  asked stops told t (ran {told = a} {t = u} same closes over says) law = let h = ((over law).1 starts).counted in omega
      (arith, h)
  asked stops told t (resumed {stops = before} {earlier = e} {told = a} {t = u} {u = v} went lost same goes over says)
      law =
      let h = asked before e u went (over law).0 in
      let c = ((over law).1 (known before e u went (over law).0)).counted in
      let r = requests_more before (script_stop_of e) in
      omega (arith, h, c, r)

  -- over a lawful wire, from a target at rest, no transaction is incomplete after all calls, and a line reset is due
  -- exactly if the last one ended `Lost`
  pub ending : (stops : List Stop) (told : HostReport) (t : W)
      → ScriptCallsFrom wire opened kind list tries s stops told t → wire.lawful t
      → (recorded_due_count (wire.port t).link.due ≡ 0) × (((wire.port t).link.due ≡ DueLost) ↔ (told.ended ≡ Lost))
  ending stops told t (ran {told = a} {t = u} same closes over says) law = script_run_end_due a.ended tries
      (wire.port s) (wire.port u)
      ((over law).1 starts).ends
  ending stops told t (resumed {stops = before} {earlier = e} {told = a} {t = u} {u = v} went lost same goes over says)
      law =
      script_run_end_due a.ended tries (wire.port u) (wire.port v)
      ((over law).1 (known before e u went (over law).0)).ends

  lost_more : (stops : List Stop) (told : HostReport) (t : W)
      → ScriptCallsFrom wire opened kind list tries s stops told t → wire.lawful t → told.ended ≡ Lost
      → (wire.port s).tally.lost + length stops < (wire.port t).tally.lost
  lost_more stops told t (ran {told = a} {t = u} same closes over says) law is =
      let h = lost_at a.ended tries (wire.port s) (wire.port u) is ((over law).1 starts).ends in omega (arith, h)
  lost_more stops told t (resumed {stops = before} {earlier = e} {told = a} {t = u} {u = v} went lost same goes over
      says)
      law is =
      let h = lost_more before e u went (over law).0 lost in
      let g = lost_at a.ended tries (wire.port u) (wire.port v) is
      ((over law).1 (known before e u went (over law).0)).ends in
      let l = one_more before (script_stop_of e) in
      omega (arith, h, g, l)

  calls : (stops : List Stop) (told : HostReport) (t : W) → ScriptCallsFrom wire opened kind list tries s stops told t
      → wire.lawful t → AreScriptCalls (script_opening_requests opened) (script_most_requests opened kind tries)
      (bursts_limit kind) (script_most_resumed kind tries) (length list) 0 0 stops told
  calls stops told t (ran {told = a} {t = u} same closes over says) law =
      call_ran opened kind tries list (wire.port s).target.memory a (wire.port u).target.memory _ closes
      ((over law).1 starts).now
  calls stops told t (resumed {stops = before} {earlier = e} {told = a} {t = u} {u = v} went lost same goes over says)
      law =
      calls_more (script_opening_requests opened) (script_most_requests opened kind tries) (bursts_limit kind)
      (script_most_resumed kind tries) (length list) 0 0 before e a lost (calls before e u went (over law).0)
      (call_resumed kind tries list e a _ (wire.port u) (wire.port v) goes
      ((over law).1 (known before e u went (over law).0)))

  first_within : (stops : List Stop) (told : HostReport) (t : W)
      → ScriptCallsFrom wire opened kind list tries s stops told t
      → script_answered_first stops told ≤ length told.answers
  first_within stops told t (ran same closes over says) = omega arith
  first_within stops told t
      (resumed {stops = before} {earlier = e} {told = a} {t = u} {u = v} went lost same goes over says) =
      let h = first_within before e u went in
      let f = answered_same before e a in
      let l = ap length goes.kept ∙ length-append e.answers (resume_added e a) in
      omega (arith, h, f, l)

  first_answers : (stops : List Stop) (told : HostReport) (t : W)
      → ScriptCallsFrom wire opened kind list tries s stops told t → wire.lawful t
      → take (script_answered_first stops told) told.answers ≡ answers_of (take (script_answered_first stops told) list)
      (wire.port s).target.memory
  first_answers stops told t (ran {told = a} {t = u} same closes over says) law = whole ((over law).1 starts).now
    where
      m : Bus
      m = (wire.port s).target.memory

      whole : FitsFrom (script_opening_requests opened) (bursts_limit kind) list m a (wire.port u).target.memory
          → take (length a.answers) a.answers ≡ answers_of (take (length a.answers) list) m
      whole (k, fit) =
          let many : length a.answers ≡ k = ap length fit.answers ∙ script_calls_answer_count (take k list) m
          ∙ length-take-le k list fit.reported in
          take_all (length a.answers) a.answers (omega arith) ∙ fit.answers
          ∙ ap (λ n. answers_of (take n list) m) (sym many)
  first_answers stops told t
      (resumed {stops = before} {earlier = e} {told = a} {t = u} {u = v} went lost same goes over says) law =
      let m : Bus = (wire.port s).target.memory in
      let f = answered_same before e a in
      ap (λ n. take n a.answers) f ∙ ap (λ l. take (script_answered_first before e) l) goes.kept
      ∙ take-append-le (script_answered_first before e) e.answers (resume_added e a) (first_within before e u went)
      ∙ first_answers before e u went (over law).0 ∙ ap (λ n. answers_of (take n list) m) (sym f)

  in_turn : (stops : List Stop) (told : HostReport) (t : W)
      → ScriptCallsFrom wire opened kind list tries s stops told t → wire.lawful t
      → InTurn opened (bursts_limit kind) list (wire.port s).target.memory stops told (wire.port t)
  in_turn stops told t (ran {told = a} {t = u} same closes over says) law = record {
    calls = [];
    are = refl;
    chained = λ now may. chain_first opened (bursts_limit kind) list (wire.port s).target.memory a now
        (became_either
        (FitsFrom (script_opening_requests opened) (bursts_limit kind) list (wire.port s).target.memory a)
        (wire.port u) now may ((over law).1 starts).now ((over law).1 starts).later);
  }
  in_turn stops told t (resumed {stops = before} {earlier = e} {told = a} {t = u} {u = v} went lost same goes over says)
      law
      =
      let h = in_turn before e u went (over law).0 in
      let fits = (over law).1 (known before e u went (over law).0) in
      record {
        calls = h.calls ++ e ∷ [];
        are = ap (λ l. l ++ script_stop_of e ∷ []) h.are ∙ sym (stops_more h.calls e);
        chained = λ now may. (let from = fits.goes now may in
            chain_more opened (bursts_limit kind) list (wire.port s).target.memory h.calls e a from.before now
            (h.chained from.before from.comes) fits.own goes.kept fits.begun from.fits);
      }

  -- a run that ended all leaves the target open
  pub opens : (stops : List Stop) (told : HostReport) (t : W)
      → ScriptCallsFrom wire opened kind list tries s stops told t → wire.lawful t
      → told.ended ≡ All → HostIsOpen (wire.port t)
  opens stops told t (ran {told = a} {t = u} same closes over says) law all =
      open_at a.ended tries (wire.port s) (wire.port u) all ((over law).1 starts).ends
  opens stops told t (resumed {stops = before} {earlier = e} {told = a} {t = u} {u = v} went lost same goes over says)
      law
      all =
      open_at a.ended tries (wire.port u) (wire.port v) all ((over law).1 (known before e u went (over law).0)).ends

  -- so it is at rest
  pub rests : (stops : List Stop) (told : HostReport) (t : W)
      → ScriptCallsFrom wire opened kind list tries s stops told t → wire.lawful t
      → told.ended ≡ All → IsAtRest (wire.port t)
  rests stops told t went law all = (opens stops told t went law all).0

  told_in_turn : (stops : List Stop) (told : HostReport) (t : W)
      → ScriptCallsFrom wire opened kind list tries s stops told t
      → wire.lawful t → ScriptCallsInTurn opened (bursts_limit kind) stops list (wire.port s).target.memory told
      (wire.port t).target.memory
  told_in_turn stops told t went law =
      in_turn_at opened (bursts_limit kind) list (wire.port s).target.memory stops told (wire.port t) told.ended refl
      (rests stops told t went law) (in_turn stops told t went law)

  -- over a lawful wire, from a target at rest, the reports of the calls state what `ScriptCallsReport` says of the
  -- plain memory
  pub tell_of : (stops : List Stop) (told : HostReport) (t : W)
      → ScriptCallsFrom wire opened kind list tries s stops told t → wire.lawful t
      → ScriptCallsReport opened kind tries list (wire.port s).target.memory stops told (wire.port t).target.memory
  tell_of stops told t went law = record {
    calls = calls stops told t went law;
    first = first_answers stops told t went law;
    turns = told_in_turn stops told t went law;
    again = again_in_turn opened (bursts_limit kind) list (wire.port s).target.memory stops told
        (wire.port t).target.memory
        (told_in_turn stops told t went law);
    reads = reads_in_turn opened (bursts_limit kind) list (wire.port s).target.memory stops told
        (wire.port t).target.memory
        (told_in_turn stops told t went law);
  }

  -- it was never resumed
  pub alone : (stops : List Stop) (told : HostReport) (t : W)
      → ScriptCallsFrom wire opened kind list tries s stops told t → wire.lawful t → stops ≡ []
      → ScriptCallCloses opened kind list tries told (wire.port t).link.due
      × ScriptCallFits opened kind list tries told (wire.port s) (wire.port t)
  alone stops told t (ran same closes over says) law none = (closes, (over law).1)
  alone stops told t (resumed {stops = before} {earlier = e} went lost same goes over says) law none =
      let l = one_more before (script_stop_of e) in let z = ap length none in absurd (omega (arith, l, z))

  -- under a plan of so many marks that disturb and lose
  module _ (marks : List Mark)
      (bounded : (w : W) → wire.plan w ≡ wire.plan s → ((wire.port w).tally.disturbed ≤ port_disturbed_among marks)
      × ((wire.port w).tally.lost ≤ port_lost_among marks)) where
    pub excused_by : (stops : List Stop) (told : HostReport) (t : W)
        → ScriptCallsFrom wire opened kind list tries s stops told t → wire.lawful t
        → IsRunExcused told.ended tries marks
    excused_by stops told t (ran {told = a} {t = u} same closes over says) law =
        script_run_end_excused a.ended tries marks (wire.port s) (wire.port u) (bounded u same).0 (bounded u same).1
        ((over law).1 starts).ends
    excused_by stops told t (resumed {stops = before} {earlier = e} {told = a} {t = u} {u = v} went lost same goes over
        says)
        law =
        script_run_end_excused a.ended tries marks (wire.port u) (wire.port v) (bounded v same).0 (bounded v same).1
        ((over law).1 (known before e u went (over law).0)).ends

    pub stops_lost : (stops : List Stop) (told : HostReport) (t : W)
        → ScriptCallsFrom wire opened kind list tries s stops told t → wire.lawful t
        → length stops ≤ port_lost_among marks
    stops_lost stops told t (ran same closes over says) law = omega arith
    stops_lost stops told t (resumed {stops = before} {earlier = e} {told = a} {t = u} {u = v} went lost same goes over
        says)
        law =
        let h = lost_more before e u went (over law).0 lost in
        let b = (bounded u (plan_kept wire kind list tries s before e u went)).1 in
        let l = one_more before (script_stop_of e) in
        omega (arith, h, b, l)

    pub last_lost : (stops : List Stop) (told : HostReport) (t : W)
        → ScriptCallsFrom wire opened kind list tries s stops told t → wire.lawful t
        → told.ended ≡ Lost → length stops < port_lost_among marks
    last_lost stops told t went law is =
        let h = lost_more stops told t went law is in
        let b = (bounded t (plan_kept wire kind list tries s stops told t went)).1 in
        omega (arith, h, b)

    pub sends_most : (stops : List Stop) (told : HostReport) (t : W)
        → ScriptCallsFrom wire opened kind list tries s stops told t → wire.lawful t
        → script_requests_before stops + told.requests ≤ script_opening_requests opened + 6 * length list
        + event_requests kind * port_disturbed_among marks
        + length stops * (14 + 6 * length list
        + event_requests (resumed_bursts (script_resumed_bursts kind)) * port_disturbed_among marks)
    sends_most stops told t (ran {told = a} {t = u} same closes over says) law =
        let h = ((over law).1 starts).most in
        let b = (bounded u same).0 in
        let most = events_within kind (wire.port u).tally.disturbed (wire.port s).tally.disturbed
        (port_disturbed_among marks) b in
        omega (arith, h, most)
    sends_most stops told t (resumed {stops = before} {earlier = e} {told = a} {t = u} {u = v} went lost same goes over
        says)
        law =
        let again : Bursts = resumed_bursts (script_resumed_bursts kind) in
        let x : ℕ = 14 + 6 * length list + event_requests again * port_disturbed_among marks in
        let base : ℕ = script_opening_requests opened + 6 * length list
        + event_requests kind * port_disturbed_among marks in
        let h = sends_most before e u went (over law).0 in
        let g = ((over law).1 (known before e u went (over law).0)).most in
        let b = (bounded v same).0 in
        let most = events_within again (wire.port v).tally.disturbed (wire.port u).tally.disturbed
        (port_disturbed_among marks) b in
        let few : a.requests ≤ x = omega (arith, g, most) in
        let r = requests_more before (script_stop_of e) in
        let sum : script_requests_before (before ++ script_stop_of e ∷ []) + a.requests ≤ base
        + (length before + 1) * x =
        subst (λ n. n + a.requests ≤ base + (length before + 1) * x) (sym r)
        (most_more base (script_requests_before before + e.requests) a.requests (length before) x h few) in
        subst (λ n. script_requests_before (before ++ script_stop_of e ∷ []) + a.requests ≤ base + n * x)
        (sym (one_more before (script_stop_of e))) sum

-- ---- a run of a script

-- it ends all, where the plan loses no more than it may be resumed, and disturbs no more than the tries allow
whole_by : (ended : End) (limits : Limits) (marks : List Mark) → IsRunExcused ended limits.tries marks
    → (ended ≡ Lost → limits.resumes < port_lost_among marks) → port_lost_among marks ≤ limits.resumes
    → port_disturbed_among marks ≤ limits.tries → ended ≡ All
whole_by All limits marks e last lost few = refl
whole_by Lost limits marks e last lost few = let h = last refl in absurd (omega (arith, h, lost))
whole_by TriesOut limits marks e last lost few = absurd (omega (arith, e, few))
whole_by (WrongId word) limits marks e last lost few = absurd e
whole_by Confused limits marks e last lost few = absurd e

-- a run over a target at rest or open, under a plan of these marks
module _ {W : Type 0} (wire : Ghosts W) (opened : Bool)
    (limits : Limits) (batch : ScriptListed) (marks : List Mark) (run : ScriptRun) (s t : W)
    (starts : ScriptStarts opened (wire.port s)) (law : wire.lawful t)
    (goes : RunsBatchFrom wire opened (batch_bursts limits.bursts batch) limits batch s run t) where
  -- over a lawful wire, from a target at rest and under a plan, a run that may be resumed states what `RunsOn` says
  -- of the plain memory
  pub runs_on : wire.plan s ≡ marks
      → ((w : W) → wire.plan w ≡ marks → ((wire.port w).tally.disturbed ≤ port_disturbed_among marks)
      × ((wire.port w).tally.lost ≤ port_lost_among marks))
      → RunsOn opened limits batch (wire.port s).target.memory marks run.stops run.told
      (wire.port t).target.memory
  runs_on planned marked =
      let stops : List Stop = run.stops in
      let told : HostReport = run.told in
      let n : Bursts = batch_bursts limits.bursts batch in
      let list : List Access = batch.accesses in
      let went : ScriptCallsFrom wire opened (batch_bursts limits.bursts batch) batch.accesses limits.tries s run.stops
      run.told t =
      goes.went in
      let bounded : (w : W) → wire.plan w ≡ wire.plan s → ((wire.port w).tally.disturbed ≤ port_disturbed_among marks)
      × ((wire.port w).tally.lost ≤ port_lost_among marks) =
      λ w same. marked w (same ∙ planned) in
      let planned_at : wire.plan t ≡ marks = plan_kept wire n list limits.tries s stops told t went ∙ planned in
      let at_end = marked t planned_at in
      let at_start = marked s planned in
      let excused : IsRunExcused told.ended limits.tries marks = excused_by wire n list limits.tries s starts marks
      bounded stops told t went law in
      let lost : told.ended ≡ Lost → limits.resumes < port_lost_among marks =
      λ is. (let h = last_lost wire n list limits.tries s starts marks bounded stops told t went law is in let e =
      goes.lost is in omega (arith, h, e)) in
      record {
        alone = λ none. (let (closes, over) = alone wire n list limits.tries s starts stops told t went law none in
            batch_run_under_plan opened n limits.tries batch marks told (wire.port s) (wire.port t) _ starts at_start.1
            at_end.0 at_end.1 closes over);
        tells = tell_of wire n list limits.tries s starts stops told t went law;
        few = goes.few;
        lost = stops_lost wire n list limits.tries s starts marks bounded stops told t went law;
        excused = excused;
        last = λ is. (goes.lost is, lost is);
        whole = whole_by told.ended limits marks excused lost;
        most = sends_most wire n list limits.tries s starts marks bounded stops told t went law;
      }
