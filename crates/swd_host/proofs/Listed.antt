-- From a list done over an open target to its report, which counts this list alone.
use Rattle.swd_host.proofs.EventRequests.{event_requests_most}
use Rattle.swd_host.proofs.Words.{event_requests, ◌-◌}
use Rattle.swd_host.proofs.Words.{◌≡◌, ◌+◌, ◌*◌, ◌^◌, ◌<◌, ◌≤◌, ℕ, refl, sym, ap, subst, arith, ◌∙◌, List, []}
use Rattle.swd_host.proofs.Words.{◌++◌, length, drop, Access, Answer, Bus, Due, Port, End, Engine, Bursts}
use Rattle.swd_host.proofs.Words.{bursts_limit, AreHostAccesses, HostReport, FitsFrom, HostEndsAt, HostIsOpen}
use Rattle.swd_host.proofs.Words.{ListCloses, ListsWithin, RunFitsFrom, EngineTargetIsOpen, EngineDoes, EngineDoesOver}
use Rattle.swd_host.proofs.Words.{EnginePerforms, engine_report, engine_is_ahead_in}
use Rattle.std.specs.Prelude.{min}
use Rattle.std.proofs.lemmas.List.{append-nil}
use Rattle.std.proofs.Math.Nat.{mul-le-mul_right}
use Rattle.std.proofs.Math.Seq.{drop-append_seam}
use Rattle.swd_port.specs.declared.call.Call.{Call}
use Rattle.swd_host.specs.Sent.{HostReportsCalls, none as none_sent, Quiet}
use Rattle.swd_host.specs.Stages.{EngineCallsAtRestIn, EngineAccessEnded, EngineCountsCalls}
use Rattle.swd_host.specs.Stages.{EngineEndsWithCalls, EngineListCalls}
use Rattle.swd_host.specs.Standing.{EngineIsOpened}
use Rattle.swd_host.proofs.Ends.{stops_only}
use Rattle.swd_host.proofs.Fitting.{fits_from_fewer}
use Rattle.swd_host.proofs.Confirming.{settles_any}
use Rattle.swd_host.proofs.SendingRuns.{engine_report_matches, list_confirms}
use Rattle.swd_host.specs.Confirming.{HostConfirms}

-- the answers that came after earlier ones
pub added_are : (before after answers : List Answer) → after ≡ before ++ answers → drop (length before) after ≡ answers
added_are before after answers added = ap (drop (length before)) added ∙ drop-append_seam before answers

module _ (kind : Bursts) (tries : ℕ) (list : List Access) (o f : Engine) (before after : List Answer) (end : End)
    (told : HostReport) (opened : EngineIsOpened kind tries o)
    (is : told ≡ engine_report (drop (length before) after) f end) where
  limit : bursts_limit o.bursts ≡ bursts_limit kind
  limit = ap bursts_limit opened.bursts

  same_events : event_requests o.bursts * o.tries ≡ event_requests kind * tries
  same_events = ap (λ b. event_requests b * o.tries) opened.bursts ∙ ap (λ n. event_requests kind * n) opened.tries

  -- WHATEVER CAME BACK
  raw_closes : (due : Due) → (p : EnginePerforms list o f before after end due)
      → ListCloses kind list tries (engine_report p.answers f end) due
  raw_closes due p = record {
    number = p.number;
    whole = p.whole;
    begun = omega (arith, p.begun, limit);
    due = p.due;
    spends = omega (
      arith,
      subst (λ n. f.requests ≤ o.requests + min (length list) (length p.answers + 1) * (6 + n)) same_events p.spends,
      opened.requests,
    );
  }

  -- what the report of the list states
  pub list_report_closes : (due : Due) → EnginePerforms list o f before after end due
      → ListCloses kind list tries told due
  list_report_closes due p = subst (λ x. ListCloses kind list tries x due)
      (sym (is ∙ ap (λ l. engine_report l f end) (added_are before after p.answers p.added))) (raw_closes due p)

  -- the count doesn't reach its greatest value
  list_requests_small : (due : Due) → length list ≤ 65536 → tries < 2 ^ 32
      → ListCloses kind list tries told due → told.requests < 18446744073709551615
  list_requests_small due short small h =
      let n : ℕ = min (length list) (length told.answers + 1) in
      let most : n ≤ 65536 = omega arith in
      let product : n * (6 + event_requests kind * tries) ≤ 65536 * (6 + event_requests kind * tries) =
      mul-le-mul_right (6 + event_requests kind * tries) most in
      omega (arith, h.spends, event_requests_most kind tries)

  -- before the first call of this list nothing was sent for it
  none_counted : EngineCountsCalls list [] o []
  none_counted = record {
    requests = opened.requests;
    makes = tt;
    goes_on = refl;
    settles = settles_any o.bursts [] (λ other. record { each = tt; none = refl });
    rests = subst (λ x. EngineCallsAtRestIn (engine_is_ahead_in x o.task) list [] o.ahead o.task [])
        (sym opened.has.at)
        (subst (λ a. EngineAccessEnded list [] a o.task []) (sym opened.ahead)
        (record {
          none = refl;
          goes_on = λ k. absurd (cc);
          stood = record {
            sent = 0;
            sure = 0;
            since = Quiet;
            at = (refl, refl);
            few = omega arith;
            is = none_sent;
          };
        }));
  }

  -- the report of the list has what was sent for it
  pub list_report_sent : (due : Due) → length list ≤ 65536 → tries < 2 ^ 32
      → ListCloses kind list tries told due → (made : List Call)
      → EngineListCalls list o f before after end made → HostReportsCalls list told made
  list_report_sent due short small closes made h =
      engine_report_matches list h.answers f end told made
      (is ∙ ap (λ l. engine_report l f end) (added_are before after h.answers h.added))
      (list_requests_small due short small closes)
      (subst (EngineEndsWithCalls list h.answers f end) (append-nil made) (h.ends [] none_counted))

  -- what is confirmed before the next write to an access port
  pub list_sent_confirms : (made : List Call) → EngineListCalls list o f before after end made → HostConfirms kind made
  list_sent_confirms made h = subst (HostConfirms kind) (append-nil made)
      (list_confirms list kind o f before after end [] made opened.bursts none_counted h)

  -- OVER AN OPEN TARGET
  list_target : (s : Port) → HostIsOpen s → EngineTargetIsOpen s.target.memory o s
  list_target s ready = record {
    up = record {
      calm = record {
        live = ready.1.live;
        select = ready.0.known.select;
        pending = ready.0.settled;
        memory = refl;
        sticky = ready.1.sticky_error;
      };
      debug = ready.1.debug;
      system = ready.1.system;
      debug_seen = ready.1.debug_seen;
      system_seen = ready.1.system_seen;
      increments = ready.1.increments;
    };
    odd = ready.0.known.odd;
    flag = ready.1.write_error;
    tar = opened.tar;
    ahead = opened.ahead;
  }

  list_memory_fits : (m now : Bus) (answers : List Answer)
      → FitsFrom o.requests (bursts_limit o.bursts) list m (engine_report answers f end) now
      → FitsFrom 0 (bursts_limit kind) list m (engine_report answers f end) now
  list_memory_fits m now answers h = subst (λ n. FitsFrom 0 n list m (engine_report answers f end) now) limit
      (fits_from_fewer o.requests 0 (bursts_limit o.bursts) list m (engine_report answers f end) now (omega arith) h)

  raw_runs : (s t : Port) → AreHostAccesses list → (does : EngineDoes list o f before after end s t) → HostIsOpen s
      → RunFitsFrom 0 kind list tries s.target.memory (engine_report does.answers f end) s t
  raw_runs s t ok does is_open =
      let m : Bus = s.target.memory in
      let over : EngineDoesOver list m o f does.answers end s t = does.over m (list_target s is_open) ok in
      let ends : HostEndsAt end tries s t = subst (λ n. HostEndsAt end n s t) opened.tries over.ends in
      record {
        now = list_memory_fits m t.target.memory does.answers over.now;
        later = λ c. subst (FitsFrom 0 (bursts_limit kind) list m (engine_report does.answers f end))
            (sym (over.becomes c)) (list_memory_fits m over.settled does.answers over.later);
        ends = ends;
        stops_only = stops_only end tries s t ends;
        counted = omega (arith, does.asked, opened.requests);
        least = λ whole. omega (arith, over.least whole, opened.requests);
        most = omega (
          arith,
          subst (λ b. f.requests ≤ o.requests + 6 * length list
              + event_requests b * (t.tally.disturbed - s.tally.disturbed)) opened.bursts over.most,
          opened.requests,
        );
      }

  -- the theorem of a list over an open target
  pub list_runs_within : (s t : Port) → AreHostAccesses list → EngineDoes list o f before after end s t
      → ListsWithin kind list tries told s t
  list_runs_within s t ok does is_open =
      subst (λ x. RunFitsFrom 0 kind list tries s.target.memory x s t)
      (sym (is ∙ ap (λ l. engine_report l f end) (added_are before after does.answers does.added)))
      (raw_runs s t ok does is_open)
