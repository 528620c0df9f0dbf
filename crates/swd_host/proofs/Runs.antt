-- From the opening and the list done after it to the report of a run.
use Rattle.swd_host.proofs.Words.{◌≡◌, ◌≢◌, ◌+◌, ◌%◌, ◌^◌, ◌<◌, ◌≤◌, ℕ, false, sym, ap, subst, inl, inr, arith, ◌∙◌}
use Rattle.swd_host.proofs.Words.{List, ◌*◌, ◌-◌, length, event_requests}
use Rattle.swd_host.proofs.Words.{[], ◌++◌, Access, Answer, Bus, Port, port_completed, MayBecome, End, All}
use Rattle.swd_host.proofs.Words.{Lost, Opened, Stopped, Resting, Engine, AreHostAccesses, Bursts, bursts_limit}
use Rattle.swd_host.proofs.Words.{engine_left_in, EngineDueFits, EngineResumes, EngineIsNew, EngineGoesWithPort}
use Rattle.swd_host.proofs.Words.{HostReport, Fits, FitsFrom, HostEndsAt, IsAtRest, RunFits, RunsWithin}
use Rattle.swd_host.proofs.Words.{EngineTargetIsOpen}
use Rattle.swd_host.proofs.Words.{EngineDoes, engine_report}
use Rattle.swd_port.proofs.CompletionLaws.{port_may_become_of_none}
use Rattle.swd_host.proofs.Openings.{engine_ends_since, opening_spends, opening_asked, opening_unbegun, opening_lost}
use Rattle.swd_host.proofs.Openings.{opened_sent}
use Rattle.swd_host.proofs.EventRequests.{event_requests_sum, event_requests_met, event_requests_beyond}
use Rattle.swd_host.proofs.Opened.{OpeningEnds, OpeningSucceeds, opening_counts_at, new_engine_resumes}
use Rattle.swd_host.proofs.Opened.{opening_stop_memory, opening_success_memory}
use Rattle.swd_host.proofs.Ends.{stops_only}
use Rattle.swd_host.proofs.Fitting.{fits_from_fewer}

-- WHAT A REPORT SAYS
pub host_run_equal_report : (kind : Bursts) (list : List Access) (tries : ℕ) (m : Bus) (x y : HostReport)
    (s t : Port) → y ≡ x → RunFits kind list tries m x s t → RunFits kind list tries m y s t
host_run_equal_report kind list tries m x y s t is h = subst (λ told. RunFits kind list tries m told s t) (sym is) h

run_list_fits : (f : Engine) (kind : Bursts) (list : List Access) (m : Bus) (told : HostReport) (now : Bus)
    → 9 ≤ f.requests → bursts_limit f.bursts ≡ bursts_limit kind
    → FitsFrom f.requests (bursts_limit f.bursts) list m told now → Fits (bursts_limit kind) list m told now
run_list_fits f kind list m told now sent limit h = subst (λ n. Fits n list m told now) limit
    (fits_from_fewer f.requests 9 (bursts_limit f.bursts) list m told now sent h)

-- A RUN
module _ (kind : Bursts) (list : List Access) (tries : ℕ) (e f : Engine) (answers : List Answer) (s t : Port)
    (small : tries < 2 ^ 32) (new : EngineIsNew kind false tries e) (goes : EngineGoesWithPort e s f t)
    (due : EngineDueFits f t) (none : answers ≡ []) (rest : IsAtRest s) where
  abbrev pub m : Bus
  m = s.target.memory

  first : EngineResumes (opening_counts_at s) s e s
  first = new_engine_resumes kind false tries e s new rest.known (inr rest.settled)

  resumes : EngineResumes (opening_counts_at s) s f t
  resumes = goes.resumes (opening_counts_at s) s first

  odd : t.target.identification % 2 ≡ 1
  odd = ap (λ w. w % 2) goes.later.identification ∙ rest.known.odd

  unbegun : f.begun ≡ 0
  unbegun = opening_unbegun kind false tries e f s t small new goes

  -- nothing was pending: no other memory may have come of the start
  only : (now : Bus) → MayBecome s now → now ≡ m
  only now may = port_may_become_of_none.only now s rest.settled may

  opening_fits : (now : Bus) (end : End) → end ≢ All → f.state ≡ Resting (Stopped end) → MayBecome s now
      → Fits (bursts_limit kind) list m (engine_report answers f end) now
  opening_fits now end never at may = grind (arith, only)

  -- the theorem of a run whose opening stopped, so that it did no access
  pub opening_stops : (end : End) → f.state ≡ Resting (Stopped end)
      → RunFits kind list tries m (engine_report answers f end) s t
  opening_stops end at =
      let stop : OpeningEnds end (opening_counts_at s) f.tries (s.tally.disturbed + f.events) s t =
      opening_stop_memory (opening_counts_at s) s f end t at unbegun due resumes in
      let ends : HostEndsAt end tries s t = subst (λ n. HostEndsAt end n s t) (goes.works.tries ∙ new.tries)
      (stop.ends s (omega arith) (omega arith) odd) in
      record {
        now = opening_fits t.target.memory end stop.never at (stop.now rest.settled);
        later = λ c. opening_fits (port_completed c t).target.memory end stop.never at (stop.later rest.settled c);
        ends = ends;
        stops_only = stops_only end tries s t ends;
        counted = opening_asked kind false tries e f s t small new goes;
        least = λ whole. absurd (stop.never whole);
        most = elim stop.paid [
          | inl p ↦
              (let lost : f.state ≡ Resting (Stopped Lost) = at ∙ ap (λ x. Resting (Stopped x)) p.0 in
              let early = opening_lost kind false tries e f s t small new goes (opening_counts_at s) s first lost in
              omega (
                arith,
                p.1,
                event_requests_met kind tries f.events f.requests 9 (omega (arith, early)),
                event_requests_sum kind f.events 0 (t.tally.disturbed - s.tally.disturbed) (omega (arith, p.1)),
              ))
          | inr p ↦ omega (
            arith,
            opening_spends kind false tries e f s t small new goes,
            event_requests_beyond kind tries (t.tally.disturbed - s.tally.disturbed)
                (omega (arith, p, goes.works.tries, new.tries)),
          )
        ];
      }

  -- the theorem of a run whose opening succeeded, with the result of its list
  pub list_fits : (last : Engine) (part : List Answer) (end : End) (u : Port) → f.state ≡ Resting Opened
      → (does : EngineDoes list f last answers part end t u) → AreHostAccesses list
      → RunFits kind list tries m (engine_report part last end) s u
  list_fits last part end u at does ok =
      let opened : OpeningSucceeds (s.tally.disturbed + f.events) s f t =
      opening_success_memory (opening_counts_at s) s f t at odd resumes in
      let is_open : EngineTargetIsOpen m f t =
      subst (λ x. EngineTargetIsOpen x f t) (only opened.memory opened.comes) opened.is_open in
      let over = does.over m is_open ok in
      let left : engine_left_in kind f.state ≡ 1 = ap (engine_left_in kind) at in
      let limit : bursts_limit f.bursts ≡ bursts_limit kind = ap bursts_limit (goes.works.bursts ∙ new.bursts) in
      let sent : 9 ≤ f.requests = opened_sent kind false tries e f s t small new goes at in
      let mine : part ≡ does.answers = does.added ∙ ap (λ x. x ++ does.answers) none in
      let ends : HostEndsAt end tries s u = engine_ends_since end tries s t u goes.later.disturbed goes.later.lost
      (subst (λ n. HostEndsAt end n t u) (goes.works.tries ∙ new.tries) over.ends) in
      host_run_equal_report kind list tries m (engine_report does.answers last end)
      (engine_report part last end) s u (ap (λ x. engine_report x last end) mine)
      (record {
        now = run_list_fits f kind list m (engine_report does.answers last end) u.target.memory sent limit over.now;
        later = λ c. subst (Fits (bursts_limit kind) list m (engine_report does.answers last end))
            (sym (over.becomes c))
            (run_list_fits f kind list m (engine_report does.answers last end) over.settled sent limit over.later);
        ends = ends;
        stops_only = stops_only end tries s u ends;
        counted = omega (arith, does.asked, opening_asked kind false tries e f s t small new goes);
        least = λ whole. omega (arith, over.least whole, sent);
        most =
            let spends = opening_spends kind false tries e f s t small new goes in
            let paid = opened.paid in
            let disturbed = does.later.disturbed in
            let most : last.requests ≤ f.requests + 6 * length list
            + event_requests kind * (u.tally.disturbed - t.tally.disturbed) =
            subst (λ b. last.requests ≤ f.requests + 6 * length list
            + event_requests b * (u.tally.disturbed - t.tally.disturbed)) (goes.works.bursts ∙ new.bursts) over.most in
            omega (
              arith,
              most,
              event_requests_met kind tries f.events f.requests 9 (omega (arith, spends, left)),
              event_requests_sum kind f.events (u.tally.disturbed - t.tally.disturbed)
                  (u.tally.disturbed - s.tally.disturbed) (omega arith),
            );
      })

-- by what the engine was made for
pub new_engine_runs_within : (kind : Bursts) (tries : ℕ) (list : List Access) (e : Engine) (told : HostReport)
    (s u : Port) → EngineIsNew kind false tries e → RunsWithin e.bursts list e.tries told s u
    → RunsWithin kind list tries told s u
new_engine_runs_within kind tries list e told s u new h =
    subst (λ k. RunsWithin k list tries told s u) new.bursts
    (subst (λ n. RunsWithin e.bursts list n told s u) new.tries h)
