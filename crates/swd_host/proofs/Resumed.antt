-- From the opening after a lost acknowledgement, and the list done after it, to the new report.
use Rattle.swd_host.proofs.Words.{event_requests, engine_left_in}
use Rattle.swd_host.proofs.Words.{◌≡◌, ◌+◌, ◌-◌, ◌*◌, ◌%◌, ◌^◌, ◌<◌, ◌≤◌, ℕ, true, refl, sym, ap, subst, inl, inr}
use Rattle.swd_host.proofs.Words.{arith, ◌∙◌, List, [], ◌∷◌, ◌++◌, length, take, length-append, suc, drop, Access}
use Rattle.swd_host.proofs.Words.{Answer, Bus, Due, Port, End, Lost, Opened, Stopped, Resting, Engine}
use Rattle.swd_host.proofs.Words.{bursts_limit, AreHostAccesses, engine_begun, EngineDueFits, EngineResumes}
use Rattle.swd_host.proofs.Words.{EngineIsNew, EngineGoesWithPort, HostReport, Fits, HostEndsAt, HostKnowsTarget}
use Rattle.swd_host.proofs.Words.{Closes, EngineDoes, EngineDoesOver, engine_report, resume_report, MayBecome}
use Rattle.std.proofs.lemmas.List.{take_all}
use Rattle.std.proofs.Math.Seq.{drop-append_seam, drop-length}
use Rattle.swd_host.specs.declared.task.Bursts.{Bursts}
use Rattle.swd_host.specs.Tasks.{resumed_bursts}
use Rattle.swd_host.specs.Again.{ResumeFits, ResumeCloses, resume_added, resume_own_report}
use Rattle.swd_host.proofs.Ends.{engine_stop_begun, stops_only}
use Rattle.swd_host.proofs.Opened.{OpeningEnds, OpeningSucceeds, opening_counts_at, new_engine_resumes}
use Rattle.swd_host.proofs.Opened.{opening_stop_memory, opening_success_memory}
use Rattle.swd_host.proofs.Openings.{engine_ends_since, opening_spends, opening_asked, opening_unbegun, opening_lost}
use Rattle.swd_host.proofs.Openings.{opened_sent}
use Rattle.swd_host.proofs.EventRequests.{event_requests_sum, event_requests_met, event_requests_beyond}
use Rattle.swd_host.proofs.Fitting.{fits_from_fewer}
use Rattle.swd_host.proofs.GoingOn.{resumed_rest_length}

-- LISTS
are_drop : (k : ℕ) (list : List Access) → AreHostAccesses list → AreHostAccesses (drop k list)
are_drop (suc k) (x ∷ list) h = are_drop k list h.1
are_drop _ _ h = h

unbegun : (f : Engine) (end : End) → f.state ≡ Resting (Stopped end) → f.begun ≡ 0 → engine_begun f ≡ 0
unbegun f end at none = engine_stop_begun f end at ∙ none

-- a resumed run has at most one access in flight
resumed_limit : (kind : Bursts) → bursts_limit (resumed_bursts kind) ≡ 1
resumed_limit kind = grind arith

-- THE REPORT
module _ (kind : Bursts) (list : List Access) (tries : ℕ) (earlier : HostReport) (e f : Engine) (before : List Answer)
    (s t : Port) (small : tries < 2 ^ 32) (new : EngineIsNew (resumed_bursts kind) true tries e)
    (ok : AreHostAccesses list)
    (reported : length earlier.answers ≤ length list) (known : HostKnowsTarget s.target)
    (goes : EngineGoesWithPort e s f t) (due : EngineDueFits f t) (kept : before ≡ earlier.answers) where
  odd : t.target.identification % 2 ≡ 1
  odd = ap (λ w. w % 2) goes.later.identification ∙ known.odd

  first : EngineResumes (opening_counts_at s) s e s
  first = new_engine_resumes (resumed_bursts kind) true tries e s new known (inl refl)

  resumes : EngineResumes (opening_counts_at s) s f t
  resumes = goes.resumes (opening_counts_at s) s first

  same_tries : f.tries ≡ tries
  same_tries = goes.works.tries ∙ new.tries

  -- the opening was stopped
  module _ (end : End) (at : f.state ≡ Resting (Stopped end)) where
    abbrev pub raw : HostReport
    raw = engine_report before f end

    none : raw.begun ≡ 0
    none = unbegun f end at (opening_unbegun (resumed_bursts kind) true tries e f s t small new goes)

    stop : OpeningEnds end (opening_counts_at s) f.tries (s.tally.disturbed + f.events) s t
    stop = search (arith, opening_counts_at, opening_stop_memory, opening_unbegun, resumes)

    stop_ends : HostEndsAt end tries s t
    stop_ends = subst (λ n. HostEndsAt end n s t) same_tries (stop.ends s (omega arith) (omega arith) odd)

    stop_none : resume_added earlier (resume_report raw earlier) ≡ []
    stop_none = ap (drop (length earlier.answers)) kept ∙ drop-length earlier.answers

    stop_most : f.requests ≤ 14 + 6 * length list
        + event_requests (resumed_bursts kind) * (t.tally.disturbed - s.tally.disturbed)
    stop_most = elim stop.paid [
      | inl p ↦
          (let lost : f.state ≡ Resting (Stopped Lost) = at ∙ ap (λ x. Resting (Stopped x)) p.0 in
          let few = opening_lost (resumed_bursts kind) true tries e f s t small new goes (opening_counts_at s) s first
          lost in
          omega (
            arith,
            p.1,
            event_requests_met (resumed_bursts kind) tries f.events f.requests 14 (omega (arith, few)),
            event_requests_sum (resumed_bursts kind) f.events 0 (t.tally.disturbed - s.tally.disturbed)
                (omega (arith, p.1)),
          ))
      | inr p ↦ omega (
        arith,
        opening_spends (resumed_bursts kind) true tries e f s t small new goes,
        event_requests_beyond (resumed_bursts kind) tries (t.tally.disturbed - s.tally.disturbed)
            (omega (arith, p, same_tries)),
      )
    ]

    -- nothing of the list was done
    stop_fits : (now : Bus)
        → Fits 1 (drop (length earlier.answers) list) now
        (resume_own_report earlier (resume_report raw earlier) raw.begun) now
    stop_fits now = (
      0,
      record {
        reported = omega arith;
        answers = stop_none;
        memory = (0, omega arith, refl);
        few = omega (arith, none);
        begun = λ some. absurd (some none);
        all = λ all. absurd (stop.never all);
      },
    )

    -- the theorem of `resume` for a call whose opening stopped, so that it did no access
    pub resume_stops : ResumeFits kind list tries earlier (resume_report raw earlier) s t
    resume_stops = record {
      own = raw.begun;
      begun = refl;
      goes = λ now may. record { before = now; comes = stop.comes now may; fits = stop_fits now };
      ends = stop_ends;
      stops_only = stops_only end tries s t stop_ends;
      counted = opening_asked (resumed_bursts kind) true tries e f s t small new goes;
      most = stop_most;
    }

  -- the list was done
  module _ (end : End) (last : Engine) (after : List Answer) (u : Port) (at : f.state ≡ Resting Opened)
      (does : EngineDoes (drop (length earlier.answers) list) f last before after end t u) where
    abbrev rest : List Access
    rest = drop (length earlier.answers) list

    abbrev pub told : HostReport
    told = engine_report after last end

    abbrev opened : OpeningSucceeds (s.tally.disturbed + f.events) s f t
    opened = opening_success_memory (opening_counts_at s) s f t at odd resumes

    done : EngineDoesOver rest opened.memory f last does.answers end t u
    done = does.over opened.memory opened.is_open (are_drop (length earlier.answers) list ok)

    after_is : after ≡ earlier.answers ++ does.answers
    after_is = does.added ∙ ap (λ l. l ++ does.answers) kept

    long : length rest + length earlier.answers ≡ length list
    long = resumed_rest_length (length earlier.answers) list reported

    one : bursts_limit f.bursts ≡ 1
    one = ap bursts_limit (goes.works.bursts ∙ new.bursts) ∙ resumed_limit kind

    later : Fits 1 rest opened.memory (engine_report does.answers last end) done.settled
    later = subst (λ n. Fits n rest opened.memory (engine_report does.answers last end) done.settled) one
        (fits_from_fewer f.requests 9 (bursts_limit f.bursts) rest opened.memory (engine_report does.answers last end)
        done.settled (opened_sent (resumed_bursts kind) true tries e f s t small new goes at) done.later)

    so_far : Fits 1 rest opened.memory (engine_report does.answers last end) u.target.memory
    so_far = subst (λ n. Fits n rest opened.memory (engine_report does.answers last end) u.target.memory) one
        (fits_from_fewer f.requests 9 (bursts_limit f.bursts) rest opened.memory (engine_report does.answers last end)
        u.target.memory (opened_sent (resumed_bursts kind) true tries e f s t small new goes at) done.now)

    left_opened : engine_left_in (resumed_bursts kind) f.state ≡ 1
    left_opened = ap (engine_left_in (resumed_bursts kind)) at

    done_ends : HostEndsAt end tries s u
    done_ends = grind (arith, done, engine_ends_since, same_tries)

    done_added : resume_added earlier (resume_report told earlier) ≡ does.answers
    done_added = ap (drop (length earlier.answers)) after_is ∙ drop-append_seam earlier.answers does.answers

    done_fits : (now : Bus) → MayBecome u now
        → Fits 1 rest opened.memory (resume_own_report earlier (resume_report told earlier) told.begun) now
    unfolding MayBecome
    done_fits now (inl given) =
        subst (λ x. Fits 1 rest opened.memory (resume_own_report earlier (resume_report told earlier) told.begun) x)
        (sym given.1)
        (subst (λ xs. Fits 1 rest opened.memory (engine_report xs last end) u.target.memory) (sym done_added) so_far)
    done_fits now (inr (c, i, is)) =
        subst (λ x. Fits 1 rest opened.memory (resume_own_report earlier (resume_report told earlier) told.begun) x)
        (sym (is ∙ done.becomes c))
        (subst (λ xs. Fits 1 rest opened.memory (engine_report xs last end) done.settled) (sym done_added) later)

    done_most : last.requests ≤ 14 + 6 * length list
        + event_requests (resumed_bursts kind) * (u.tally.disturbed - s.tally.disturbed)
    done_most =
        let spends = opening_spends (resumed_bursts kind) true tries e f s t small new goes in
        let paid = opened.paid in
        let disturbed = does.later.disturbed in
        let most : last.requests ≤ f.requests + 6 * length rest
        + event_requests (resumed_bursts kind) * (u.tally.disturbed - t.tally.disturbed) =
        subst (λ b. last.requests ≤ f.requests + 6 * length rest
        + event_requests b * (u.tally.disturbed - t.tally.disturbed)) (goes.works.bursts ∙ new.bursts) done.most in
        omega (
          arith,
          most,
          long,
          event_requests_met (resumed_bursts kind) tries f.events f.requests 14 (omega (arith, spends, left_opened)),
          event_requests_sum (resumed_bursts kind) f.events (u.tally.disturbed - t.tally.disturbed)
              (u.tally.disturbed - s.tally.disturbed) (omega arith),
        )

    -- the theorem of `resume` for a call whose opening succeeded, with the result of the rest of the list
    pub resume_performs : ResumeFits kind list tries earlier (resume_report told earlier) s u
    resume_performs = record {
      own = told.begun;
      begun = refl;
      goes = λ now may. record { before = opened.memory; comes = opened.comes; fits = done_fits now may };
      ends = done_ends;
      stops_only = stops_only end tries s u done_ends;
      counted =
          let h = opening_asked (resumed_bursts kind) true tries e f s t small new goes in
          omega (arith, h, does.asked);
      most = done_most;
    }

-- the theorem of `resume` holds of an equal report
pub resumed_equal_report : (kind : Bursts) (list : List Access) (tries : ℕ) (earlier x y : HostReport) (s t : Port)
    → y ≡ x → ResumeFits kind list tries earlier x s t → ResumeFits kind list tries earlier y s t
resumed_equal_report kind list tries earlier x y s t is h =
    subst (λ told. ResumeFits kind list tries earlier told s t) (sym is) h

-- WHATEVER CAME BACK
pub resumed_continues : (kind : Bursts) (list : List Access) (tries : ℕ) (raw earlier report : HostReport)
    (part : List Answer) (due : Due)
    → length earlier.answers ≤ length list → report ≡ resume_report raw earlier → raw.answers ≡ earlier.answers ++ part
    → Closes 5 (resumed_bursts kind) (drop (length earlier.answers) list) tries
    (record raw { answers = part }) due
    → ResumeCloses kind list tries earlier report due
resumed_continues kind list tries raw earlier report part due reported is added h =
    let rest : List Access = drop (length earlier.answers) list in
    let new : resume_added earlier raw ≡ part =
    ap (drop (length earlier.answers)) added ∙ drop-append_seam earlier.answers part in
    let long = resumed_rest_length (length earlier.answers) list reported in
    let many = ap length added ∙ length-append earlier.answers part in
    let number = h.number in
    subst (λ x. ResumeCloses kind list tries earlier x due) (sym is) (record {
      own = raw.begun;
      kept = added ∙ ap (λ l. earlier.answers ++ l) (sym new);
      number = omega (arith, long, many, number);
      begun = refl;
      closes = subst (λ xs. Closes 5 (resumed_bursts kind) rest tries (record raw { answers = xs }) due) (sym new) h;
    })

-- the accesses from here on, as a slice
pub resumed_rest_slice : (n k : ℕ) (list : List Access) → n ≡ k → k ≤ length list
    → take (length list - n) (drop n list) ≡ drop k list
resumed_rest_slice n k list is few = grind (arith, resumed_rest_length, long, take_all)
