-- From what holds between two accesses to what doing the whole list comes to.
use Rattle.swd_host.proofs.Words.{event_requests}
use Rattle.swd_host.proofs.Words.{◌≡◌, ◌≢◌, ◌+◌, ◌-◌, ◌*◌, ◌%◌, ◌^◌, ◌<◌, ◌≤◌, ℕ, Bool, true, false, refl, sym, ap}
use Rattle.swd_host.proofs.Words.{subst, inl, inr, arith, ◌∙◌, List, [], ◌∷◌, ◌++◌, length, take, get_or, Option, Some}
use Rattle.swd_host.proofs.Words.{None, if◌then◌else◌, ◌&&◌, not, bit, Access, Answer, Bus, bus_answer}
use Rattle.swd_host.proofs.Words.{bus_after, Port, PortLeads, PortPassed, End, All, Answered, Stopped, Resting}
use Rattle.swd_host.proofs.Words.{Engine, memory_after, answers_of, AreHostAccesses, Ahead, Task, access_of_task}
use Rattle.swd_host.proofs.Words.{is_burst, task_is_block, task_most_begun, bursts_limit, engine_is_ahead, engine_begun}
use Rattle.swd_host.proofs.Words.{engine_outcome, engine_least_in, engine_open_requests, EngineHand, EngineBase}
use Rattle.swd_host.proofs.Words.{EngineAllowsMemory, within_none, within_first, within_both, EngineIsReady}
use Rattle.swd_host.proofs.Words.{EngineFollowsPort, hand_of_engine, block_next_read, EngineTargetUp, EngineAheadAt}
use Rattle.swd_host.proofs.Words.{EngineKnowsTarAt, EngineDueAt, EngineDueFits, engine_ahead_failed, engine_next_failed}
use Rattle.swd_host.proofs.Words.{EngineStarts, EngineGoesWithPort, FitsFrom, HostEndsAt, HostNextAccess}
use Rattle.swd_host.proofs.Words.{EngineBetweenAccesses, BurstContinuesAt, EngineStands, EngineHasOpened}
use Rattle.swd_host.proofs.Words.{EngineTargetIsOpen, EngineDoes, EngineDoesOver, engine_report, Nothing}
use Rattle.std.proofs.lemmas.Bool.{cases_Bool, cases_lt}
use Rattle.std.proofs.Math.Nat.{mul-le-mul_right}
use Rattle.swd_port.proofs.MovingLaws.{port_idle_cycles_at_rest}
use Rattle.swd_port.proofs.CompletionLaws.{no_pending_same_port}
use Rattle.swd_host.specs.declared.engine.Ahead.TheVariants.{Failed}
use Rattle.swd_host.specs.Standing.{EngineStays, EngineReachedMemory, EngineHasSentFor, anew, on}
use Rattle.swd_port.proofs.CallLaws.{port_others_uncounted, port_identification_kept}
use Rattle.swd_host.specs.Turns.{EnginePortLater}
use Rattle.swd_host.proofs.Going.{host_later_trans}
use Rattle.swd_host.proofs.Fitting.{IsLeftByEngine, engine_none_in_flight, engine_fits_by}
use Rattle.swd_host.proofs.Lists.{host_list_memory_next, host_list_answers_next, host_list_access_valid}
use Rattle.swd_host.proofs.Starts.{IsEngineStart, IsEngineAnswered, single_task_not_ahead, start_follows}
use Rattle.swd_host.proofs.Starts.{start_least, start_begun, first_start, answered_start, block_task_is_burst}
use Rattle.swd_host.proofs.Starts.{burst_next_read}
use Rattle.swd_host.proofs.EventRequests.{event_requests_most, event_requests_sum, event_requests_met}
use Rattle.swd_host.proofs.Alone.{opened_engine_stays, access_here, chain_here, few_here, last_task_not_burst}
use Rattle.swd_host.proofs.Alone.{started_left}
use Rattle.swd_host.proofs.Ends.{EngineAnswers, EngineStops, engine_outcome_answers, engine_stop_memory}
use Rattle.swd_host.proofs.Ends.{engine_stopped_state, host_memory_completed, engine_stop_begun}

-- BEFORE THE FIRST ACCESS
pub opened_engine_stands : (list : List Access) (o : Engine) (s : Port) → EngineHasOpened o → s.link.due ≡ Nothing
    → EngineStands 0 list o s o [] s
opened_engine_stands list o s has due = grind (arith, opened_engine_stays)

-- AN ACCESS
some_of : (a b : ℕ) → a ≡ b → a ≢ 0 → 1 ≤ b
some_of a b same none = omega arith

two_most : (task : Task) → task_most_begun task ≤ 2
two_most task = grind arith

single_most : (task : Task) → task_is_block task ≡ false → task_most_begun task ≤ 1
single_most task single = grind arith

-- where the next access was a bus error TAR isn't known
failed_tar : (ahead : Bool) (n : ℕ) (k : EngineHand) (t : Port) (further : Ahead) → k.ahead ≡ further
    → (not ahead && engine_ahead_failed further) ≡ true → EngineBetweenAccesses ahead n k t → k.tar ≡ None
failed_tar false n k t Failed is failed h = subst (λ x. EngineKnowsTarAt x k.tar t.target) is h.known
failed_tar _ n k t _ is failed h = absurd (cc)

abbrev counted_from : ℕ → Port → EngineBase
counted_from met t = record { disturbed = met; lost = t.tally.lost }

answered_least : (f : Engine) (answer : Answer) → engine_outcome f ≡ Some (Answered answer)
    → engine_least_in f.aims f.state ≡ bit f.aims + 2
answered_least f answer is = grind arith

module _ (i : ℕ) (list : List Access) (o e g f : Engine) (answers : List Answer) (s t u : Port) (d : Access)
    (following : Option Access) (opened : EngineHasOpened o) (few : i ≤ 65536) (l : i < length list)
    (stands : EngineStands i list o s e answers t) (starts : EngineStarts (get_or list i d) following e g)
    (goes : EngineGoesWithPort g t f u) (due : EngineDueFits f u) where
  here : access_of_task f.task ≡ get_or list i d
  here = access_here i list o e g f answers t u d following stands.stays starts goes.works

  chain : ((b : Access) → following ≡ Some b → HostNextAccess i list b) → is_burst f.task ≡ true
      → BurstContinuesAt list (i + 1) (access_of_task f.task)
  chain next = chain_here i list o e g f answers t u d following stands.stays starts goes.works next

  after_here : (m : Bus)
      → bus_after (access_of_task f.task) (memory_after (take i list) m) ≡ memory_after (take (i + 1) list) m
  after_here m = ap (λ a. bus_after a (memory_after (take i list) m)) here ∙ sym (host_list_memory_next list i d m l)

  tries_here : f.tries ≡ o.tries
  tries_here = goes.works.tries ∙ (starts.tries ∙ stands.stays.tried)

  follows_here : (m : Bus) → AreHostAccesses list → (r : EngineReachedMemory i list m o s e answers t)
      → EngineFollowsPort (counted_from r.met t) (memory_after (take i list) m) f u
  follows_here m ok r =
      let before : Bus = memory_after (take i list) m in
      goes.follows (counted_from r.met t) before (start_follows (get_or list i d) following e g starts r.met before t
      (host_list_access_valid list i d l ok) (λ burst. (stands.stays.chain burst).1 d) r.ready)

  -- HOW MANY REQUESTS
  left_here : engine_open_requests g ≤ event_requests o.bursts * o.tries + 6
  left_here = started_left i list o e g f answers t u d following stands.stays starts goes.works

  -- the count of requests stays below 2 ^ 64
  countable : g.requests + engine_open_requests g < 2 ^ 64
  countable = omega (
    arith,
    left_here,
    starts.requests,
    stands.stays.spent,
    mul-le-mul_right (6 + event_requests o.bursts * o.tries) few,
    event_requests_most o.bursts o.tries,
    opened.most,
    opened.tries,
  )

  events_here : event_requests f.bursts * (f.tries - f.events) ≡ event_requests o.bursts * (o.tries - f.events)
  events_here =
      ap (λ b. event_requests b * (f.tries - f.events))
      (goes.works.bursts ∙ (starts.bursts ∙ stands.stays.bursts))
      ∙ ap (λ n. event_requests o.bursts * (n - f.events)) tries_here

  -- how many requests an access takes at most
  spent : f.requests + event_requests o.bursts * (o.tries - f.events)
      ≤ e.requests + event_requests o.bursts * o.tries + 6
  spent = omega (arith, goes.works.spends, left_here, starts.requests, events_here)

  -- the requests that it sent, by the events that it met
  met_here : f.requests ≤ event_requests o.bursts * f.events + (e.requests + 6)
  met_here =
      event_requests_met o.bursts o.tries f.events f.requests (e.requests + 6) (omega (arith, spent))

  asked_here : u.tally.asked + o.requests ≡ s.tally.asked + f.requests
  asked_here = omega (arith, goes.asked countable, starts.requests, stands.asked)

  later_here : EnginePortLater s u
  later_here = host_later_trans s t u stands.later goes.later

  -- an access that is answered at once
  here_at_once : engine_next_failed e ≡ true → f ≡ g
  here_at_once failed = grind arith

  answered_on : (answer : Answer) → engine_outcome f ≡ Some (Answered answer) → engine_next_failed e ≡ false
      → EngineHasSentFor i o e → EngineHasSentFor (i + 1) o f
  answered_on answer is going (anew fresh sent) =
      let first : IsEngineStart g = first_start (get_or list i d) following e g starts fresh in
      on (omega (
        arith,
        goes.works.least countable,
        answered_least f answer is,
        ap bit goes.works.aims,
        ap bit first.aims,
        first.least,
        starts.requests,
      ))
  answered_on answer is going (on sent) =
      on (omega (
        arith,
        goes.works.least countable,
        answered_least f answer is,
        ap bit goes.works.aims,
        start_least (get_or list i d) following e g starts going,
        starts.requests,
      ))

  answered_at_once : engine_next_failed e ≡ true → (g.tar ≡ None) → EngineHasSentFor i o e
      → EngineHasSentFor (i + 1) o f
  answered_at_once failed unknown h = grind arith

  begun_on : engine_next_failed e ≡ false → 1 ≤ f.begun → EngineHasSentFor i o e
      → o.requests + 1 + i + f.begun ≤ f.requests
  begun_on going some h = grind (arith, cases_lt, countable, first_start, start_begun, start_least)

  begun_sent : 1 ≤ f.begun → EngineHasSentFor i o e → o.requests + 1 + i + f.begun ≤ f.requests
  begun_sent some sent = elim (cases_Bool (engine_next_failed e)) [
    | inl failed ↦ absurd (
        let at : IsEngineAnswered g = answered_start (get_or list i d) following e g starts failed in
        omega (arith, ap (λ x. x.begun) (here_at_once failed), at.begun))
    | inr going ↦ begun_on going some sent
  ]

  begun_few : f.begun ≤ task_most_begun f.task
  begun_few = grind arith

  -- A STOP
  within_left : (m now : Bus) → ((b : Access) → following ≡ Some b → HostNextAccess i list b)
      → EngineAllowsMemory f.begun (hand_of_engine f (memory_after (take i list) m)) now
      → IsLeftByEngine i list m f.begun now
  within_left m now next (within_none h) = engine_none_in_flight i list m f.begun now h
  within_left m now next (within_first some h) = record { more = 1; few = some; memory = h ∙ after_here m }
  within_left m now next (within_both two block h) =
      let after : BurstContinuesAt list (i + 1) (access_of_task f.task) =
      chain next (block_task_is_burst f.task block) in
      let second : get_or list (i + 1) d ≡ block_next_read f.task =
      burst_next_read f.task (get_or list (i + 1) d) block (after.1 d) in
      let both : memory_after (take (i + 1 + 1) list) m
      ≡ bus_after (block_next_read f.task) (memory_after (take (i + 1) list) m) =
      host_list_memory_next list (i + 1) d m after.0 ∙ ap (λ a. bus_after a (memory_after (take (i + 1) list) m))
      second in
      let count : i + 1 + 1 ≡ i + 2 = omega arith in
      record {
        more = 2;
        few = two;
        memory = h ∙ (ap (bus_after (block_next_read f.task)) (after_here m)
            ∙ (sym both ∙ ap (λ n. memory_after (take n list) m) count));
      }

  -- the list has the accesses that are begun
  list_has : ((b : Access) → following ≡ Some b → HostNextAccess i list b) → i + f.begun ≤ length list
  list_has next = grind (arith, begun_few, block_task_is_burst, chain, single_most, two_most)

  stop_fits : (m now : Bus) (end : End) → end ≢ All → f.state ≡ Resting (Stopped end)
      → ((b : Access) → following ≡ Some b → HostNextAccess i list b)
      → EngineReachedMemory i list m o s e answers t
      → EngineAllowsMemory f.begun (hand_of_engine f (memory_after (take i list) m)) now
      → FitsFrom o.requests (bursts_limit o.bursts) list m (engine_report answers f end) now
  stop_fits m now end never at next r within =
      let same : engine_begun f ≡ f.begun = engine_stop_begun f end at in
      engine_fits_by o.requests (bursts_limit o.bursts) i list m answers f end now (omega arith) r.answered
      (omega (arith, few_here i list o e g f answers t u d following stands.stays starts goes.works))
      (λ begun. (
        omega (arith, list_has next),
        never,
        omega (arith, begun_sent (some_of (engine_begun f) f.begun same begun) r.sent),
      ))
      (λ all. absurd (never all))
      (subst (λ b. IsLeftByEngine i list m b now) (sym same) (within_left m now next within))

  access_over : (m : Bus) (end : End) → EngineTargetIsOpen m o s → AreHostAccesses list
      → ((b : Access) → following ≡ Some b → HostNextAccess i list b)
      → engine_outcome f ≡ Some (Stopped end) → EngineDoesOver list m o f answers end s u
  access_over m end is ok next finished =
      let at : f.state ≡ Resting (Stopped end) = engine_stopped_state f.state f.task end finished in
      let r : EngineReachedMemory i list m o s e answers t = stands.reached m is ok in
      let base : EngineBase = counted_from r.met t in
      let before : Bus = memory_after (take i list) m in
      let k : EngineHand = hand_of_engine f before in
      let stop : EngineStops end base f.tries (base.disturbed + f.events) f.begun k u =
      engine_stop_memory base before f end u at (follows_here m ok r) in
      record {
        now = stop_fits m u.target.memory end stop.never at next r stop.within.now;
        settled = stop.within.later;
        becomes = λ c. host_memory_completed f.begun k u c stop.within;
        later = stop_fits m stop.within.later end stop.never at next r stop.within.ends;
        ends = subst (λ n. HostEndsAt end n s u) tries_here
            (stop.ends s f.stray f.task r.fewest stands.later.lost
            (ap (λ w. w % 2) later_here.identification ∙ is.odd)
            (subst (λ x. EngineDueAt x f.stray f.task u.link.due) at due));
        least = λ whole. absurd (stop.never whole);
        most = elim stop.paid [
          | inl p ↦ omega (
            arith,
            met_here,
            r.most,
            event_requests_sum o.bursts f.events (r.met - s.tally.disturbed)
                (u.tally.disturbed - s.tally.disturbed) (omega (arith, p.1, r.fewest)),
          )
          | inr p ↦ omega (
            arith,
            spent,
            r.most,
            event_requests_sum o.bursts o.tries (r.met - s.tally.disturbed)
                (u.tally.disturbed - s.tally.disturbed) (omega (arith, p, tries_here, r.fewest)),
          )
        ];
      }

  -- the result of a list where the engine stopped in the access at i
  pub access_does : (earlier after : List Answer) (end : End) → after ≡ earlier ++ answers
      → ((b : Access) → following ≡ Some b → HostNextAccess i list b)
      → engine_outcome f ≡ Some (Stopped end) → EngineDoes list o f earlier after end s u
  access_does earlier after end added next finished = record {
    answers = answers;
    added = added;
    asked = asked_here;
    later = later_here;
    over = λ m is ok. access_over m end is ok next finished;
  }

  -- AN ANSWER
  answered_sent : (m : Bus) (answer : Answer) → engine_outcome f ≡ Some (Answered answer)
      → EngineReachedMemory i list m o s e answers t → EngineHasSentFor (i + 1) o f
  answered_sent m answer is r = elim (cases_Bool (engine_next_failed e)) [
    | inl failed ↦ answered_at_once failed
        (starts.tar ∙ failed_tar (engine_is_ahead e) r.met (hand_of_engine e (memory_after
        (take i list) m)) t e.ahead refl failed r.ready)
        r.sent
    | inr going ↦ answered_on answer is going r.sent
  ]

  answered_reached : (m : Bus) → AreHostAccesses list → (answer : Answer) (more : List Answer)
      → more ≡ answers ++ answer ∷ [] → engine_outcome f ≡ Some (Answered answer)
      → EngineReachedMemory i list m o s e answers t → EngineReachedMemory (i + 1) list m o s f more u
  answered_reached m ok answer more is_more finished r =
      let base : EngineBase = counted_from r.met t in
      let before : Bus = memory_after (take i list) m in
      let x : EngineAnswers answer base before f u =
      engine_outcome_answers base before answer f u finished (follows_here m ok r) in
      let told : bus_answer (get_or list i d) before ≡ answer =
      sym (ap (λ a. bus_answer a before) here) ∙ x.told in
      record {
        met = r.met + f.events;
        fewest = omega (arith, r.fewest);
        ready = subst (λ y. EngineBetweenAccesses (engine_is_ahead f) (r.met + f.events) (hand_of_engine f y) u)
            (after_here m) x.waits;
        answered = is_more ∙ (ap (λ y. y ++ answer ∷ []) r.answered
            ∙ (ap (λ y. answers_of (take i list) m ++ y ∷ []) (sym told) ∙ sym (host_list_answers_next list i d m l)));
        begun = x.begun;
        sent = answered_sent m answer finished r;
        most = omega (
          arith,
          met_here,
          r.most,
          event_requests_sum o.bursts f.events (r.met - s.tally.disturbed)
              (r.met + f.events - s.tally.disturbed) (omega (arith, r.fewest)),
        );
      }

  -- once the access at i is answered, what is known after i answers holds after i + 1
  pub answered_stands : (answer : Answer) (more : List Answer) → more ≡ answers ++ answer ∷ []
      → engine_outcome f ≡ Some (Answered answer) → EngineStays (i + 1) list o f more u
      → EngineStands (i + 1) list o s f more u
  answered_stands answer more is_more finished stays = record {
    stays = stays;
    asked = asked_here;
    later = later_here;
    reached = λ m is ok. answered_reached m ok answer more is_more finished (stands.reached m is ok);
  }

-- ALL ARE ANSWERED
sent_least : (i : ℕ) (o e : Engine) → EngineHasSentFor i o e → o.requests + i ≤ e.requests
sent_least i o e (anew fresh sent) = sent
sent_least i o e (on sent) = omega arith

-- nothing is ahead of an access that is none of a burst
single_up : (further : Ahead) (task : Task) (m : Bus) (t : Port) → is_burst task ≡ false
    → EngineAheadAt further task m t.target → EngineTargetUp m t.target
single_up further task m t single h = grind arith

module _ (i : ℕ) (list : List Access) (o e : Engine) (answers : List Answer) (s t : Port) (opened : EngineHasOpened o)
    (whole : i ≡ length list) (stands : EngineStands i list o s e answers t) where
  last_single : is_burst e.task ≡ false
  last_single = last_task_not_burst i list o e answers t stands.stays whole

  last_calm : engine_is_ahead e ≡ false
  last_calm = single_task_not_ahead e.state e.task last_single

  all_over : (m : Bus) (u : Port) → PortLeads t 0 u → EngineTargetIsOpen m o s → AreHostAccesses list
      → EngineDoesOver list m o e answers All s u
  all_over m u leads is ok =
      let r : EngineReachedMemory i list m o s e answers t = stands.reached m is ok in
      let last : Bus = memory_after (take i list) m in
      let ready : EngineIsReady r.met (hand_of_engine e last) t =
      subst (λ c. EngineBetweenAccesses c r.met (hand_of_engine e last) t) last_calm r.ready in
      let up : EngineTargetUp last t.target = single_up e.ahead e.task last t last_single ready.up in
      let passed : PortPassed t u = (port_idle_cycles_at_rest t u up.calm.pending leads).0 in
      let unbegun : engine_begun e ≡ 0 = ap (λ x. if x then 0 else e.begun) last_calm ∙ r.begun last_single in
      let memory : u.target.memory ≡ last = ap (λ x. x.memory) passed.target ∙ up.calm.memory in
      let idle : u.target.pending ≡ None = ap (λ x. x.pending) passed.target ∙ up.calm.pending in
      let counts : u.tally.disturbed ≡ t.tally.disturbed = ap (λ x. x.disturbed) passed.tally in
      let fits = λ (now : Bus) (left : now ≡ last).
      engine_fits_by o.requests (bursts_limit o.bursts) i list m answers e All now (omega arith) r.answered
      (omega arith)
      (λ begun. absurd (begun unbegun)) (λ all. whole) (engine_none_in_flight i list m (engine_begun e) now left) in
      record {
        now = fits u.target.memory memory;
        settled = last;
        becomes = λ c. ap (λ x. x.target.memory) (no_pending_same_port c u idle) ∙ memory;
        later = fits last refl;
        ends = (
          record {
            due = passed.due;
            known = record {
              select = ap (λ x. x.select) passed.target ∙ up.calm.select;
              odd = ap (λ x. x.identification % 2) passed.target
                  ∙ (ap (λ w. w % 2) stands.later.identification ∙ is.odd);
            };
            settled = idle;
          },
          record {
            sticky_error = ap (λ x. x.sticky_error) passed.target ∙ up.calm.sticky;
            write_error = ap (λ x. x.write_error) passed.target ∙ ready.flag;
            debug = ap (λ x. x.debug_power) passed.target ∙ up.debug;
            system = ap (λ x. x.system_power) passed.target ∙ up.system;
            debug_seen = ap (λ i. i.debug_up) passed.target ∙ up.debug_seen;
            system_seen = ap (λ i. i.system_up) passed.target ∙ up.system_seen;
            live = ap (λ x. x.reset) passed.target ∙ up.calm.live;
            increments = ap (λ x. x.increments) passed.target ∙ up.increments;
          },
        );
        least = λ all. omega (arith, sent_least i o e r.sent);
        most = omega (
          arith,
          r.most,
          event_requests_sum o.bursts (r.met - s.tally.disturbed) 0 (u.tally.disturbed - s.tally.disturbed)
              (omega (arith, r.fewest, ready.paid, counts)),
        );
      }

  -- the result of a list whose accesses are all answered, after the idle cycles that follow them
  pub all_does : (earlier after : List Answer) (u : Port) → after ≡ earlier ++ answers → PortLeads t 0 u
      → EngineDoes list o e earlier after All s u
  all_does earlier after u added leads = grind (arith, all_over, port_identification_kept, port_others_uncounted)
