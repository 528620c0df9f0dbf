-- Which accesses reach the bus in a run. For the law `accesses`: the theorem of a run holds for the bus that records
-- them.
use Rattle.std.proofs.Common.{◌≡◌, ◌+◌, ℕ, List, [], ◌∷◌, ◌++◌, length, refl, sym, ap, subst, inl, inr, ◌∙◌}
use Rattle.std.specs.Prelude.{take, drop}
use Rattle.std.proofs.lemmas.List.{append-nil, append_assoc}
use Rattle.swd_port.specs.declared.access.Access.{Access}
use Rattle.swd_port.specs.declared.call.Call.{Call}
use Rattle.swd_port.specs.Bus.{Bus, bus_after}
use Rattle.swd_port.specs.Completion.{port_completed}
use Rattle.swd_port.specs.Becoming.{MayBecome}
use Rattle.swd_port.specs.Port.{Port}
use Rattle.swd_port.specs.Reached.{accesses_of_story, accesses_once_completed, story_before}
use Rattle.swd_port.specs.Stories.{FitsStory, port_due_by, port_at}
use Rattle.swd_port.proofs.Recording.{bus_recording, port_recording, bus_recording_after, accesses_content_same}
use Rattle.swd_port.proofs.Recording.{completed_recording, recorded_story, recorded_at_end, recorded_before}
use Rattle.swd_port.proofs.Recording.{recorded_fits}
use Rattle.swd_host.specs.Plain.{memory_after}
use Rattle.swd_host.specs.Again.{ResumeFits, resume_own_report}
use Rattle.swd_host.specs.Reports.{Fits, FitsFrom, HostIsOpen, HostReport, HostKnowsTarget, IsAtRest, RunFitsFrom}
use Rattle.swd_host.specs.Reports.{HostLeavesPowered}
use Rattle.swd_host.specs.Resuming.{resume_report}
use Rattle.swd_host.specs.declared.task.Bursts.{Bursts}
use Rattle.swd_host.specs.Bursts.{bursts_limit}
use Rattle.swd_host.proofs.GoingOn.{resumed_take_length}
use Rattle.swd_steps.specs.Laws.{stepped_report}
use Rattle.swd_steps.specs.Reached.{SteppedFirst, SteppedReaches, SteppedReachesBus, SteppedRunReaches}
use Rattle.swd_steps.specs.Reached.{SteppedOpenReaches, SteppedResumeReaches}
use Rattle.swd_steps.proofs.Reporting.{stepped_run_fits, stepped_open_fits, stepped_resume_fits}

-- two recording buses that are equal got the same accesses
recorded_same : (one other : List Access) (b c : Bus) → bus_recording one b ≡ bus_recording other c → one ≡ other
recorded_same one other b c same =
    sym (append-nil one) ∙ accesses_content_same (one ++ []) (other ++ []) (ap (λ x. x.content []) same)
    ∙ append-nil other

-- a recording bus records a list
memory_after_recording : (list past : List Access) (b : Bus) → memory_after list (bus_recording past b)
    ≡ bus_recording (past ++ list) (memory_after list b)
memory_after_recording [] past b = ap (λ p. bus_recording p b) (sym (append-nil past))
memory_after_recording (a ∷ list) past b =
    ap (memory_after list) (bus_recording_after past a b) ∙ memory_after_recording list (past ++ a ∷ []) (bus_after a b)
    ∙ ap (λ p. bus_recording p (memory_after list (bus_after a b))) (append_assoc past (a ∷ []) list)

-- the accesses of a report that fits a recording bus
reached_by_report : (opening limit : ℕ) (list : List Access) (told : HostReport) (before after : List Access)
    (b c : Bus) → FitsFrom opening limit list (bus_recording before b) told (bus_recording after c)
    → SteppedReaches list told before after
reached_by_report opening limit list told before after b c (k, h) =
    let number : length told.answers ≡ k =
    resumed_take_length k list (bus_recording before b) told.answers h.reported h.answers in
    record {
      more = h.memory.0;
      few = h.memory.1;
      made = recorded_same after (before ++ take (k + h.memory.0) list) c
          (memory_after (take (k + h.memory.0) list) b)
          (h.memory.2 ∙ memory_after_recording (take (k + h.memory.0) list) before b)
          ∙ ap (λ n. before ++ take (n + h.memory.0) list) (sym number);
    }

-- a bus that records changes nothing of what is known of a port
known_recording : (p : List Access) (s : Port) → HostKnowsTarget s.target → HostKnowsTarget (port_recording p s).target
known_recording p s h = record { select = h.select; odd = h.odd }

rests_recording : (p : List Access) (s : Port) → IsAtRest s → IsAtRest (port_recording p s)
rests_recording p s h = record { due = h.due; known = known_recording p s h.known; settled = h.settled }

powered_recording : (p : List Access) (s : Port) → HostLeavesPowered s.target
    → HostLeavesPowered (port_recording p s).target
powered_recording p s h = record {
  sticky_error = h.sticky_error;
  write_error = h.write_error;
  debug = h.debug;
  system = h.system;
  debug_seen = h.debug_seen;
  system_seen = h.system_seen;
  live = h.live;
  increments = h.increments;
}

-- A PORT OF A RECORDED STORY
abbrev due_by : List Call → Port → Port
due_by calls s = record s { link = record s.link { due = port_due_by calls } }

module _ (story : ℕ → Port) (calls past : List Call) (fits : FitsStory story (calls ++ past)) where
  abbrev pub recorded : ℕ → Port
  recorded = recorded_story story (calls ++ past) fits

  abbrev pub earlier_accesses : List Access
  earlier_accesses = accesses_of_story story past (story_before story calls past fits)

  abbrev pub all_accesses : List Access
  all_accesses = accesses_of_story story (calls ++ past) fits

  abbrev pub begins : Port
  begins = port_recording earlier_accesses (port_at story past)

  abbrev pub stops : Port
  stops = port_recording all_accesses (port_at story (calls ++ past))

  pub begins_so : port_at recorded past ≡ begins
  begins_so = ap (due_by past) (recorded_before story calls past fits)

  pub stops_so : port_at recorded (calls ++ past) ≡ stops
  stops_so = ap (due_by (calls ++ past)) (recorded_at_end story (calls ++ past) fits)

-- the accesses of a run, by its theorem over the recorded story
reached_by_run : (opening : ℕ) (kind : Bursts) (list : List Access) (tries : ℕ) (told : HostReport)
    (before after : List Access) (s t : Port)
    → RunFitsFrom opening kind list tries (port_recording before s).target.memory told
    (port_recording before s) (port_recording after t) → SteppedReachesBus list told before after t
reached_by_run opening kind list tries told before after s t h = record {
  now = reached_by_report opening (bursts_limit kind) list told before after s.target.memory t.target.memory h.now;
  later = λ c. reached_by_report opening (bursts_limit kind) list told before
      (after ++ accesses_once_completed c t.target) s.target.memory (port_completed c t).target.memory
      (subst
      (λ x. FitsFrom opening (bursts_limit kind) list (bus_recording before s.target.memory) told x.target.memory)
      (completed_recording after c t) (h.later c));
}

-- in a run over a target at rest the bus gets the answered accesses and at most `begun` more
pub stepped_run_reaches : SteppedRunReaches
stepped_run_reaches kind tries accesses calls run answers end small ran ended story past clear fits rest =
    let told = stepped_report run answers end in
    let from = begins story calls past fits in
    reached_by_run 9 kind accesses tries told (earlier_accesses story calls past fits)
    (all_accesses story calls past fits) (port_at story past) (port_at story (calls ++ past))
    (subst (λ t. RunFitsFrom 9 kind accesses tries from.target.memory told from t)
    (stops_so story calls past fits)
    (subst (λ s. RunFitsFrom 9 kind accesses tries s.target.memory told s
    (port_at (recorded story calls past fits) (calls ++ past))) (begins_so story calls past fits)
    (stepped_run_fits kind tries accesses calls run answers end small ran ended (recorded story calls past fits) past
    clear (recorded_fits story (calls ++ past) fits)
    (subst IsAtRest (sym (begins_so story calls past fits))
    (rests_recording (earlier_accesses story calls past fits) (port_at story past) rest)))))

-- the same over a target that is open
pub stepped_open_reaches : SteppedOpenReaches
stepped_open_reaches kind tries accesses calls run answers end small ran ended story past clear fits open_now =
    let told = stepped_report run answers end in
    let from = begins story calls past fits in
    reached_by_run 0 kind accesses tries told (earlier_accesses story calls past fits)
    (all_accesses story calls past fits) (port_at story past) (port_at story (calls ++ past))
    (subst (λ t. RunFitsFrom 0 kind accesses tries from.target.memory told from t)
    (stops_so story calls past fits)
    (subst (λ s. RunFitsFrom 0 kind accesses tries s.target.memory told s
    (port_at (recorded story calls past fits) (calls ++ past))) (begins_so story calls past fits)
    (stepped_open_fits kind tries accesses calls run answers end small ran ended (recorded story calls past fits) past
    clear (recorded_fits story (calls ++ past) fits)
    (subst HostIsOpen (sym (begins_so story calls past fits)) (
      rests_recording (earlier_accesses story calls past fits) (port_at story past) open_now.0,
      powered_recording (earlier_accesses story calls past fits) (port_at story past) open_now.1,
    )))))

-- a memory that a recording bus may become once the pending transfer has taken effect, or was given up
record StartedFrom (before : List Access) (s : Port) (m : Bus) : Type 0 where
  first : List Access
  came : SteppedFirst s first
  bus : Bus
  is : m ≡ bus_recording (before ++ first) bus

started_from : (before : List Access) (s : Port) (m : Bus) → MayBecome (port_recording before s) m
    → StartedFrom before s m
unfolding MayBecome
started_from before s m (inl given) = record {
  first = [];
  came = inl (given.0, refl);
  bus = s.target.memory;
  is = given.1 ∙ ap (λ l. bus_recording l s.target.memory) (sym (append-nil before));
}
started_from before s m (inr (choice, legal, is)) = record {
  first = accesses_once_completed choice s.target;
  came = inr (choice, refl);
  bus = (port_completed choice s).target.memory;
  is = is ∙ ap (λ x. x.target.memory) (completed_recording before choice s);
}

-- the same for a run that resumes
pub stepped_resume_reaches : SteppedResumeReaches
unfolding MayBecome
stepped_resume_reaches kind tries accesses calls run answers end earlier small ran ended story past fits known c legal =
    let told = resume_report (stepped_report run (earlier.answers ++ answers) end) earlier in
    let s = port_at story past in
    let t = port_at story (calls ++ past) in
    let before = earlier_accesses story calls past fits in
    let after = all_accesses story calls past fits in
    let h : ResumeFits kind accesses tries earlier told (begins story calls past fits) (stops story calls past fits) =
    subst (λ t. ResumeFits kind accesses tries earlier told (begins story calls past fits) t)
    (stops_so story calls past fits)
    (subst (λ s. ResumeFits kind accesses tries earlier told s
    (port_at (recorded story calls past fits) (calls ++ past)))
    (begins_so story calls past fits)
    (stepped_resume_fits kind tries accesses calls run answers end earlier small ran ended
    (recorded story calls past fits) past (recorded_fits story (calls ++ past) fits)
    (subst (λ s. HostKnowsTarget s.target) (sym (begins_so story calls past fits))
    (known_recording before s known)))) in
    let goes = h.goes (port_completed c (stops story calls past fits)).target.memory (inr (c, legal, refl)) in
    let from : StartedFrom before s goes.before = started_from before s goes.before goes.comes in record {
      own = h.own;
      begun = h.begun;
      first = from.first;
      came = from.came;
      reaches = reached_by_report 9 1 (drop (length earlier.answers) accesses) (resume_own_report earlier told h.own)
          (before ++ from.first) (after ++ accesses_once_completed c t.target) from.bus
          (port_completed c t).target.memory
          (subst (λ m. Fits 1 (drop (length earlier.answers) accesses) m (resume_own_report earlier told h.own)
          (port_recording (after ++ accesses_once_completed c t.target) (port_completed c t)).target.memory) from.is
          (subst (λ x. Fits 1 (drop (length earlier.answers) accesses) goes.before
          (resume_own_report earlier told h.own) x.target.memory) (completed_recording after c t) goes.fits));
    }
