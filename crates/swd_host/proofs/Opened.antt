-- The opening over any target whose SELECT is 0: from its beginning to how it ends, over one of the memories that may
-- have come of the start.
use Rattle.swd_host.proofs.Words.{◌≡◌, ◌≢◌, ◌+◌, ◌%◌, ◌<◌, ◌≤◌, ℕ, Bool, true, sym, subst, inl, inr, arith, ◌⊎◌, None}
use Rattle.swd_host.proofs.Words.{◌∙◌}
use Rattle.swd_host.proofs.Words.{Bus, Port, Choice, MayBecome, port_completed, End, All, Lost, Opened, Stopped}
use Rattle.swd_host.proofs.Words.{Resting, Engine, Unsent, Bursts, EngineHand, EngineBase, EngineMemoryWithin}
use Rattle.swd_host.proofs.Words.{EngineAllowsMemory, EngineIsReady, hand_of_engine, EngineDueAt, EngineDueFits}
use Rattle.swd_host.proofs.Words.{ResumeComesFrom, ResumedOpening, EngineResumes, early, over, EngineIsNew, HostEndsAt}
use Rattle.swd_host.proofs.Words.{HostKnowsTarget, EngineTargetIsOpen}
use Rattle.swd_port.proofs.CompletionLaws.{port_may_become_of_none, no_pending_same_port, port_becomes_completed}
use Rattle.swd_host.specs.Early.{ResumedOpeningStopped}
use Rattle.swd_host.proofs.Ends.{EngineStops, engine_stop_memory, engine_outcome_rests}

-- ITS BEGINNING
abbrev pub opening_counts_at : Port → EngineBase
opening_counts_at s = record { disturbed = s.tally.disturbed; lost = s.tally.lost }

-- a new engine knows what going on asks for
pub new_engine_resumes : (kind : Bursts) (again : Bool) (tries : ℕ) (e : Engine) (s : Port)
    → EngineIsNew kind again tries e
    → HostKnowsTarget s.target → (again ≡ true) ⊎ (s.target.pending ≡ None) → EngineResumes (opening_counts_at s) s e s
new_engine_resumes kind again tries e s new known awaited = grind arith

-- where no access is begun
pub host_none_in_flight : (b : ℕ) (k : EngineHand) (m : Bus) → b ≡ 0 → EngineAllowsMemory b k m → m ≡ k.memory
host_none_in_flight b k m none h = grind arith

-- the target is up for the list, at the end of the opening
pub opening_ready_open : (f : Engine) (m : Bus) (n : ℕ) (t : Port) → t.target.identification % 2 ≡ 1
    → EngineIsReady n (hand_of_engine f m) t → f.tar ≡ None → f.ahead ≡ Unsent → EngineTargetIsOpen m f t
opening_ready_open f m n t odd r tar ahead = grind arith

-- HOW THE OPENING ENDS
pub record OpeningEnds (end : End) (base : EngineBase) (tries n : ℕ) (start t : Port) : Type 0 where
  pub comes : (m : Bus) → MayBecome t m → MayBecome start m
  -- where nothing was pending at the start
  pub now : start.target.pending ≡ None → MayBecome start t.target.memory
  pub later : start.target.pending ≡ None → (c : Choice) → MayBecome start (port_completed c t).target.memory
  -- the disturbances that were met as events, or more than the tries allow
  pub paid : ((end ≡ Lost) × (n ≤ t.tally.disturbed)) ⊎ (base.disturbed + tries < t.tally.disturbed)
  pub ends : (s : Port) → s.tally.disturbed ≤ base.disturbed → s.tally.lost ≤ base.lost
      → t.target.identification % 2 ≡ 1 → HostEndsAt end tries s t
  pub never : end ≢ All

-- with nothing pending at the start, the memory is one that may come of it
rested_now : (start t : Port) → ResumeComesFrom start t → start.target.pending ≡ None → MayBecome start t.target.memory
rested_now start t h none = h.comes t.target.memory (port_may_become_of_none.same t (h.rests none))

rested_later : (start t : Port) → ResumeComesFrom start t → start.target.pending ≡ None → (c : Choice)
    → MayBecome start (port_completed c t).target.memory
rested_later start t h none c = grind (arith, rested_now, no_pending_same_port)

early_ends : (end : End) (n tries : ℕ) (base : EngineBase) (f : Engine) (start t : Port)
    → EngineDueAt (Resting (Stopped end)) f.stray f.task t.link.due → ResumedOpeningStopped end n tries base start t
    → OpeningEnds end base tries n start t
early_ends end n tries base f start t due h = grind (arith, rested_later, rested_now)

-- over one memory, of which no access is begun
module _ (m : Bus) (f : Engine) (start t : Port) (none : f.begun ≡ 0) (may : MayBecome start m)
    (w : EngineMemoryWithin f.begun (hand_of_engine f m) t.target) where
  -- the memory that each completion leaves may come of the start
  within_later : (c : Choice) → MayBecome start (port_completed c t).target.memory
  within_later c = subst (MayBecome start) (sym (port_becomes_completed w.later c t.target w.becomes
      ∙ host_none_in_flight f.begun (hand_of_engine f m) w.later none w.ends)) may

  within_now : MayBecome start t.target.memory
  within_now = subst (MayBecome start) (sym
      (host_none_in_flight f.begun (hand_of_engine f m) t.target.memory none w.now)) may

  within_comes : (now : Bus) → MayBecome t now → MayBecome start now
  unfolding MayBecome
  within_comes now (inl given) = subst (MayBecome start) (sym given.1) within_now
  within_comes now (inr h) = subst (MayBecome start) (sym h.2) (within_later h.0)

-- an opening stops for a lost ACK or too many disturbances; each memory that may follow might follow from the start
pub opening_stop_memory : (base : EngineBase) (start : Port) (f : Engine) (end : End) (t : Port)
    → f.state ≡ Resting (Stopped end) → f.begun ≡ 0 → EngineDueFits f t → EngineResumes base start f t
    → OpeningEnds end base f.tries (base.disturbed + f.events) start t
opening_stop_memory base start f end t at none due (early task lost h) =
    early_ends end (base.disturbed + f.events) f.tries base f start t
    (subst (λ x. EngineDueAt x f.stray f.task t.link.due) at due)
    (subst (λ x. ResumedOpening x (base.disturbed + f.events) f.tries base f.stray start t) at h)
opening_stop_memory base start f end t at none due (over m may h) =
    let g : EngineStops end base f.tries (base.disturbed + f.events) f.begun (hand_of_engine f m) t =
    engine_stop_memory base m f end t at h in
    record {
      comes = within_comes m f start t none may g.within;
      now = λ e. within_now m f start t none may g.within;
      later = λ e. within_later m f start t none may g.within;
      paid = g.paid;
      ends = λ s disturbed lost odd. g.ends s f.stray f.task disturbed lost odd
          (subst (λ x. EngineDueAt x f.stray f.task t.link.due) at due);
      never = g.never;
    }

-- the target is up, over one of the memories that may have come of the start
pub record OpeningSucceeds (n : ℕ) (start : Port) (f : Engine) (t : Port) : Type 0 where
  pub memory : Bus
  pub comes : MayBecome start memory
  pub is_open : EngineTargetIsOpen memory f t
  pub paid : n ≤ t.tally.disturbed

-- an opening that succeeded leaves the target up, over one of the memories that the start might become
pub opening_success_memory : (base : EngineBase) (start : Port) (f : Engine) (t : Port) → f.state ≡ Resting Opened
    → t.target.identification % 2 ≡ 1 → EngineResumes base start f t
    → OpeningSucceeds (base.disturbed + f.events) start f t
opening_success_memory base start f t at odd (early ok few h) =
    absurd (subst (λ x. ResumedOpening x (base.disturbed + f.events) f.tries base f.stray start t) at h)
opening_success_memory base start f t at odd (over m may h) =
    let r : EngineIsReady (base.disturbed + f.events) (hand_of_engine f m) t × (f.tar ≡ None) × (f.ahead ≡ Unsent) =
    engine_outcome_rests base m f Opened t at h in
    record {
      memory = m;
      comes = may;
      is_open = opening_ready_open f m (base.disturbed + f.events) t odd r.0 r.1 r.2;
      paid = r.0.paid;
    }
