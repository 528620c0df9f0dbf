-- Going on after a lost acknowledgement: from what each call keeps early to what engine and port keep.
use Rattle.swd_host.proofs.Words.{◌≡◌, ◌∙◌, ◌+◌, ◌≤◌, ℕ, sym, ap, subst, arith, Bus, Port, MayBecome, SelectWrite}
use Rattle.swd_host.proofs.Words.{Select, Job, At, Data, Doing, Engine, EngineHand, EngineBase, EnginePlaceIsSure}
use Rattle.swd_host.proofs.Words.{EngineWrites, whole, changed, EngineDuring, EngineStateTracks, TracksEngine}
use Rattle.swd_host.proofs.Words.{EngineFollowsPort, hand_of_engine, IsTask, ResumedSelectSettled, ResumedOpeningIsOver}
use Rattle.swd_host.proofs.Words.{EngineIsInResumedOpening, EngineResumes, early, over, ResumedOpening}

-- an engine that goes on, after a call
pub engine_resumes_by : (e f : Engine) (s t : Port) → f.task ≡ e.task → s.tally.lost ≤ t.tally.lost
    → ((base : EngineBase) (start : Port) → IsTask e.task → base.lost ≤ s.tally.lost
    → EngineIsInResumedOpening base start e s → EngineResumes base start f t)
    → ((base : EngineBase) (m : Bus) → EngineFollowsPort base m e s → EngineFollowsPort base m f t)
    → (base : EngineBase) (start : Port) → EngineResumes base start e s → EngineResumes base start f t
engine_resumes_by e f s t task lost step follows base start (early ok few h) = step base start ok few h
engine_resumes_by e f s t task lost step follows base start (over m may h) = over m may (follows base m h)

-- an engine that is early before and after a call has, after it, the invariant of an engine that resumes
pub engine_stays_early : (e f : Engine) (s t : Port) → f.task ≡ e.task → s.tally.lost ≤ t.tally.lost
    → ((base : EngineBase) (start : Port) → base.lost ≤ s.tally.lost → EngineIsInResumedOpening base start e s
    → EngineIsInResumedOpening base start f t)
    → (base : EngineBase) (start : Port) → IsTask e.task → base.lost ≤ s.tally.lost
    → EngineIsInResumedOpening base start e s
    → EngineResumes base start f t
engine_stays_early e f s t task lost step base start ok few h =
    early (subst IsTask (sym task) ok) (omega (arith, lost, few)) (step base start few h)

-- FROM SELECT'S OK ON it is a run's opening, over one memory
settled_sure : (n b : ℕ) (k : EngineHand) (s : Port) → ResumedSelectSettled n k.memory s
    → EnginePlaceIsSure Select n b k s
settled_sure n b k s h = record { has = h.calm; flag = λ w. h.flag; paid = h.paid }

writes_sure : (n b : ℕ) (k : EngineHand) (s : Port)
    → EngineWrites SelectWrite n (λ c. ResumedSelectSettled c k.memory s) s → EngineDuring (At Select) n b k s
writes_sure n b k s (whole line h) = whole line (settled_sure n b k s h)
writes_sure n b k s (changed place line h) = changed place line (settled_sure (n + 1) b k s h)

pub record OpeningChosen (base : EngineBase) (start : Port) (e : Engine) (s : Port) : Type 0 where
  pub memory : Bus
  pub comes : MayBecome start memory
  pub follows : EngineFollowsPort base memory e s

-- once SELECT's OK came, the engine follows one memory
over_there : (base : EngineBase) (start : Port) (e : Engine) (s : Port) → e.state ≡ Doing (At Select) Data
    → IsTask e.task
    → base.lost ≤ s.tally.lost → ResumedOpeningIsOver (base.disturbed + e.events) start s → OpeningChosen base start e s
over_there base start e s is ok few h =
    let tracks : TracksEngine base h.memory e s =
    subst (λ x. EngineStateTracks x (base.disturbed + e.events) e.tries base e.begun (hand_of_engine e h.memory) s)
    (sym is) (writes_sure (base.disturbed + e.events) e.begun (hand_of_engine e h.memory) s h.writes) in
    let follows : EngineFollowsPort base h.memory e s = record { task = ok; lost = few; tracks = tracks } in
    record { memory = h.memory; comes = h.comes; follows = follows }

-- while the data phase of SELECT's write is due, the engine follows one memory that the start might become
pub opening_select_chooses : (base : EngineBase) (start : Port) (e : Engine) (s : Port) (job : Job)
    → e.state ≡ Doing job Data
    → job ≡ At Select → IsTask e.task → base.lost ≤ s.tally.lost → EngineIsInResumedOpening base start e s
    → OpeningChosen base start e s
opening_select_chooses base start e s job is at ok few h =
    let there : e.state ≡ Doing (At Select) Data = is ∙ ap (λ j. Doing j Data) at in
    over_there base start e s there ok few
    (subst (λ x. ResumedOpening x (base.disturbed + e.events) e.tries base e.stray start s) there h)
