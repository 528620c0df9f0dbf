-- One call of the wire, as the engine asks for it: what the engine and the port keep.
use Rattle.swd_host.proofs.Words.{event_requests}
use Rattle.swd_host.proofs.Words.{◌≡◌, ◌+◌, ◌-◌, ◌*◌, ◌^◌, ◌≤◌, ◌<◌, ℕ, Bool, true, false, refl, sym, ap, subst, inl}
use Rattle.swd_host.proofs.Words.{inr, arith, ◌∙◌, Some, None, max, Request, Bus, Port, data_phase_number}
use Rattle.swd_host.proofs.Words.{data_phase_word, PortAsks, PortTakes, PortGives, PortPasses, PortLeads, Lost, Stopped}
use Rattle.swd_host.proofs.Words.{Task, Job, CueAsk, Ask, Data, State, Doing, Resting, Engine, engine_request_for}
use Rattle.swd_host.proofs.Words.{engine_word_for, engine_job_starts, engine_cue, engine_is_ahead_at, engine_is_resting}
use Rattle.swd_host.proofs.Words.{engine_count_more, engine_job, engine_left_for, engine_left_in, engine_open_requests}
use Rattle.swd_host.proofs.Words.{engine_job_is_of, engine_state_is_of, EngineHand, EngineBase, EngineBefore}
use Rattle.swd_host.proofs.Words.{EngineStateTracks, TracksEngine, EngineFollowsPort, IsTask, EngineSawResult}
use Rattle.swd_host.proofs.Words.{EngineHoldsAfterCue, EngineTookForJob, hand_of_engine, EngineSeesAck}
use Rattle.swd_host.proofs.Words.{engine_lands_from, EngineIsCountable, EngineGoesWithPort, ResumedOpening}
use Rattle.swd_host.proofs.Words.{EngineIsInResumedOpening, EngineResumes, early, over, ResumedOpeningSawAck}
use Rattle.swd_host.proofs.Words.{ResumedOpeningTookData}
use Rattle.swd_port.specs.Laws.Calls.{PortAsked}
use Rattle.swd_port.proofs.CallLaws.{port_request_counted, port_others_uncounted, port_identification_kept}
use Rattle.swd_port.specs.declared.cue.Cue.TheVariants.{Lead, Take as CueTake, Give as CueGive, Pass as CuePass}
use Rattle.swd_host.specs.Progress.{engine_is_quiet}
use Rattle.swd_host.specs.Engines.{engine_cue_at}
use Rattle.swd_host.specs.Replies.{EngineSentCue, EngineTookReply, EngineTookData}
use Rattle.swd_host.specs.Early.{ResumedOpeningAfterCue}
use Rattle.swd_host.proofs.Working.{IsEngineAsking, engine_at_ask, engine_one_more_least, engine_one_more_exact}
use Rattle.swd_host.proofs.Working.{engine_ask_works, engine_moves_works}
use Rattle.swd_host.proofs.Words.{◌≢◌, ◌%◌, Port, At, Status, Select, ResumedBefore}
use Rattle.swd_host.specs.declared.engine.State.TheVariants.{Leading}
use Rattle.swd_host.specs.declared.engine.Phase.TheVariants.{Waited, Faulted}
use Rattle.swd_host.proofs.Words.{ResumedOpeningAnywhere, ResumedAfterReset}
use Rattle.swd_port.specs.declared.state.Reset.TheVariants.{Fresh}
use Rattle.swd_port.proofs.MovingLaws.{port_turnaround_passed, port_line_reset}
use Rattle.swd_host.specs.Engines.{engine_lead_cue}
use Rattle.swd_host.proofs.Frames.{host_frame_passed, host_flags_passed}
use Rattle.swd_host.proofs.EarlyFrames.{opening_comes_same, opening_any_completed, opening_job_completed}
use Rattle.swd_host.proofs.EarlyFrames.{opening_job_framed}
use Rattle.swd_host.proofs.EarlyAsks.{ask_early}
use Rattle.swd_host.proofs.EarlyMoves.{read_early, given_early}
use Rattle.swd_host.proofs.EarlyTurns.{engine_resumes_by, engine_stays_early, opening_select_chooses}
use Rattle.swd_host.proofs.Sends.{engine_saw_ask}
use Rattle.swd_host.proofs.Takes.{taken_facts}
use Rattle.swd_host.proofs.Gives.{job_gave}
use Rattle.swd_host.proofs.Passes.{host_pass_after_wait, host_pass_after_fault}

-- THE CUE OF A DATA PHASE
pub record IsEngineTaking (x : State) (task : Task) : Type 0 where
  pub job : Job
  pub at : x ≡ Doing job Data
  pub ahead_not : engine_is_ahead_at job Data task ≡ false
  pub reads : engine_word_for job task ≡ None

-- where the cue is to read, the engine is at the data phase of a job that has no word to write, and the access isn't
-- answered yet
pub engine_at_take : (x : State) (stray : Bool) (task : Task) → engine_cue_at x stray task ≡ Some CueTake
    → IsEngineTaking x task
engine_at_take x stray task e = grind arith

pub record IsEngineGiving (x : State) (task : Task) (sent : ℕ) : Type 0 where
  pub job : Job
  pub at : x ≡ Doing job Data
  pub gives : ℕ
  pub is : engine_word_for job task ≡ Some gives
  pub sends : sent ≡ data_phase_number gives

-- where the cue is to write, the engine is at the data phase of a job, and the bits are those of the job's word
pub engine_at_give : (x : State) (stray : Bool) (task : Task) (sent : ℕ)
    → engine_cue_at x stray task ≡ Some (CueGive sent) → IsEngineGiving x task sent
engine_at_give x stray task sent e = grind arith

-- what holds at a state
tracked : (base : EngineBase) (m : Bus) (e : Engine) (s : Port) (x : State) → e.state ≡ x
    → TracksEngine base m e s → EngineStateTracks x (base.disturbed + e.events) e.tries base e.begun
    (hand_of_engine e m) s
tracked base m e s x at h = subst (λ y. EngineStateTracks y (base.disturbed + e.events) e.tries base e.begun
    (hand_of_engine e m) s) at h

-- what holds early at a state
early_at : (base : EngineBase) (start : Port) (e : Engine) (s : Port) (x : State) → e.state ≡ x
    → EngineIsInResumedOpening base start e s
    → ResumedOpening x (base.disturbed + e.events) e.tries base e.stray start s
early_at base start e s x at h = subst (λ y. ResumedOpening y (base.disturbed + e.events) e.tries base e.stray start s)
    at h

resumed_left : (base : EngineBase) (start : Port) (e : Engine) (s : Port) (job : Job) → e.state ≡ Doing job Ask
    → engine_job_is_of true job ≡ true → EngineResumes base start e s → 2 ≤ engine_left_for e.bursts job
resumed_left base start e s job at opening h = grind arith

-- A REQUEST
-- a request that is a step of the model: what the engine and the port keep over it
pub engine_ask_goes : (e f : Engine) (on : engine_is_resting e ≡ false) (s t : Port) (q : Request) (v : ℕ)
    → engine_cue e ≡ Some (CueAsk q)
    → PortAsks s q v t → EngineTookReply (CueAsk q) v e f → EngineGoesWithPort e s f t
engine_ask_goes e f on s t q v cue asks heard =
    let sent : f.requests ≡ engine_count_more e.requests = heard.requests in
    let left : engine_open_requests f + 1 ≤ engine_open_requests e = heard.fewer in
    let sees : EngineSeesAck v e f = heard.sees in
    let c : PortAsked s t = port_request_counted q v s t asks in
    let a : IsEngineAsking e.state e.task q = engine_at_ask e.state e.stray e.task q cue in
    let job : engine_job e.state ≡ a.job = ap engine_job a.at in
    let more : (e.requests ≤ engine_count_more e.requests) × (engine_count_more e.requests ≤ e.requests + 1) =
    engine_one_more_least e.requests in
    let exact : EngineIsCountable e → f.requests ≡ e.requests + 1 =
    λ few. sent ∙ engine_one_more_exact e.requests (omega arith) in
    let open_here : engine_left_in e.bursts e.state ≡ engine_left_for e.bursts a.job =
    ap (engine_left_in e.bursts) a.at in
    let asked : PortAsks s (engine_request_for a.job e.task) v t = subst (λ r. PortAsks s r v t) a.is asks in
    let follows : (base : EngineBase) (m : Bus) → EngineFollowsPort base m e s → EngineFollowsPort base m f t =
    λ base m h. (
    let before : EngineBefore a.job (base.disturbed + e.events) e.begun (hand_of_engine e m) s =
    tracked base m e s (Doing a.job Ask) a.at h.tracks in
    let saw : EngineSawResult a.job v (base.disturbed + e.events) base (max e.begun (engine_job_starts a.job e.task))
    (hand_of_engine e m) t =
    engine_saw_ask a.job (base.disturbed + e.events) base e.begun (hand_of_engine e m) v s t h.lost h.task before asked
    in
    record {
      task = subst IsTask (sym sees.task) h.task;
      lost = omega (arith, c.lost_least, h.lost);
      tracks = heard.tracks base m t (subst (λ j. EngineSawResult j v (base.disturbed + e.events) base
          (max e.begun (engine_job_starts j e.task)) (hand_of_engine e m) t) (sym job) saw);
    }) in
    let step : (base : EngineBase) (start : Port) → base.lost ≤ s.tally.lost → EngineIsInResumedOpening base start e s
    → EngineIsInResumedOpening base start f t = λ base start few h. heard.early base start t
    (subst (λ j. ResumedOpeningSawAck j v (base.disturbed + e.events) base e.stray start t) (sym job)
    (ask_early (base.disturbed + e.events) base e.stray start v s t e.task few a.job
    (early_at base start e s (Doing a.job Ask) a.at h) asked)) in
    record {
      works = engine_ask_works e f on q v cue heard;
      follows = follows;
      resumes = engine_resumes_by e f s t sees.task c.lost_least
          (engine_stays_early e f s t sees.task c.lost_least step) follows;
      later = record { identification = c.identification; disturbed = c.disturbed_least; lost = c.lost_least };
      asked = λ few. omega (arith, exact few, c.asked);
      lost_early = λ on base start h opening is. (
          let two : 2 ≤ engine_left_for e.bursts a.job =
          resumed_left base start e s a.job a.at (sym (ap (engine_state_is_of true) a.at) ∙ opening) h in
          let same : event_requests f.bursts * (f.tries - f.events) ≡ event_requests e.bursts * (e.tries - e.events) =
          ap (λ b. event_requests b * (f.tries - f.events)) sees.bursts
          ∙ (ap (λ i. event_requests e.bursts * (i - f.events)) sees.tries
          ∙ ap (λ i. event_requests e.bursts * (e.tries - i)) sees.events) in
          omega (arith, sent, more.1, open_here, two, same));
    }

-- EVERY OTHER CALL
-- an engine that is quiet has not stopped with a lost acknowledgement
no_lost : (x : State) → engine_is_quiet x ≡ true → x ≡ Resting (Stopped Lost) → ⊥
no_lost x h is = absurd (let both : true ≡ false = sym h ∙ ap engine_is_quiet is in cc)

-- what a call that is no request keeps
abbrev Steps : Engine → Port → Engine → Port → Type 0
Steps e s f t = (base : EngineBase) (start : Port) → IsTask e.task → base.lost ≤ s.tally.lost
    → EngineIsInResumedOpening base start e s → EngineResumes base start f t

-- a call that is no request, from what the engine and the port keep over it
moves : (e f : Engine) (on : engine_is_resting e ≡ false) (s t : Port) → engine_lands_from e f → t.tally ≡ s.tally
    → t.target.identification ≡ s.target.identification
    → ((base : EngineBase) (m : Bus) → EngineFollowsPort base m e s → EngineFollowsPort base m f t)
    → Steps e s f t → EngineGoesWithPort e s f t
moves e f on s t lands tally identified follows steps = record {
  works = engine_moves_works e f on lands;
  follows = follows;
  resumes = engine_resumes_by e f s t lands.task (omega (arith, ap (λ i. i.lost) tally)) steps follows;
  later = record {
    identification = identified;
    disturbed = omega (arith, ap (λ i. i.disturbed) tally);
    lost = omega (arith, ap (λ i. i.lost) tally);
  };
  asked = λ few. omega (arith, ap (λ i. i.asked) tally, lands.requests);
  lost_early = λ on base start h opening is. absurd (no_lost f.state lands.quiet is);
}

-- the engine still follows the memory
follows_by : (e f : Engine) (s t : Port) → engine_lands_from e f → t.tally ≡ s.tally
    → ((base : EngineBase) (m : Bus) → EngineFollowsPort base m e s → TracksEngine base m f t)
    → (base : EngineBase) (m : Bus) → EngineFollowsPort base m e s → EngineFollowsPort base m f t
follows_by e f s t lands tally tracks base m h = grind arith

-- the engine is still early
steps_by : (e f : Engine) (s t : Port) → engine_lands_from e f → t.tally ≡ s.tally
    → ((base : EngineBase) (start : Port) → EngineIsInResumedOpening base start e s
    → EngineIsInResumedOpening base start f t) → Steps e s f t
steps_by e f s t lands tally step = grind (arith, engine_stays_early)

-- a data phase that is read, as a step of the model: what the engine and the port keep over it
pub engine_take_goes : (e f : Engine) (on : engine_is_resting e ≡ false) (s t : Port) (bits : ℕ) → bits < 2 ^ 33
    → engine_cue e ≡ Some CueTake → PortTakes s bits t → EngineTookData bits e f → EngineGoesWithPort e s f t
engine_take_goes e f on s t bits range cue takes took =
    let lands : engine_lands_from e f = took.lands in
    let p : IsEngineTaking e.state e.task = engine_at_take e.state e.stray e.task cue in
    let job : engine_job e.state ≡ p.job = ap engine_job p.at in
    let tally : t.tally ≡ s.tally = port_others_uncounted CueTake bits s t refl takes in
    moves e f on s t lands tally (port_identification_kept CueTake bits s t takes)
    (follows_by e f s t lands tally (λ base m h. took.tracks base m t (
      h.task,
      subst
          (λ j. EngineTookForJob j (data_phase_word bits) (base.disturbed + e.events) e.begun (hand_of_engine e m) t)
          (sym job) (taken_facts (base.disturbed + e.events) e.begun (hand_of_engine e m) s t bits range takes p.job
          p.reads p.ahead_not (tracked base m e s (Doing p.job Data) p.at h.tracks)),
    )))
    (steps_by e f s t lands tally (λ base start h. took.early base start t
    (subst (λ j. ResumedOpeningTookData j (data_phase_word bits) (base.disturbed + e.events) e.stray start t) (sym job)
    (read_early (base.disturbed + e.events) e.stray start bits s t range takes p.job e.task p.reads
    (early_at base start e s (Doing p.job Data) p.at h)))))

left_at_state : (base : EngineBase) (m : Bus) (e : Engine) (t : Port) (x : State) → e.state ≡ x
    → EngineHoldsAfterCue x (base.disturbed + e.events) e.begun (hand_of_engine e m) t
    → EngineHoldsAfterCue e.state (base.disturbed + e.events) e.begun (hand_of_engine e m) t
left_at_state base m e t x at h = subst (λ y. EngineHoldsAfterCue y (base.disturbed + e.events) e.begun
    (hand_of_engine e m) t) (sym at) h

early_left_at : (base : EngineBase) (start : Port) (e : Engine) (t : Port) (x : State) → e.state ≡ x
    → ResumedOpeningAfterCue x (base.disturbed + e.events) e.stray start t
    → ResumedOpeningAfterCue e.state (base.disturbed + e.events) e.stray start t
early_left_at base start e t x at h = subst (λ y. ResumedOpeningAfterCue y (base.disturbed + e.events) e.stray start t)
    (sym at) h

-- a data phase that is written, as a step of the model: what the engine and the port keep over it
pub engine_give_goes : (e f : Engine) (on : engine_is_resting e ≡ false) (s t : Port) (sent : ℕ) → sent < 2 ^ 33
    → engine_cue e ≡ Some (CueGive sent) → PortGives s sent t → EngineSentCue e f → EngineGoesWithPort e s f t
engine_give_goes e f on s t sent range cue gives did =
    let lands : engine_lands_from e f = did.lands in
    let p : IsEngineGiving e.state e.task sent = engine_at_give e.state e.stray e.task sent cue in
    let tally : t.tally ≡ s.tally = port_others_uncounted (CueGive sent) 0 s t refl gives in
    let follows : (base : EngineBase) (m : Bus) → EngineFollowsPort base m e s → EngineFollowsPort base m f t =
    follows_by e f s t lands tally (λ base m h. did.tracks base m t (
      h.task,
      left_at_state base m e t (Doing p.job Data) p.at
          (job_gave (base.disturbed + e.events) e.begun
          (hand_of_engine e m) s t sent range gives p.job p.gives p.is p.sends h.task
          (tracked base m e s (Doing p.job Data) p.at h.tracks)),
    )) in
    moves e f on s t lands tally (port_identification_kept (CueGive sent) 0 s t gives) follows
    (λ base start ok few h.
    elim (given_early (base.disturbed + e.events) e.stray start sent s t range gives p.job e.task p.gives p.is p.sends
    (early_at base start e s (Doing p.job Data) p.at h)) [
      | inl at ↦
          (let chosen = opening_select_chooses base start e s p.job p.at at ok few h in
          over chosen.memory chosen.comes (follows base chosen.memory chosen.follows))
      | inr left ↦ early (subst IsTask (sym lands.task) ok) (omega (arith, ap (λ i. i.lost) tally, few))
          (did.early base start t (early_left_at base start e t (Doing p.job Data) p.at left))
    ])

passed_left : (n tries : ℕ) (base : EngineBase) (b : ℕ) (k : EngineHand) (x : State) (stray : Bool) (task : Task)
    (s t : Port) → engine_cue_at x stray task ≡ Some CuePass → PortPasses s t → EngineStateTracks x n tries base b k s
    → EngineHoldsAfterCue x n b k t
passed_left n tries base b k x stray task s t e passes h = grind (arith, host_pass_after_fault, host_pass_after_wait)

-- a turnaround keeps what is known before each request of a resumed opening
passed_before : (job : Job) (n : ℕ) (stray : Bool) (start s t : Port) → PortPasses s t
    → ResumedBefore job n stray start s → ResumedBefore job n stray start t
passed_before job n stray start s t passes h =
    let (a, first, passed, line) = port_turnaround_passed s t passes in
    opening_job_framed job n n stray start a t (host_frame_passed a t passed) (host_flags_passed a t passed)
    (omega (arith, ap (λ i. i.disturbed) passed.tally)) (opening_job_completed job n stray start s a first h)

no_pass_at_data : (job : Job) (stray : Bool) (task : Task) → engine_cue_at (Doing job Data) stray task ≢ Some CuePass
no_pass_at_data job stray task e = grind arith

passed_early : (n tries : ℕ) (base : EngineBase) (x : State) (stray : Bool) (task : Task) (start s t : Port)
    → engine_cue_at x stray task ≡ Some CuePass → PortPasses s t → ResumedOpening x n tries base stray start s
    → ResumedOpeningAfterCue x n stray start t
passed_early n tries base (Doing (At Select) Waited) stray task start s t e passes h =
    passed_before (At Select) (n + 1) stray start s t passes h
passed_early n tries base (Doing (At Select) Faulted) stray task start s t e passes h =
    passed_before (Status Select) n stray start s t passes h
passed_early n tries base Leading stray task start s t e passes h = absurd (cc)
passed_early n tries base (Resting outcome) stray task start s t e passes h = absurd (cc)
passed_early n tries base (Doing job Ask) stray task start s t e passes h = absurd (cc)
passed_early n tries base (Doing job Data) stray task start s t e passes h = absurd (no_pass_at_data job stray task e)
passed_early n tries base (Doing _ Waited) stray task start s t e passes h = absurd h
passed_early n tries base (Doing _ Faulted) stray task start s t e passes h = absurd h

-- the turnaround after WAIT or FAULT, as a step of the model: what the engine and the port keep over it
pub engine_pass_goes : (e f : Engine) (on : engine_is_resting e ≡ false) (s t : Port) → engine_cue e ≡ Some CuePass
    → PortPasses s t → EngineSentCue e f → EngineGoesWithPort e s f t
engine_pass_goes e f on s t cue passes did =
    let lands : engine_lands_from e f = did.lands in
    let tally : t.tally ≡ s.tally = port_others_uncounted CuePass 0 s t refl passes in
    moves e f on s t lands tally (port_identification_kept CuePass 0 s t passes)
    (follows_by e f s t lands tally (λ base m h. did.tracks base m t (
      h.task,
      passed_left (base.disturbed + e.events) e.tries base e.begun
          (hand_of_engine e m) e.state e.stray e.task s t cue passes h.tracks,
    )))
    (steps_by e f s t lands tally (λ base start h. did.early base start t
    (passed_early (base.disturbed + e.events) e.tries base e.state e.stray e.task start s t cue passes h)))

led_left : (n tries : ℕ) (base : EngineBase) (b : ℕ) (k : EngineHand) (x : State) (stray : Bool) (task : Task)
    (ones undriven low : ℕ)
    (switch : Bool) (s t : Port) → engine_cue_at x stray task ≡ Some (Lead ones undriven switch low)
    → PortLeads s ones t
    → EngineStateTracks x n tries base b k s → EngineHoldsAfterCue x n b k t
led_left n tries base b k x stray task ones undriven low switch s t e leads h = grind arith

-- a line reset keeps what is known of a target in any state
led_anywhere : (n : ℕ) (stray : Bool) (start : Port) (ones : ℕ) (s t : Port) → ones ≢ 0 → PortLeads s ones t
    → ResumedOpeningAnywhere n stray start s → ResumedAfterReset n stray start t
led_anywhere n stray start ones s t some leads h =
    let (a, first, reset) = port_line_reset ones s t some leads in
    let there : ResumedOpeningAnywhere n stray start a = opening_any_completed n stray start s a first h in
    let pending : t.target.pending ≡ a.target.pending = ap (λ i. i.pending) reset.target in
    record {
      any = record {
        select = ap (λ i. i.select) reset.target ∙ there.select;
        odd = ap (λ i. i.identification % 2) reset.target ∙ there.odd;
        comes = opening_comes_same start a t pending (ap (λ i. i.tar) reset.target) (ap (λ i. i.memory) reset.target)
            there.comes;
        awaited = elim there.awaited [ inl g ↦ inl g | inr p ↦ inr (pending ∙ p) ];
        paid = omega (arith, there.paid, ap (λ i. i.disturbed) reset.tally);
      };
      reset = λ e. absurd (let f : t.target.reset ≡ Fresh = ap (λ i. i.reset) reset.target in cc);
    }

some_ones : (stray : Bool) (ones undriven : ℕ) (switch : Bool) (low : ℕ)
    → Some (engine_lead_cue stray) ≡ Some (Lead ones undriven switch low) → ones ≢ 0
some_ones stray ones undriven switch low e = grind arith

no_lead_at_data : (job : Job) (stray : Bool) (task : Task) (ones undriven low : ℕ) (switch : Bool)
    → engine_cue_at (Doing job Data) stray task ≢ Some (Lead ones undriven switch low)
no_lead_at_data job stray task ones undriven low switch e = grind arith

led_first : (n tries : ℕ) (base : EngineBase) (x : State) (stray : Bool) (task : Task) (ones undriven low : ℕ)
    (switch : Bool)
    (start s t : Port) → engine_cue_at x stray task ≡ Some (Lead ones undriven switch low) → PortLeads s ones t
    → ResumedOpening x n tries base stray start s → ResumedOpeningAfterCue x n stray start t
led_first n tries base Leading stray task ones undriven low switch start s t e leads h =
    led_anywhere n stray start ones s t (some_ones stray ones undriven switch low e) leads h
led_first n tries base (Doing job Ask) stray task ones undriven low switch start s t e leads h = absurd (cc)
led_first n tries base (Doing job Data) stray task ones undriven low switch start s t e leads h =
    absurd (no_lead_at_data job stray task ones undriven low switch e)
led_first n tries base (Doing job Waited) stray task ones undriven low switch start s t e leads h = absurd (cc)
led_first n tries base (Doing job Faulted) stray task ones undriven low switch start s t e leads h = absurd (cc)
led_first n tries base (Resting outcome) stray task ones undriven low switch start s t e leads h = absurd (cc)

-- the line reset of the opening, as a step of the model: what the engine and the port keep over it
pub engine_lead_goes : (e f : Engine) (on : engine_is_resting e ≡ false) (s t : Port) (ones undriven low : ℕ)
    (switch : Bool)
    → engine_cue e ≡ Some (Lead ones undriven switch low) → PortLeads s ones t → EngineSentCue e f
    → EngineGoesWithPort e s f t
engine_lead_goes e f on s t ones undriven low switch cue leads did =
    let lands : engine_lands_from e f = did.lands in
    let tally : t.tally ≡ s.tally = port_others_uncounted (Lead ones undriven switch low) 0 s t refl leads in
    moves e f on s t lands tally (port_identification_kept (Lead ones undriven switch low) 0 s t leads)
    (follows_by e f s t lands tally (λ base m h. did.tracks base m t (
      h.task,
      led_left (base.disturbed + e.events) e.tries base e.begun
          (hand_of_engine e m) e.state e.stray e.task ones undriven low switch s t cue leads h.tracks,
    )))
    (steps_by e f s t lands tally (λ base start h. did.early base start t
    (led_first (base.disturbed + e.events) e.tries base e.state e.stray e.task ones undriven low switch start s t cue
    leads h)))
