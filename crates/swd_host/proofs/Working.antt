-- What the engine keeps by itself, over one call of the wire and over calls one after the other, whatever came back.
use Rattle.swd_host.proofs.Words.{◌≡◌, ◌+◌, ◌^◌, ◌≤◌, ◌<◌, ◌||◌, ℕ, Bool, Some, true, false, if◌then◌else◌, max, inl}
use Rattle.swd_host.proofs.Words.{inr, ap, sym, subst, arith, ◌∙◌, bit, Request, Port, Lost, Stopped, Task, Job, CueAsk}
use Rattle.swd_host.proofs.Words.{Ask, Data, Waited, State, Doing, Resting, Engine, engine_request_for}
use Rattle.swd_host.proofs.Words.{engine_job_starts, task_most_begun, engine_least_for, engine_least_in, engine_cue}
use Rattle.swd_host.proofs.Words.{engine_is_resting, engine_job_is_of, engine_state_is_of, engine_count_more}
use Rattle.swd_host.proofs.Words.{engine_job, engine_open_requests, engine_state_after_ack, EngineDueAt, EngineDueFits}
use Rattle.swd_host.proofs.Words.{EngineSeesAck, engine_lands_from, EngineIsCountable, EngineWorks, engine_stops_at_all}
use Rattle.std.proofs.lemmas.Bool.{cases_lt}
use Rattle.swd_port.specs.Answers.{port_due_after}
use Rattle.swd_port.specs.declared.wire.Due.TheVariants.{Take, Give, Pass, Lost as DueLost}
use Rattle.swd_host.specs.declared.engine.Phase.TheVariants.{Faulted}
use Rattle.swd_host.specs.Engines.{engine_cue_at}
use Rattle.swd_host.specs.Replies.{EngineTookReply}
use Rattle.swd_host.specs.Turns.{engine_begun_left}

-- A REQUEST
pub record IsEngineAsking (x : State) (task : Task) (q : Request) : Type 0 where
  pub job : Job
  pub at : x ≡ Doing job Ask
  pub is : q ≡ engine_request_for job task

-- where the cue is a request, the engine has a job to ask for, and the request is that job's
pub engine_at_ask : (x : State) (stray : Bool) (task : Task) (q : Request)
    → engine_cue_at x stray task ≡ Some (CueAsk q) → IsEngineAsking x task q
engine_at_ask x stray task q e = grind arith

-- no request of the opening starts an access
opening_begins : (job : Job) (task : Task) → engine_job_is_of true job ≡ true → engine_job_starts job task ≡ 0
opening_begins job task h = grind arith

begins_least : (job : Job) (task : Task) (aims : Bool) → 1 ≤ engine_job_starts job task
    → bit aims + engine_job_starts job task ≤ engine_least_for aims job + 1
begins_least job task aims some = grind arith

-- a request puts no more accesses in flight than its task may have
begins_few : (job : Job) (task : Task) → engine_job_starts job task ≤ task_most_begun task
begins_few job task = grind arith

-- the greater of two numbers within a bound is within that bound
max_few : (a b most : ℕ) → a ≤ most → b ≤ most → max a b ≤ most
max_few a b most h i = grind arith

max_grown : (a b : ℕ) → a < max a b → max a b ≡ b
max_grown a b h = grind arith

-- the greater of two zeros is zero
max_none : (a b : ℕ) → a ≡ 0 → b ≡ 0 → max a b ≡ 0
max_none a b h i = grind arith

-- the saturating count of requests rises by one or not at all
pub engine_one_more_least : (n : ℕ) → (n ≤ engine_count_more n) × (engine_count_more n ≤ n + 1)
engine_one_more_least n = grind arith

-- while it stays below 2^64, that count rises by one
pub engine_one_more_exact : (n : ℕ) → n + 1 < 2 ^ 64 → engine_count_more n ≡ n + 1
engine_one_more_exact n h = grind arith

seen_never : (job : Job) (v : ℕ) → engine_stops_at_all (engine_state_after_ack job v) ≡ false
seen_never job v = grind arith

-- a request: what the engine keeps by itself over it, whatever three bits came back
pub engine_ask_works : (e f : Engine) (on : engine_is_resting e ≡ false) (q : Request) (v : ℕ)
    → engine_cue e ≡ Some (CueAsk q) → EngineTookReply (CueAsk q) v e f → EngineWorks e f
engine_ask_works e f on q v cue saw =
    let left : engine_open_requests f + 1 ≤ engine_open_requests e = saw.fewer in
    let sent : f.requests ≡ engine_count_more e.requests = saw.requests in
    let sees : EngineSeesAck v e f = saw.sees in
    let a : IsEngineAsking e.state e.task q = engine_at_ask e.state e.stray e.task q cue in
    let more : (e.requests ≤ engine_count_more e.requests) × (engine_count_more e.requests ≤ e.requests + 1) =
    engine_one_more_least e.requests in
    let exact : EngineIsCountable e → f.requests ≡ e.requests + 1 =
    λ few. sent ∙ engine_one_more_exact e.requests (omega arith) in
    let begun_is : f.begun ≡ max e.begun (engine_job_starts a.job e.task) =
    sees.begun ∙ ap (λ x. max e.begun (engine_job_starts (engine_job x) e.task)) a.at in
    record {
      task = sees.task;
      aims = sees.aims;
      tries = sees.tries;
      part = sees.part;
      rests = λ at. absurd (let both : true ≡ false = sym at ∙ on in cc);
      bursts = sees.bursts;
      few = λ few. subst (λ b. b ≤ task_most_begun e.task) (sym begun_is)
          (max_few e.begun (engine_job_starts a.job e.task) (task_most_begun e.task) few (begins_few a.job e.task));
      unbegun = λ opening h. begun_is ∙ max_none e.begun (engine_job_starts a.job e.task) h
          (opening_begins a.job e.task (sym (ap (engine_state_is_of true) a.at) ∙ opening));
      more = omega (arith, sent, more.0);
      spends = omega (arith, sent, more.1, left);
      least = λ few. omega (arith, exact few, sees.least);
      begun = λ few grows. (
          let by : f.begun ≡ engine_job_starts a.job e.task =
          begun_is ∙ max_grown e.begun (engine_job_starts a.job e.task)
          (subst (λ b. e.begun < b) begun_is grows) in
          let here : engine_least_in e.aims e.state ≡ engine_least_for e.aims a.job =
          ap (engine_least_in e.aims) a.at in
          let least : bit e.aims + engine_job_starts a.job e.task ≤ engine_least_for e.aims a.job + 1 =
          begins_least a.job e.task e.aims (omega arith) in
          omega (arith, exact few));
      never = λ h. ap engine_stops_at_all sees.state ∙ seen_never (engine_job e.state) v;
    }

-- what is due after the three bits that were seen is what the engine's state after them expects
pub engine_due_seen : (job : Job) (stray : Bool) (task : Task) (one two four : Bool) →
    EngineDueAt (if one then Doing job Data else if two then Doing job Waited else if four then Doing job Faulted else
    Resting (Stopped Lost)) stray task
    (if one then (if (engine_request_for job task).read then Take else Give) else if two || four then Pass else DueLost)
engine_due_seen job stray task one two four = grind arith

-- what is due after a request, by the framing alone
pub engine_ask_due : (e f : Engine) (t : Port) (q : Request) (v : ℕ) → engine_cue e ≡ Some (CueAsk q)
    → t.link.due ≡ port_due_after q.read v → EngineSeesAck v e f → EngineDueFits f t
engine_ask_due e f t q v cue framed sees = grind (arith, engine_at_ask, engine_due_seen)

-- EVERY OTHER CALL
left_few : (x : State) (task : Task) (b : ℕ) → engine_begun_left x task b ≤ b
left_few x task b = grind arith

-- a call that is no request
pub engine_moves_works : (e f : Engine) (on : engine_is_resting e ≡ false) → engine_lands_from e f → EngineWorks e f
engine_moves_works e f on lands = grind (arith, left_few)

-- CALLS ONE AFTER THE OTHER
-- what the engine keeps by itself over calls holds where no call was made
pub engine_works_refl : (e : Engine) → EngineWorks e e
engine_works_refl e = grind arith

begun_then : (e f g : Engine) → EngineWorks e f → EngineWorks f g → EngineIsCountable e → e.begun < g.begun
    → e.requests + bit e.aims + g.begun ≤ g.requests + engine_least_in e.aims e.state
begun_then e f g a b few grows =
    let countable : EngineIsCountable f = (let l = a.spends in omega arith) in
    elim (cases_lt f.begun g.begun) [
      | inl late ↦ omega (arith, a.least few, ap bit a.aims, b.begun countable late)
      | inr soon ↦ omega (arith, a.begun few (omega arith), b.more)
    ]

-- a call, and those after it
pub engine_works_trans : (e f g : Engine) → engine_is_resting f ≡ false → EngineWorks e f → EngineWorks f g
    → EngineWorks e g
engine_works_trans e f g on a b = grind (arith, begun_then)
