-- What the engine keeps by itself along a list, whatever came back.
use Rattle.swd_host.proofs.Words.{event_requests, engine_open_requests, engine_begun}
use Rattle.swd_host.proofs.Words.{◌≡◌, ◌≢◌, ◌+◌, ◌*◌, ◌^◌, ◌<◌, ◌≤◌, ℕ, Bool, true, false, refl, sym, ap, arith, ◌∙◌}
use Rattle.swd_host.proofs.Words.{subst, List, [], ◌∷◌, ◌++◌, length, get_or, length-append, Option, Some, None}
use Rattle.swd_host.proofs.Words.{if◌then◌else◌, Access, Answer, Due, Nothing, Port, End, All, Answered, Stopped, Ahead}
use Rattle.swd_host.proofs.Words.{Resting, Engine, Bursts, Task, continues_burst, access_of_task, is_burst, task_for}
use Rattle.swd_host.proofs.Words.{task_most_begun, bursts_limit, engine_is_ahead, engine_outcome, engine_stray_left}
use Rattle.swd_host.proofs.Words.{EngineDueAt, EngineDueFits, engine_next_failed, engine_stops_at_all}
use Rattle.swd_host.proofs.Words.{engine_first_state, EngineIsNew, EngineStarts, EngineWorks, HostReport}
use Rattle.swd_host.proofs.Words.{HostNextAccess, Closes, BurstContinuesAt, EngineHasOpened, EnginePerforms}
use Rattle.swd_host.proofs.Words.{engine_report}
use Rattle.std.specs.Prelude.{min}
use Rattle.swd_host.specs.Reports.{host_due_at_end}
use Rattle.swd_host.specs.Standing.{EngineStays}
use Rattle.swd_host.proofs.Lists.{burst_follower_continues}
use Rattle.swd_host.specs.Turns.{EngineContinuesBurst}
use Rattle.swd_host.proofs.Starts.{engine_ahead_burst, same_access, burst_continues, start_left, start_begun, task_most}
use Rattle.swd_host.proofs.Ends.{engine_stop_begun}
use Rattle.swd_host.proofs.Openings.{new_open}

-- BEFORE THE FIRST ACCESS
pub opened_engine_stays : (list : List Access) (o : Engine) (s : Port) → EngineHasOpened o → s.link.due ≡ Nothing
    → EngineStays 0 list o o [] s
opened_engine_stays list o s has due = grind arith

more_spent : (i k n : ℕ) → n + i * k + k ≡ n + (i + 1) * k
more_spent i k n = grind arith

-- what comes next after a stop
stopped_due : (end : End) (stray : Bool) (task : Task) (due : Due) → EngineDueAt (Resting (Stopped end)) stray task due
    → due ≡ host_due_at_end end
stopped_due end stray task due h = grind arith

first_never : (ahead : Bool) (further : Ahead) (aims : Bool)
    → engine_stops_at_all (engine_first_state ahead further aims) ≡ false
first_never ahead further aims = grind arith

one_most : (task : Task) → 1 ≤ task_most_begun task
one_most task = grind arith

min_next : (i k n : ℕ) → k ≡ i → i < n → min n (k + 1) ≡ i + 1
min_next i k n is low = grind arith

-- AN ACCESS
-- the access at i is the one that continues a burst
pub burst_next_access : (i : ℕ) (list : List Access) (o e : Engine) (answers : List Answer) (t : Port) (d : Access)
    → EngineStays i list o e answers t → EngineContinuesBurst e (get_or list i d)
burst_next_access i list o e answers t d stays =
    record { on = λ on. (stays.chain (engine_ahead_burst e.state e.task on)).1 d }

module _ (i : ℕ) (list : List Access) (o e g f : Engine) (answers : List Answer) (t u : Port) (d : Access)
    (following : Option Access) (stays : EngineStays i list o e answers t)
    (starts : EngineStarts (get_or list i d) following e g) (works : EngineWorks g f) where
  -- the access that was started is the one at i
  pub access_here : access_of_task f.task ≡ get_or list i d
  access_here = ap access_of_task works.task ∙ same_access (get_or list i d) following e g starts

  follower_here : ((b : Access) → following ≡ Some b → HostNextAccess i list b)
      → (b : Access) → (if engine_next_failed e then None else following) ≡ Some b → HostNextAccess i list b
  follower_here next b = grind arith

  -- an access of a burst is followed by the one that continues it
  pub chain_here : ((b : Access) → following ≡ Some b → HostNextAccess i list b) → is_burst f.task ≡ true
      → BurstContinuesAt list (i + 1) (access_of_task f.task)
  chain_here next burst =
      let task : f.task ≡ task_for e.bursts (get_or list i d) (if engine_next_failed e then None else following) =
      works.task ∙ starts.task in
      let on_it : continues_burst (get_or list i d) (if engine_next_failed e then None else following) ≡ true =
      burst_continues e.bursts (get_or list i d) (if engine_next_failed e then None else following)
      (sym (ap is_burst task) ∙ burst) in
      subst (BurstContinuesAt list (i + 1)) (sym access_here)
      (burst_follower_continues list i (get_or list i d) (if engine_next_failed e then None else following) on_it
      (follower_here next))

  -- the most requests of the access
  pub started_left : engine_open_requests g ≤ event_requests o.bursts * o.tries + 6
  started_left = subst (λ n. engine_open_requests g ≤ n + 6)
      (ap (λ b. event_requests b * e.tries) stays.bursts ∙ ap (λ n. event_requests o.bursts * n) stays.tried)
      (start_left (get_or list i d) following e g starts)

  access_spends : f.requests ≤ o.requests + (i + 1) * (6 + event_requests o.bursts * o.tries)
  access_spends = omega (
    arith,
    works.spends,
    started_left,
    starts.requests,
    stays.spent,
    more_spent i (6 + event_requests o.bursts * o.tries) o.requests,
  )

  -- no more accesses are in flight than the kind of burst allows
  pub few_here : f.begun ≤ bursts_limit o.bursts
  few_here = grind (arith, one_most, start_begun, task_most)

  -- it stopped
  pub access_performs : (end : End) → i < length list → EngineDueFits f u → f.state ≡ Resting (Stopped end) → end ≢ All
      → (before after : List Answer) → after ≡ before ++ answers → EnginePerforms list o f before after end u.link.due
  access_performs end low due at never before after added =
      grind (arith, access_spends, engine_stop_begun, few_here, min_next, stopped_due)

  -- once the access at i is answered, what the engine keeps by itself after i answers holds after i + 1
  pub answered_stays : (answer : Answer) (more : List Answer) → more ≡ answers ++ answer ∷ [] → EngineDueFits f u
      → ((b : Access) → following ≡ Some b → HostNextAccess i list b) → engine_outcome f ≡ Some (Answered answer)
      → EngineStays (i + 1) list o f more u
  answered_stays answer more is_more due next finished =
      search (arith, access_spends, chain_here, few_here, length-append)

-- an engine that starts an access isn't stopped with `All`
pub engine_start_not_all : (a : Access) (following : Option Access) (e g : Engine) → EngineStarts a following e g
    → engine_stops_at_all g.state ≡ false
engine_start_not_all a following e g starts =
    ap engine_stops_at_all starts.state ∙ first_never (engine_is_ahead e) e.ahead g.aims

-- an engine that wasn't stopped with `All` before stops with another end, whatever came back
pub engine_stop_not_all : (g f : Engine) (end : End) → EngineWorks g f → engine_stops_at_all g.state ≡ false
    → f.state ≡ Resting (Stopped end) → end ≢ All
engine_stop_not_all g f end works before at all = grind arith

-- ALL ARE ANSWERED
last_of : (i : ℕ) (list : List Access) (o e : Engine) (answers : List Answer) (t : Port) (b : Bool)
    → EngineStays i list o e answers t → i ≡ length list → is_burst e.task ≡ b → b ≡ false
last_of i list o e answers t true stays all burst =
    let beyond : i < length list = (stays.chain burst).0 in absurd (omega arith)
last_of i list o e answers t false stays all burst = refl

-- no access follows the last one
pub last_task_not_burst : (i : ℕ) (list : List Access) (o e : Engine) (answers : List Answer) (t : Port)
    → EngineStays i list o e answers t → i ≡ length list → is_burst e.task ≡ false
last_task_not_burst i list o e answers t stays all = last_of i list o e answers t (is_burst e.task) stays all refl

-- what the engine reached by itself with a list whose accesses are all answered
pub engine_performs_all : (i : ℕ) (list : List Access) (o e : Engine) (answers : List Answer) (t : Port) (due : Due)
    → EngineStays i list o e answers t → i ≡ length list → due ≡ Nothing → (before after : List Answer)
    → after ≡ before ++ answers → EnginePerforms list o e before after All due
engine_performs_all i list o e answers t due stays h is before after added = grind arith

-- THE REPORT, from the opening and the list done after it
module _ (kind : Bursts) (again : Bool) (tries : ℕ) (e f : Engine) (small : tries < 2 ^ 32)
    (new : EngineIsNew kind again tries e) (works : EngineWorks e f) (list : List Access) where
  -- if the opening stopped, its report, without answers, has what every report has whatever the target answers
  pub opening_closes : (end : End) (due : Due) → f.state ≡ Resting (Stopped end)
      → EngineDueAt f.state f.stray f.task due
      → Closes (engine_stray_left again) kind list tries (engine_report [] f end) due
  opening_closes end due at fits = grind (arith, new_open kind again tries e new)

  -- so has the report of an opening and of the list done after it
  pub list_closes : (g : Engine) (end : End) (due : Due) (before after : List Answer)
      → (p : EnginePerforms list f g before after end due)
      → Closes (engine_stray_left again) kind list tries (engine_report p.answers g end) due
  list_closes g end due before after p =
      let same : event_requests f.bursts * f.tries ≡ event_requests kind * tries =
      ap (λ b. event_requests b * f.tries) (works.bursts ∙ new.bursts)
      ∙ ap (λ n. event_requests kind * n) (works.tries ∙ new.tries) in
      let spends : g.requests ≤ f.requests
      + min (length list) (length p.answers + 1) * (6 + event_requests kind * tries) =
      subst (λ n. g.requests ≤ f.requests + min (length list) (length p.answers + 1) * (6 + n)) same p.spends in
      record {
        number = p.number;
        whole = p.whole;
        begun = subst (λ n. engine_begun g ≤ n) (ap bursts_limit (works.bursts ∙ new.bursts)) p.begun;
        due = p.due;
        spends = omega (arith, spends, works.spends, new.requests, new_open kind again tries e new);
      }

-- by what the engine was made for
pub new_engine_closes : (kind : Bursts) (again : Bool) (spare tries : ℕ) (list : List Access) (e : Engine)
    (told : HostReport) (due : Due) → EngineIsNew kind again tries e
    → Closes spare e.bursts list e.tries told due → Closes spare kind list tries told due
new_engine_closes kind again spare tries list e told due new h =
    subst (λ k. Closes spare k list tries told due) new.bursts
    (subst (λ n. Closes spare e.bursts list n told due) new.tries h)

-- an equal report has what every report has
pub engine_closes_equal : (spare : ℕ) (kind : Bursts) (list : List Access) (tries : ℕ) (x y : HostReport) (due : Due)
    → y ≡ x → Closes spare kind list tries x due → Closes spare kind list tries y due
engine_closes_equal spare kind list tries x y due is h =
    subst (λ told. Closes spare kind list tries told due) (sym is) h
