-- The opening: how many requests it sends, and the engine at its end; also where it goes on after a lost
-- acknowledgement.
use Rattle.swd_host.proofs.Words.{event_requests}
use Rattle.swd_host.proofs.Words.{◌≡◌, ◌+◌, ◌-◌, ◌*◌, ◌^◌, ◌<◌, ◌≤◌, ℕ, Bool, true, false, ap, arith, is_some, Port}
use Rattle.swd_host.proofs.Words.{End, Lost, Opened, Stopped, Resting, Engine, Bursts, engine_is_resting}
use Rattle.swd_host.proofs.Words.{engine_outcome_at, engine_left_in}
use Rattle.swd_host.proofs.Words.{engine_stray_left, engine_open_requests, engine_state_is_of, EngineBase}
use Rattle.swd_host.proofs.Words.{EngineResumes, EngineIsNew, EngineGoesWithPort, HostEndsAt, ◌∙◌}
use Rattle.swd_host.proofs.EventRequests.{event_requests_fresh, event_requests_most}

-- an end, as it is since an earlier moment
pub engine_ends_since : (end : End) (tries : ℕ) (s t u : Port) → s.tally.disturbed ≤ t.tally.disturbed
    → s.tally.lost ≤ t.tally.lost → HostEndsAt end tries t u → HostEndsAt end tries s u
engine_ends_since end tries s t u fewer less h = grind arith

pub opening_stray_few : (again : Bool) → engine_stray_left again ≤ 5
opening_stray_few again = grind arith

-- a new engine has at most ten requests open, those of each of the tries, and five more where a run resumes
pub new_open : (kind : Bursts) (again : Bool) (tries : ℕ) (e : Engine) → EngineIsNew kind again tries e
    → engine_open_requests e ≤ event_requests kind * tries + engine_stray_left again + 10
new_open kind again tries e new = omega (
  arith,
  event_requests_fresh kind e.bursts tries e.tries e.events new.bursts new.tries new.events,
  ap engine_stray_left new.stray,
  ap (engine_left_in e.bursts) new.leads,
)

module _ (kind : Bursts) (again : Bool) (tries : ℕ) (e f : Engine) (s t : Port) (small : tries < 2 ^ 32)
    (new : EngineIsNew kind again tries e) (goes : EngineGoesWithPort e s f t) where
  new_left : engine_open_requests e ≤ event_requests kind * tries + engine_stray_left again + 10
  new_left = new_open kind again tries e new

  same_bursts : f.bursts ≡ kind
  same_bursts = goes.works.bursts ∙ new.bursts

  -- the requests of the events still allowed
  same_events : event_requests f.bursts * (f.tries - f.events) ≡ event_requests kind * (tries - f.events)
  same_events = ap (λ b. event_requests b * (f.tries - f.events)) same_bursts
      ∙ ap (λ n. event_requests kind * (n - f.events)) (goes.works.tries ∙ new.tries)

  -- requests sent, requests left without an event, and those of each event still allowed are at most ten, those of each
  -- of the tries, and five more where a run resumes
  pub opening_spends : f.requests + event_requests kind * (tries - f.events) + engine_left_in kind f.state
      ≤ event_requests kind * tries + engine_stray_left again + 10
  opening_spends = omega (
    arith,
    goes.works.spends,
    same_events,
    ap (λ b. engine_left_in b f.state) same_bursts,
    new.requests,
    new_left,
  )

  -- the port counts as many further requests as the engine sent in the opening
  pub opening_asked : t.tally.asked ≡ s.tally.asked + f.requests
  opening_asked = omega (
    arith,
    goes.asked (omega (
      arith,
      new_left,
      new.requests,
      opening_stray_few again,
      event_requests_most kind tries,
    )),
    new.requests,
  )

  opening_part : engine_state_is_of true e.state ≡ true
  opening_part = ap (engine_state_is_of true) new.leads

  -- in the opening no access is in flight
  pub opening_unbegun : f.begun ≡ 0
  opening_unbegun = goes.works.unbegun opening_part new.begun

  -- where it is lost, a request less was sent
  pub opening_lost : (base : EngineBase) (start : Port) → EngineResumes base start e s
      → f.state ≡ Resting (Stopped Lost)
      → f.requests + event_requests kind * (tries - f.events)
      ≤ event_requests kind * tries + engine_stray_left again + 9
  opening_lost base start h lost =
      let going : engine_is_resting e ≡ false = ap (λ x. is_some (engine_outcome_at x e.task)) new.leads in
      let early = goes.lost_early going base start h opening_part lost in
      omega (arith, early, new_left, new.requests, same_events)

  -- how many requests the opening has at least
  pub opened_sent : f.state ≡ Resting Opened → 9 ≤ f.requests
  opened_sent at = grind arith
