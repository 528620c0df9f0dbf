-- How the requests of events add up: a number of events times those of one. For the bounds on the requests of a call.
use Rattle.swd_host.proofs.Words.{◌≡◌, ◌+◌, ◌-◌, ◌*◌, ◌<◌, ◌≤◌, ℕ, ap, arith, ◌∙◌, Bursts, event_requests}
use Rattle.swd_host.specs.declared.task.Bursts.TheVariants.{Never, Writes, Reads}

-- where no event was met yet, all that the tries allow are left
pub event_requests_fresh : (kind k : Bursts) (tries t events : ℕ) → k ≡ kind → t ≡ tries → events ≡ 0
    → event_requests k * (t - events) ≡ event_requests kind * tries
event_requests_fresh kind k tries t events same_kind same_tries none =
    let same : t - events ≡ tries = omega (arith, same_tries, none) in
    ap (λ x. event_requests x * (t - events)) same_kind ∙ ap (λ n. event_requests kind * n) same

-- an event takes at most six requests
pub event_requests_most : (kind : Bursts) (n : ℕ) → event_requests kind * n ≤ 6 * n
event_requests_most Never n = omega arith
event_requests_most Writes n = omega arith
event_requests_most Reads n = omega arith

-- the requests of two numbers of events are at most those of a number that is no less than both together
pub event_requests_sum : (kind : Bursts) (a b d : ℕ) → a + b ≤ d
    → event_requests kind * a + event_requests kind * b ≤ event_requests kind * d
event_requests_sum Never a b d h = omega arith
event_requests_sum Writes a b d h = omega arith
event_requests_sum Reads a b d h = omega arith

-- where the requests that the events still allowed may take are left, those sent are at most those of the events met
pub event_requests_met : (kind : Bursts) (tries events r x : ℕ)
    → r + event_requests kind * (tries - events) ≤ event_requests kind * tries + x
    → r ≤ event_requests kind * events + x
event_requests_met Never tries events r x h = omega arith
event_requests_met Writes tries events r x h = omega arith
event_requests_met Reads tries events r x h = omega arith

-- one disturbance beyond the tries has five more requests at least
pub event_requests_beyond : (kind : Bursts) (tries d : ℕ) → tries < d
    → event_requests kind * tries + 5 ≤ event_requests kind * d
event_requests_beyond Never tries d h = omega arith
event_requests_beyond Writes tries d h = omega arith
event_requests_beyond Reads tries d h = omega arith
