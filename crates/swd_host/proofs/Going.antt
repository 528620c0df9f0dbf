-- Calls one after the other: what the engine and the port keep over each, they keep over all.
use Rattle.swd_host.proofs.Words.{event_requests}
use Rattle.swd_host.proofs.Words.{◌≡◌, ◌+◌, ◌-◌, ◌*◌, ◌≤◌, true, false, refl, sym, ap, arith, ◌∙◌, is_some, Port}
use Rattle.swd_host.proofs.Words.{Engine, engine_is_resting, engine_outcome_at, engine_open_requests}
use Rattle.swd_host.proofs.Words.{EngineGoesWithPort, EngineIsCountable}
use Rattle.swd_host.specs.Turns.{EnginePortLater}
use Rattle.swd_host.proofs.Working.{engine_works_refl, engine_works_trans}

-- THE PORT, after calls and those after them
pub host_later_trans : (s t u : Port) → EnginePortLater s t → EnginePortLater t u → EnginePortLater s u
host_later_trans s t u a b = record {
  identification = b.identification ∙ a.identification;
  disturbed = omega (arith, a.disturbed, b.disturbed);
  lost = omega (arith, a.lost, b.lost);
}

-- THE ENGINE AND THE PORT
-- what they keep over calls holds where no call was made
pub engine_goes_refl : (e : Engine) (s : Port) → EngineGoesWithPort e s e s
engine_goes_refl e s = record {
  works = engine_works_refl e;
  follows = λ base m h. h;
  resumes = λ base start h. h;
  later = record { identification = refl; disturbed = omega arith; lost = omega arith };
  asked = λ few. omega arith;
  lost_early = λ on base start h opening is. absurd (
      let rests : engine_is_resting e ≡ true = ap (λ x. is_some (engine_outcome_at x e.task)) is in
      let both : true ≡ false = sym rests ∙ on in
      cc);
}

-- a call, and those after it
pub engine_goes_trans : (e f g : Engine) (s t u : Port) → engine_is_resting f ≡ false → EngineGoesWithPort e s f t
    → EngineGoesWithPort f t g u → EngineGoesWithPort e s g u
engine_goes_trans e f g s t u on a b =
    let countable : EngineIsCountable e → EngineIsCountable f = λ few. (let l = a.works.spends in omega arith) in
    record {
      works = engine_works_trans e f g on a.works b.works;
      follows = λ base m h. b.follows base m (a.follows base m h);
      resumes = λ base start h. b.resumes base start (a.resumes base start h);
      later = host_later_trans s t u a.later b.later;
      asked = λ few. omega (arith, a.asked few, b.asked (countable few));
      lost_early = λ going base start h opening is. (
          let early : g.requests + 1 + event_requests g.bursts * (g.tries - g.events)
          ≤ f.requests + engine_open_requests f =
          b.lost_early on base start (a.resumes base start h) (a.works.part true opening) is in
          omega (arith, a.works.spends));
    }
