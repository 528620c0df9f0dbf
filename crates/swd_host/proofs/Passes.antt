-- Each turnaround and the lead keep what the engine knows.
use Rattle.swd_host.proofs.Words.{◌≡◌, ℕ, inl, inr, arith, None, Port, PortPasses, HostStep, false, refl}
use Rattle.swd_host.proofs.Words.{engine_place_is_confirm, Confirm, Job, At, Resend, Status, LastStatus, Clear, Check}
use Rattle.swd_host.proofs.Words.{EngineHand, EnginePlaceIsSure, EngineResendWord, EngineBefore, EngineFaultAtJob}
use Rattle.swd_host.proofs.Words.{EngineWaitAtJob}
use Rattle.swd_port.proofs.MovingLaws.{port_turnaround_at_rest}
use Rattle.swd_host.proofs.Frames.{host_frame_passed, host_flags_passed, before_framed}
use Rattle.swd_host.proofs.Asks.{host_damaged_calm}
use Rattle.swd_host.proofs.Sends.{host_facts_at_rest, host_refused_at_rest, host_checks_at_rest}

-- TURNAROUNDS
before_rested : (job : Job) (n b : ℕ) (k : EngineHand) (s t : Port) → s.target.pending ≡ None → PortPasses s t
    → EngineBefore job n b k s → EngineBefore job n b k t
before_rested job n b k s t rest passes h =
    grind (arith, before_framed, host_frame_passed, host_flags_passed, port_turnaround_at_rest)

confirm_passed : (n b : ℕ) (k : EngineHand) (s t : Port) → PortPasses s t → EnginePlaceIsSure Confirm n b k s
    → EnginePlaceIsSure Confirm n b k t
confirm_passed n b k s t passes h = grind arith

resent_passed : (p : HostStep) (word n b : ℕ) (k : EngineHand) (s t : Port) → PortPasses s t
    → EngineResendWord p word n b k s → EngineResendWord p word n b k t
resent_passed p word n b k s t passes h = grind arith

sure_rest : (p : HostStep) (n b : ℕ) (k : EngineHand) (s : Port) → engine_place_is_confirm p ≡ false
    → EnginePlaceIsSure p n b k s → s.target.pending ≡ None
sure_rest p n b k s other h = grind arith

-- a turnaround leaves what is known before a request
place_passed : (p : HostStep) (n b : ℕ) (k : EngineHand) (s t : Port) → PortPasses s t → EnginePlaceIsSure p n b k s
    → EngineBefore (At p) n b k t
place_passed Confirm n b k s t passes h = inl (confirm_passed n b k s t passes h)
place_passed p n b k s t passes h = before_rested (At p) n b k s t (sure_rest p n b k s refl h) passes (inl h)

before_passed : (job : Job) (n b : ℕ) (k : EngineHand) (s t : Port) → PortPasses s t → EngineBefore job n b k s
    → EngineBefore job n b k t
before_passed (At p) n b k s t passes (inl h) = place_passed p n b k s t passes h
before_passed (At p) n b k s t passes (inr h) =
    before_rested (At p) n b k s t (host_damaged_calm p n b k s h).pending passes (inr h)
before_passed (Resend p) n b k s t passes h = (h.0, resent_passed p h.0 n b k s t passes h.1)
before_passed (Status p) n b k s t passes h = before_rested (Status p) n b k s t
    (host_refused_at_rest p n b k s h).pending passes h
before_passed LastStatus n b k s t passes h = absurd h
before_passed (Clear p owed) n b k s t passes h = before_rested (Clear p owed) n b k s t
    (host_facts_at_rest owed.error p b k s h.facts).pending passes h
before_passed (Check p owed) n b k s t passes h = before_rested (Check p owed) n b k s t
    (host_checks_at_rest p owed n b k s h).pending passes h

-- the turnaround after WAIT keeps what is known
pub host_pass_after_wait : (job : Job) (n b : ℕ) (k : EngineHand) (s t : Port) → PortPasses s t
    → EngineWaitAtJob job n b k s → EngineWaitAtJob job n b k t
host_pass_after_wait job n b k s t passes h = grind (arith, before_passed)

-- the turnaround after FAULT keeps what is known
pub host_pass_after_fault : (job : Job) (n b : ℕ) (k : EngineHand) (s t : Port) → PortPasses s t
    → EngineFaultAtJob job n b k s → EngineFaultAtJob job n b k t
host_pass_after_fault job n b k s t passes h = grind arith
