-- What comes of a request, by what it meets: a law for each kind, and what it leaves of the host's facts.
use Rattle.swd_host.proofs.Words.{◌≡◌, ◌≢◌, ◌+◌, ◌≤◌, ◌<◌, ℕ, Bool, true, false, refl, sym, ap, inl, inr, arith, ◌∙◌}
use Rattle.swd_host.proofs.Words.{Option, None, ◌⊎◌, Request, data_phase_number, Port, port_register, Register}
use Rattle.swd_host.proofs.Words.{AbortWrite, CtrlStatRead, DrwRead, Live, is_exempt_register, PortAsks, port_has_power}
use Rattle.swd_host.proofs.Words.{ctrl_stat_word_in, PortIgnores, PortAccepts, PortPhaseSpared, IsPortNoAck}
use Rattle.swd_host.proofs.Words.{PortRefuses, okay, wait, fault, lost, PortOnLine, Job, At, Powered, host_reads_power}
use Rattle.swd_host.proofs.Words.{EngineHand, EngineBase, EngineBefore, EngineDuring, EngineFaultAtJob, EngineWaitAtJob}
use Rattle.swd_host.proofs.Words.{port_select_zero, OpeningAskedPower, OpeningReadsPower, EngineMemoryWithin}
use Rattle.swd_host.proofs.Words.{EngineReadsStatus, EngineReadsFlags, EngineReads, EngineWrites, whole, changed}
use Rattle.swd_bits.specs.declared.request.Reg4.TheVariants.{R0, R4}
use Rattle.swd_port.specs.Choices.{port_flipped}
use Rattle.swd_port.specs.Choices.{Choice}
use Rattle.swd_port.specs.declared.state.AfterAck.TheVariants.{Drives, Awaits}
use Rattle.swd_port.specs.Laws.WordsRead.{CtrlStatShows}
use Rattle.swd_port.proofs.RequestLaws.{port_exempt_at_rest, port_flagged_at_rest, port_free_exact}
use Rattle.swd_port.proofs.StatusLaws.{ctrl_stat_returned}
use Rattle.swd_host.specs.Requests.{engine_job_is_exempt as is_exempt_of}
use Rattle.swd_host.proofs.Frames.{HostFrame, HostSameFlags, host_frame_wait, host_flags_wait, host_frame_fault}
use Rattle.swd_host.proofs.Frames.{host_flags_fault, host_frame_okay, host_flags_okay, before_framed}
use Rattle.swd_host.proofs.Frames.{host_job_in_flight, host_job_events_paid, host_in_flight_carried}
use Rattle.swd_host.proofs.Frames.{host_lost_in_flight}

-- WHAT CAME OF A REQUEST
pub data HostAskOutcome (job : Job) (n : ℕ) (base : EngineBase) (b : ℕ) (k : EngineHand) (v : ℕ) (t : Port) : Type 0
  where
    -- OK was seen, with what is known while the data phase is due
    came_okay : v ≡ 1 → EngineDuring job n b k t → HostAskOutcome job n base b k v t
    -- WAIT was seen, at a request that may get it: what held before it still holds, with one more event
    came_wait : v ≡ 2 → EngineWaitAtJob job n b k t → HostAskOutcome job n base b k v t
    -- FAULT was seen, for data that was corrupted or for a bus error
    came_fault : v ≡ 4 → EngineFaultAtJob job n b k t → HostAskOutcome job n base b k v t
    -- no ACK was seen: a request was lost, and the memory is one that the accesses in flight allow
    came_lost : IsPortNoAck v → EngineMemoryWithin b k t.target → base.lost < t.tally.lost → n ≤ t.tally.disturbed
        → HostAskOutcome job n base b k v t

-- LINES
pub host_data_read_due : (word n : ℕ) (P : ℕ → Type 0) (flip : Option ℕ) (s t : Port) → PortOnLine word flip t
    → PortPhaseSpared flip s t → P n → (t.tally.disturbed ≡ s.tally.disturbed + 1 → P (n + 1)) → EngineReads word n P t
host_data_read_due word n P flip s t on (inl none) p q = whole (on.line ∙ ap
    (λ f. Drives (port_flipped f (data_phase_number word))) none) on.range p
host_data_read_due word n P flip s t on (inr (place, fits, some, more)) p q =
    changed place (on.line ∙ ap (λ f. Drives (port_flipped f (data_phase_number word))) some) on.range (q more)

-- the line after the OK to a write
pub host_data_write_due : (r : Register) (n : ℕ) (P : ℕ → Type 0) (flip : Option ℕ) (s t : Port)
    → t.link.line ≡ Awaits r flip
    → PortPhaseSpared flip s t → P n → (t.tally.disturbed ≡ s.tally.disturbed + 1 → P (n + 1)) → EngineWrites r n P t
host_data_write_due r n P flip s t on (inl none) p q = whole (on ∙ ap (Awaits r) none) p
host_data_write_due r n P flip s t on (inr (place, fits, some, more)) p q =
    changed place (on ∙ ap (Awaits r) some) (q more)

-- KINDS OF REQUESTS

-- an exempt one, at rest
pub host_ask_exempt : (job : Job) (r : Register) (n : ℕ) (base : EngineBase) (b : ℕ) (k : EngineHand) (v : ℕ)
    (s t : Port) (q : Request) → port_register s.target.select q ≡ r → is_exempt_register r ≡ true → r ≢ DrwRead
    → s.target.reset ≡ Live → s.target.pending ≡ None
    → base.lost ≤ s.tally.lost → EngineBefore job n b k s → PortAsks s q v t
    → ((flip : Option ℕ) → PortPhaseSpared flip s t → PortAccepts r q.read flip s t
    → s.tally.disturbed ≤ t.tally.disturbed
    → EngineDuring job n b k t)
    → HostAskOutcome job n base b k v t
host_ask_exempt job r n base b k v s t q reg ex nodrw live rest l h asks go =
    elim (port_exempt_at_rest r q v s t reg ex live rest asks) [
      | okay a ↦ came_okay a.is (go a.flip a.spares a.accepts a.heard.disturbed_least)
      | lost a w ↦ came_lost a.none (host_lost_in_flight r q.read b b k s t (omega arith) nodrw w
          (host_job_in_flight job n b k s h)) (omega (arith, a.lost)) (let p : n ≤ s.tally.disturbed =
          host_job_events_paid job n b k s h in omega (arith, a.disturbed))
    ]

-- one that nothing weighs on, at rest
pub host_ask_unflagged : (job : Job) (r : Register) (n : ℕ) (base : EngineBase) (b c : ℕ) (k : EngineHand) (v : ℕ)
    (s t : Port) (q : Request) → port_register s.target.select q ≡ r → is_exempt_register r ≡ false → r ≢ DrwRead
    → s.target.reset ≡ Live → s.target.pending ≡ None
    → s.target.write_error ≡ false → s.target.sticky_error ≡ false → (q.ap ≡ true → port_has_power s.target ≡ true)
    → base.lost ≤ s.tally.lost → b ≤ c → EngineMemoryWithin b k s.target → n ≤ s.tally.disturbed → PortAsks s q v t
    → ((flip : Option ℕ) → PortPhaseSpared flip s t → PortAccepts r q.read flip s t
    → s.tally.disturbed ≤ t.tally.disturbed
    → EngineDuring job n c k t)
    → is_exempt_of job ≡ false → (HostFrame s t → HostSameFlags s t → t.tally.disturbed ≡ s.tally.disturbed + 1
    → EngineBefore job (n + 1) c k t)
    → HostAskOutcome job n base c k v t
host_ask_unflagged job r n base b c k v s t q reg ex nodrw live rest write sticky power l g within paid asks go free
    stay =
    elim (port_free_exact r q v s t reg ex nodrw live rest write sticky power asks) [
      | okay a ↦ came_okay a.is (go a.flip a.spares a.accepts a.heard.disturbed_least)
      | wait a ↦ came_wait a.is (record {
        free = free;
        before = stay (host_frame_wait r s t a.defers)
            (host_flags_wait r s t a.defers) a.disturbed;
      })
      | lost a w ↦ came_lost a.none (host_lost_in_flight r q.read b c k s t g nodrw w within) (omega (arith, a.lost))
          (omega (arith, a.disturbed))
    ]

-- a request that changed nothing, or was refused, leaves the memory among those it may be
held_within : (r : Register) (access : Bool) (b c : ℕ) (k : EngineHand) (s t : Port) → b ≤ c
    → PortIgnores s t ⊎ PortRefuses r access s t → EngineMemoryWithin b k s.target → EngineMemoryWithin c k t.target
held_within r access b c k s t g (inl h) w = host_in_flight_carried b c k s t g (ap (λ i. i.pending) h.target) (ap
    (λ i. i.tar) h.target) (ap (λ i. i.memory) h.target) w
held_within r access b c k s t g (inr h) w = host_in_flight_carried b c k s t g (ap (λ i. i.pending) h.target) (ap
    (λ i. i.tar) h.target) (ap (λ i. i.memory) h.target) w

-- one that meets WDATAERR, at rest
pub host_ask_write_error : (job : Job) (r : Register) (n : ℕ) (base : EngineBase) (b c : ℕ) (k : EngineHand) (v : ℕ)
    (s t : Port) (q : Request) → port_register s.target.select q ≡ r → is_exempt_register r ≡ false
    → s.target.reset ≡ Live
    → s.target.pending ≡ None → s.target.write_error ≡ true → (q.ap ≡ true → port_has_power s.target ≡ true)
    → base.lost ≤ s.tally.lost → b ≤ c → EngineMemoryWithin b k s.target → n ≤ s.tally.disturbed → PortAsks s q v t
    → (HostFrame s t → HostSameFlags s t → s.tally.disturbed ≤ t.tally.disturbed → EngineFaultAtJob job n c k t)
    → HostAskOutcome job n base c k v t
host_ask_write_error job r n base b c k v s t q reg ex live rest write power l g within paid asks go =
    elim (port_flagged_at_rest r q v s t reg ex live rest (inr write) asks) [
      | fault a ↦ came_fault a.is (go (host_frame_fault r q.ap s t a.refuses)
          (host_flags_fault r q.ap s t power a.refuses) a.heard.disturbed_least)
      | lost a w ↦ came_lost a.none (held_within r q.ap b c k s t g w within) (omega (arith, a.lost))
          (omega (arith, a.disturbed))
    ]

-- CTRL/STAT READS
tells : (c : Choice) (s t : Port) → HostSameFlags s t → CtrlStatShows c s.target
    → EngineReadsFlags (ctrl_stat_word_in c s.target) t.target
tells c s t e h = record { error = h.sticky_held ∙ sym e.sticky; damaged = h.write_held ∙ sym e.write }

-- the read of CTRL/STAT, for SELECT 0
abbrev pub host_status_request : Request
host_status_request = record { ap = false; read = true; addr = R4 }

abbrev pub host_abort_request : Request
host_abort_request = record { ap = false; read = false; addr = R0 }

pub host_status_register : (s : Port) → s.target.select ≡ port_select_zero
    → port_register s.target.select host_status_request ≡ CtrlStatRead
host_status_register s e = ap (λ x. port_register x host_status_request) e

-- the flags that a read of CTRL/STAT tells, and what is still known before the request
pub host_status_says : (job : Job) (n b : ℕ) (k : EngineHand) (s t : Port) (flip : Option ℕ) → s.target.reset ≡ Live
    → EngineBefore job n b k s → PortPhaseSpared flip s t → PortAccepts CtrlStatRead true flip s t
    → s.tally.disturbed ≤ t.tally.disturbed → EngineReadsStatus job n b k t
host_status_says job n b k s t flip live h sp a more =
    let f = host_frame_okay CtrlStatRead true flip s t refl live a in
    let e = host_flags_okay CtrlStatRead true flip s t refl a in
    let r = ctrl_stat_returned flip s t a in (
      ctrl_stat_word_in a.choice s.target,
      tells a.choice s t e r.1,
      host_data_read_due (ctrl_stat_word_in a.choice s.target) n
          (λ c. EngineBefore job c b k t) flip s t r.0 sp (before_framed n n b k s t f e (omega arith) job h)
          (λ d. before_framed n (n + 1) b k s t f e (omega arith) job h),
    )

-- whether it is there, for as many events as there were
module _ (n b : ℕ) (k : EngineHand) (s t : Port) (flip : Option ℕ) (h : EngineBefore (At Powered) n b k s)
    (a : PortAccepts CtrlStatRead true flip s t) where
  asked_power : (m : ℕ) → n ≤ m → m ≤ n ⊎ (flip ≡ None → ⊥) → HostFrame s t → HostSameFlags s t
      → EngineBefore (At Powered) m b k t
      → CtrlStatShows a.choice s.target →
      OpeningAskedPower (host_reads_power (ctrl_stat_word_in a.choice s.target)) m b k t
  asked_power m more few f e before r = grind arith

pub host_power_says : (n b : ℕ) (k : EngineHand) (s t : Port) (flip : Option ℕ) → s.target.reset ≡ Live
    → EngineBefore (At Powered) n b k s → PortPhaseSpared flip s t → PortAccepts CtrlStatRead true flip s t
    → s.tally.disturbed ≤ t.tally.disturbed → OpeningReadsPower n b k t
host_power_says n b k s t flip live h (inl none) a more =
    let f = host_frame_okay CtrlStatRead true flip s t refl live a in
    let e = host_flags_okay CtrlStatRead true flip s t refl a in
    let r = ctrl_stat_returned flip s t a in (
      ctrl_stat_word_in a.choice s.target,
      tells a.choice s t e r.1,
      whole (r.0.line ∙ ap (λ x. Drives (port_flipped x (data_phase_number (ctrl_stat_word_in a.choice s.target))))
          none)
          r.0.range (asked_power n b k s t flip h a n (omega arith) (inl (omega arith)) f e
          (before_framed n n b k s t f e (omega arith) (At Powered) h) r.1),
    )
host_power_says n b k s t flip live h (inr (place, fits, some, one)) a more =
    let f = host_frame_okay CtrlStatRead true flip s t refl live a in
    let e = host_flags_okay CtrlStatRead true flip s t refl a in
    let r = ctrl_stat_returned flip s t a in (
      ctrl_stat_word_in a.choice s.target,
      tells a.choice s t e r.1,
      changed place (r.0.line ∙ ap (λ x. Drives
          (port_flipped x (data_phase_number (ctrl_stat_word_in a.choice s.target)))) some) r.0.range
          (asked_power n b k s t flip h a (n + 1) (omega arith) (inr (λ none. absurd (let x = sym some ∙ none in cc))) f
          e
          (before_framed n (n + 1) b k s t f e (omega (arith, one)) (At Powered) h) r.1),
    )

-- what came of a read of CTRL/STAT at rest, for a job whose data phase is a word that shows the flags
pub host_ask_status : (job : Job) (n : ℕ) (base : EngineBase) (b : ℕ) (k : EngineHand) (v : ℕ) (s t : Port)
    → s.target.select ≡ port_select_zero → s.target.reset ≡ Live → s.target.pending ≡ None → base.lost ≤ s.tally.lost
    → EngineBefore job n b k s → PortAsks s host_status_request v t
    → (EngineReadsStatus job n b k t → EngineDuring job n b k t) → HostAskOutcome job n base b k v t
host_ask_status job n base b k v s t select live rest l h asks go =
    host_ask_exempt job CtrlStatRead n base b k v s t host_status_request (host_status_register s select) refl
    (λ e. absurd (cc)) live rest l h asks
    (λ flip sp a more. go (host_status_says job n b k s t flip live h sp a more))

-- what came of the read of CTRL/STAT that checks whether power is acknowledged, at rest
pub host_ask_power : (n : ℕ) (base : EngineBase) (b : ℕ) (k : EngineHand) (v : ℕ) (s t : Port)
    → s.target.select ≡ port_select_zero → s.target.reset ≡ Live → s.target.pending ≡ None → base.lost ≤ s.tally.lost
    → EngineBefore (At Powered) n b k s → PortAsks s host_status_request v t
    → HostAskOutcome (At Powered) n base b k v t
host_ask_power n base b k v s t select live rest l h asks =
    host_ask_exempt (At Powered) CtrlStatRead n base b k v s t host_status_request (host_status_register s select) refl
    (λ e. absurd (cc)) live rest l h asks (λ flip sp a more. host_power_says n b k s t flip live h sp a more)

-- ABORT WRITES
pub host_abort_register : (s : Port) → s.target.select ≡ port_select_zero
    → port_register s.target.select host_abort_request ≡ AbortWrite
host_abort_register s e = ap (λ x. port_register x host_abort_request) e

-- what came of the request of an ABORT write at rest: P, which unchanged registers keep, holds while its data is due
pub host_ask_abort : (job : Job) (n : ℕ) (base : EngineBase) (b : ℕ) (k : EngineHand) (v : ℕ) (s t : Port)
    (P : ℕ → Type 0)
    → s.target.select ≡ port_select_zero → s.target.reset ≡ Live → s.target.pending ≡ None → base.lost ≤ s.tally.lost
    → EngineBefore job n b k s → PortAsks s host_abort_request v t
    → ((n' : ℕ) → HostFrame s t → HostSameFlags s t → n' + s.tally.disturbed ≤ n + t.tally.disturbed → P n')
    → (EngineWrites AbortWrite n P t → EngineDuring job n b k t) → HostAskOutcome job n base b k v t
host_ask_abort job n base b k v s t P select live rest l h asks keep go =
    host_ask_exempt job AbortWrite n base b k v s t host_abort_request (host_abort_register s select) refl
    (λ e. absurd (cc)) live rest l h asks
    (λ flip sp a more.
    (let f : HostFrame s t = host_frame_okay AbortWrite false flip s t refl live a in
    let e : HostSameFlags s t = host_flags_okay AbortWrite false flip s t refl a in
    go (host_data_write_due AbortWrite n P flip s t a.line sp (keep n f e (omega arith))
    (λ d. keep (n + 1) f e (omega arith)))))
