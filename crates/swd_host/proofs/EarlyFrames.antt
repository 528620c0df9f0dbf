-- Going on after a lost acknowledgement: what stays known of the port, whatever the transfer left pending comes to.
use Rattle.swd_host.proofs.Words.{◌≡◌, ◌+◌, ◌%◌, ◌≤◌, ℕ, Bool, true, false, sym, ap, subst, inl, inr, arith, ◌∙◌, None}
use Rattle.swd_host.proofs.Words.{Port, Target}
use Rattle.swd_host.proofs.Words.{PortCompletes, MayBecome, Flags, Job, ResumeComesFrom, ResumedOpeningAnywhere}
use Rattle.swd_host.proofs.Words.{ResumedAwake, ResumedAbortWritten, ResumedFlagsCleared, gone, still, ResumedBefore}
use Rattle.swd_host.proofs.Words.{At, Identify, WriteAbort, CheckCtrlStat, Select, Status, Clear, Check, clean, hurt}
use Rattle.swd_host.proofs.Words.{ResumedMetBusError, ResumedFlagsOwed}
use Rattle.swd_port.specs.Moves.{PortKept}
use Rattle.swd_port.proofs.CompletionLaws.{no_pending_same, port_may_become_of_none, port_kept, port_may_become_stays}
use Rattle.swd_port.proofs.CompletionLaws.{port_may_become_carried}
use Rattle.swd_host.specs.Early.{ResumeAwaitsStray, ResumeStrayFlag, none_left, to_come}
use Rattle.swd_host.proofs.Frames.{HostFrame, HostSameFlags}

-- WHAT THE MEMORY MAY BECOME
pub opening_none_pending : (s t : Port) → PortCompletes s t → s.target.pending ≡ None → t.target.pending ≡ None
opening_none_pending s t c p = ap (λ z. z.target.pending) (no_pending_same s t p c) ∙ p

-- completion keeps this: each memory that the pending transfer may leave, it might have left at the start
pub opening_comes_completed : (start s t : Port) → PortCompletes s t → ResumeComesFrom start s → ResumeComesFrom start t
opening_comes_completed start s t c h = record {
  comes = λ m may. h.comes m (port_may_become_stays m s t c may);
  rests = λ e. opening_none_pending s t c (h.rests e);
}

-- where the transfer that is pending, TAR and the memory are the same
pub opening_comes_same : (start s t : Port) → t.target.pending ≡ s.target.pending → t.target.tar ≡ s.target.tar
    → t.target.memory ≡ s.target.memory → ResumeComesFrom start s → ResumeComesFrom start t
opening_comes_same start s t pending tar memory h = record {
  comes = λ m may. h.comes m (port_may_become_carried m s t pending tar memory may);
  rests = λ e. pending ∙ h.rests e;
}

-- a step that leaves unchanged what the host's facts are about, the flags aside, keeps this, too
pub opening_comes_framed : (start s t : Port) → HostFrame s t → ResumeComesFrom start s → ResumeComesFrom start t
opening_comes_framed start s t f h = opening_comes_same start s t f.pending f.tar f.memory h

-- where no transfer is pending, the memory is one that the port at the start might become
pub opening_comes_at_rest : (start s : Port) → s.target.pending ≡ None → ResumeComesFrom start s
    → MayBecome start s.target.memory
opening_comes_at_rest start s none h = h.comes s.target.memory (port_may_become_of_none.same s none)

-- THE FLAG OF THE TRANSFER
-- STICKYERR is set: the bus error has come, and may be met
pub opening_flag_met : (stray : Bool) (s : Target) → s.sticky_error ≡ true → ResumeStrayFlag stray s
    → (s.pending ≡ None) × (stray ≡ true)
opening_flag_met stray s y h = grind arith

-- a clear STICKYERR stays clear, or the transfer that was left pending may set it, which the engine still expects
pub opening_flag_awaited : (stray : Bool) (s : Target) → s.sticky_error ≡ false → ResumeAwaitsStray stray s
    → ResumeStrayFlag stray s
opening_flag_awaited stray s e (inl g) = to_come g e
opening_flag_awaited stray s e (inr p) = none_left p e

-- A COMPLETION
pub opening_any_completed : (n : ℕ) (stray : Bool) (start s t : Port) → PortCompletes s t
    → ResumedOpeningAnywhere n stray start s → ResumedOpeningAnywhere n stray start t
opening_any_completed n stray start s t c h =
    let k : PortKept s t = port_kept s t c in
    record {
      select = k.select ∙ h.select;
      odd = ap (λ i. i % 2) k.identification ∙ h.odd;
      comes = opening_comes_completed start s t c h.comes;
      awaited = elim h.awaited [ inl g ↦ inl g | inr p ↦ inr (opening_none_pending s t c p) ];
      paid = subst (λ i. n ≤ i.disturbed) (sym k.tally) h.paid;
    }

-- completion keeps what is known once DPIDR was read
pub opening_woken_completed : (n : ℕ) (stray : Bool) (start s t : Port) → PortCompletes s t
    → ResumedAwake n stray start s → ResumedAwake n stray start t
opening_woken_completed n stray start s t c h = record {
  any = opening_any_completed n stray start s t c h.any;
  live = (port_kept s t c).reset ∙ h.live;
}

-- the flag of the transfer, which a completion may set
flag_completed : (stray : Bool) (s t : Port) → PortCompletes s t → ResumeAwaitsStray stray s.target
    → ResumeStrayFlag stray s.target → ResumeStrayFlag stray t.target
flag_completed stray s t c awaits flag = grind arith

-- completion keeps what is known before each request of a resumed opening, up to SELECT's OK
pub opening_job_completed : (job : Job) (n : ℕ) (stray : Bool) (start s t : Port) → PortCompletes s t
    → ResumedBefore job n stray start s → ResumedBefore job n stray start t
opening_job_completed (At Identify) n x start s t c h = record {
  any = opening_any_completed n x start s t c h.any;
  reset = λ e. h.reset (sym (port_kept s t c).reset ∙ e);
}
opening_job_completed (At WriteAbort) n x start s t c h = opening_woken_completed n x start s t c h
opening_job_completed (At CheckCtrlStat) n x start s t c (clean w u q) =
    clean (opening_woken_completed n x start s t c w) ((port_kept s t c).write_error ∙ u)
    (flag_completed x s t c w.any.awaited q)
opening_job_completed (At CheckCtrlStat) n x start s t c (hurt w u) =
    hurt (opening_woken_completed (n + 1) x start s t c w) ((port_kept s t c).write_error ∙ u)
opening_job_completed (At Select) n x start s t c h = record {
  woken = opening_woken_completed n x start s t c h.woken;
  flag = (port_kept s t c).write_error ∙ h.flag;
  quiet = flag_completed x s t c h.woken.any.awaited h.quiet;
}
opening_job_completed (Status Select) n x start s t c h =
    subst (ResumedMetBusError n x start) (sym (no_pending_same s t h.pending c)) h
opening_job_completed (Clear Select owed) n x start s t c h =
    subst (ResumedFlagsOwed owed n x start) (sym (no_pending_same s t h.pending c)) h
opening_job_completed (Check Select owed) n x start s t c (gone w o p i f) =
    subst (ResumedFlagsCleared owed n x start) (sym (no_pending_same s t p c)) (gone w o p i f)
opening_job_completed (Check Select owed) n x start s t c (still w o p i f) =
    subst (ResumedFlagsCleared owed n x start) (sym (no_pending_same s t p c)) (still w o p i f)
opening_job_completed _ n x start s t c h = absurd h

-- A STEP THAT MOVES NOTHING, with n events that were paid for before it and n' after it
pub opening_woken_framed : (n n' : ℕ) (stray : Bool) (start s t : Port) → HostFrame s t
    → n' + s.tally.disturbed ≤ n + t.tally.disturbed → ResumedAwake n stray start s → ResumedAwake n' stray start t
opening_woken_framed n n' stray start s t f more h = grind (arith, opening_comes_framed)

-- such a step keeps what is known before each request of a resumed opening, if it leaves the flags unchanged
pub opening_job_framed : (job : Job) (n n' : ℕ) (stray : Bool) (start s t : Port) → HostFrame s t → HostSameFlags s t
    → n' + s.tally.disturbed ≤ n + t.tally.disturbed → ResumedBefore job n stray start s
    → ResumedBefore job n' stray start t
opening_job_framed job n n' x start s t f e more h = grind (arith, opening_comes_framed, opening_woken_framed)

-- WHAT IS KNOWN BEFORE EVERY REQUEST
pub opening_woken_less : (n : ℕ) (stray : Bool) (start s : Port) → ResumedAwake (n + 1) stray start s
    → ResumedAwake n stray start s
opening_woken_less n stray start s w = grind arith

-- after the write of ABORT, corrupted or not, what is known once DPIDR was read still holds
pub opening_abort_woken : (n : ℕ) (stray : Bool) (start s : Port) → ResumedAbortWritten n stray start s
    → ResumedAwake n stray start s
opening_abort_woken n stray start s h = grind (arith, opening_woken_less)

-- it still holds after the write of ABORT that clears the flags met at the write of SELECT
pub opening_cleared_woken : (owed : Flags) (n : ℕ) (stray : Bool) (start s : Port)
    → ResumedFlagsCleared owed n stray start s → ResumedAwake n stray start s
opening_cleared_woken owed n stray start s h = grind (arith, opening_woken_less)

-- after that write of ABORT no transfer is pending
pub opening_cleared_rests : (owed : Flags) (n : ℕ) (stray : Bool) (start s : Port)
    → ResumedFlagsCleared owed n stray start s → s.target.pending ≡ None
opening_cleared_rests owed n stray start s (gone w o p i f) = p
opening_cleared_rests owed n stray start s (still w o p i f) = p

-- what is known before each request of a resumed opening includes what is known before its line reset
pub opening_job_any : (job : Job) (n : ℕ) (stray : Bool) (start s : Port) → ResumedBefore job n stray start s
    → ResumedOpeningAnywhere n stray start s
opening_job_any job n x start s h = grind arith
