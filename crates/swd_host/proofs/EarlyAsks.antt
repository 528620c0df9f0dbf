-- Going on after a lost acknowledgement: each request of the opening keeps what is known, until SELECT's OK tells that
-- nothing is pending any more.
use Rattle.swd_host.proofs.Words.{◌≡◌, ◌≢◌, ◌+◌, ◌%◌, ◌≤◌, ℕ, Bool, true, false, refl, sym, ap, subst, inl, inr, arith}
use Rattle.swd_host.proofs.Words.{◌∙◌, Option, None, ◌⊎◌, Request, Port, port_register, Register, DpidrRead, AbortWrite}
use Rattle.swd_host.proofs.Words.{CtrlStatRead, SelectWrite, DrwRead, Live, is_exempt_register, PortAsks}
use Rattle.swd_host.proofs.Words.{is_port_posted, ctrl_stat_word_in, PortCompletes, PortIgnores, PortAccepts}
use Rattle.swd_host.proofs.Words.{PortPhaseSpared, okay, wait, fault, lost, PortOnLine, Flags, Identify, WriteAbort}
use Rattle.swd_host.proofs.Words.{CheckCtrlStat, Select, Job, At, Status, Clear, Check, Task, host_flags_in}
use Rattle.swd_host.proofs.Words.{engine_request_for, EngineBase, EngineReads, EngineWrites, port_select_zero}
use Rattle.swd_host.proofs.Words.{ResumeComesFrom, ResumeGlimpsedFlags, ResumeReadFlags, ResumedOpeningAnywhere}
use Rattle.swd_host.proofs.Words.{ResumedAfterReset, ResumedAwake, ResumedAbortWritten, clean, hurt, ResumedMetBusError}
use Rattle.swd_host.proofs.Words.{ResumedFlagsOwed, ResumedFlagsCleared, ResumedBefore, ResumedSelectSettled}
use Rattle.swd_host.proofs.Words.{ResumedOpeningIsOver, ResumedDuring, ResumedOpeningSawAck}
use Rattle.swd_port.specs.Moves.{PortKept}
use Rattle.swd_port.proofs.CompletionLaws.{no_pending_same, port_kept as kept_by, port_may_become_of_none}
use Rattle.swd_port.proofs.RequestLaws.{port_exempt_request, port_identification_read, port_free_request}
use Rattle.swd_port.proofs.RequestLaws.{port_lost_request}
use Rattle.swd_port.specs.Asking.{is_pending_write}
use Rattle.swd_host.proofs.Words.{MayBecome}
use Rattle.swd_port.specs.GivingUp.{PortAsksKept, PortGaveUp}
use Rattle.swd_port.proofs.GivingUpLaws.{port_asks_split}
use Rattle.swd_port.proofs.StatusLaws.{ctrl_stat_returned, port_identification_returned}
use Rattle.swd_host.specs.Early.{ResumedCtrlStatChecked, ResumedOpeningLost, early_okay, early_wait, early_fault}
use Rattle.swd_host.specs.Early.{early_none}
use Rattle.swd_host.proofs.Frames.{HostFrame, HostSameFlags, host_frame_unchanged, host_frame_okay, host_flags_okay}
use Rattle.swd_host.proofs.Frames.{host_frame_wait, host_flags_wait, host_frame_fault, host_flags_fault}
use Rattle.swd_host.proofs.Asked.{host_data_read_due, host_data_write_due}
use Rattle.swd_host.proofs.EarlyFrames.{opening_comes_completed, opening_comes_same, opening_comes_framed}
use Rattle.swd_host.proofs.EarlyFrames.{opening_comes_at_rest, opening_none_pending, opening_flag_met}
use Rattle.swd_host.proofs.EarlyFrames.{opening_any_completed, opening_woken_completed, opening_job_completed}
use Rattle.swd_host.proofs.EarlyFrames.{opening_job_framed, opening_abort_woken, opening_cleared_woken}
use Rattle.swd_host.proofs.EarlyFrames.{opening_woken_less}
use Rattle.swd_host.proofs.EarlyFrames.{opening_cleared_rests}

-- what a phase was spared stays so while nothing more is disturbed
spares_later : (flip : Option ℕ) (a b t : Port) → t.tally.disturbed ≡ b.tally.disturbed → PortPhaseSpared flip a b
    → PortPhaseSpared flip a t
spares_later flip a b t e (inl n) = inl n
spares_later flip a b t e (inr (place, fits, some, more)) = inr (place, fits, some, e ∙ more)

-- A REQUEST WITHOUT AN ACKNOWLEDGEMENT, whatever it did
lost_comes : (r : Register) (read : Bool) (start s t : Port) → r ≢ DrwRead → PortIgnores s t
    ⊎ PortAccepts r read None s t → ResumeComesFrom start s → ResumeComesFrom start t
lost_comes r read start s t n h from = grind (arith, opening_comes_same, port_lost_request)

-- SELECT stays where no acknowledgement was seen
lost_select : (r : Register) (read : Bool) (s t : Port) → PortIgnores s t ⊎ PortAccepts r read None s t
    → t.target.select ≡ s.target.select
lost_select r read s t h = (port_lost_request r read s t h).0.select

-- what is known where no acknowledgement was seen
early_lost : (n : ℕ) (base : EngineBase) (start s a b t : Port) → PortCompletes s a → PortCompletes b t
    → s.target.select ≡ port_select_zero → b.target.select ≡ a.target.select → n ≤ s.tally.disturbed
    → base.lost ≤ s.tally.lost → b.tally.disturbed ≡ a.tally.disturbed → b.tally.lost ≡ a.tally.lost + 1
    → ResumeComesFrom start b → ResumedOpeningLost n base start t
early_lost n base start s a b t first last select same paid l d more comes =
    grind (arith, opening_comes_completed)

-- a call before which no write is given up, as a call
asks_of_kept : (q : Request) (v : ℕ) (s t : Port) → PortAsksKept s q v t → PortAsks s q v t
asks_of_kept q v s t (a, b, mark, c, first, now, last) = (a, a, b, mark, c, first, inl refl, now, last)

-- AN EXEMPT REQUEST
exempt_early : (job : Job) (n : ℕ) (base : EngineBase) (stray : Bool) (start : Port) (v : ℕ) (s t : Port) (q : Request)
    (r : Register) → port_register s.target.select q ≡ r → is_exempt_register r ≡ true → r ≢ DrwRead
    → ResumedAwake n stray start s → base.lost ≤ s.tally.lost → PortAsksKept s q v t
    → ((y z : Port) (flip : Option ℕ) → PortCompletes s y → PortPhaseSpared flip y z → PortAccepts r q.read flip y z
    → y.tally.disturbed ≤ z.tally.disturbed → PortCompletes z t → ResumedDuring job n stray start t)
    → ResumedOpeningSawAck job v n base stray start t
exempt_early job n base stray start v s t q r reg ex nodrw h l asks go =
    let (y, z, first, came, last) = port_exempt_request r q v s t reg ex h.live asks in
    elim came [
      | okay o ↦ early_okay o.is (go y z o.flip first o.spares o.accepts o.heard.disturbed_least last)
      | lost o w ↦ early_none o.none.not_okay o.none.not_wait o.none.not_fault
          (early_lost n base start s y z t first last h.any.select (lost_select r q.read y z w) h.any.paid l o.disturbed
          o.lost (lost_comes r q.read start y z nodrw w (opening_comes_completed start s y first h.any.comes)))
    ]

-- what an accepted request that isn't posted leaves of what was known before it, here or with a disturbance more
across : (job : Job) (n n' : ℕ) (stray : Bool) (start s y z t : Port) (r : Register) (read : Bool) (flip : Option ℕ)
    → is_port_posted r ≡ false → y.target.reset ≡ Live → PortCompletes s y → PortAccepts r read flip y z
    → PortCompletes z t → n' + y.tally.disturbed ≤ n + z.tally.disturbed → ResumedBefore job n stray start s
    → ResumedBefore job n' stray start t
across job n n' stray start s y z t r read flip plain live first a last more h =
    search (arith, opening_job_framed, opening_job_completed, host_frame_okay, host_flags_okay)

module _ (job : Job) (n : ℕ) (stray : Bool) (start s y z t : Port) (flip : Option ℕ) (live : s.target.reset ≡ Live)
    (first : PortCompletes s y) (sp : PortPhaseSpared flip y z) (more : y.tally.disturbed ≤ z.tally.disturbed)
    (last : PortCompletes z t) (h : ResumedBefore job n stray start s) where
  live_then : y.target.reset ≡ Live
  live_then = (kept_by s y first).reset ∙ live

  same_count : t.tally.disturbed ≡ z.tally.disturbed
  same_count = ap (λ i. i.disturbed) (kept_by z t last).tally

  -- an ABORT write that was answered: its data phase is awaited
  abort_awaits : PortAccepts AbortWrite false flip y z
      → EngineWrites AbortWrite n (λ c. ResumedBefore job c stray start t) t
  abort_awaits a =
      host_data_write_due AbortWrite n (λ c. ResumedBefore job c stray start t) flip y t
      (ap (λ i. i.line) (kept_by z t last).link ∙ a.line) (spares_later flip y z t same_count sp)
      (across job n n stray start s y z t AbortWrite false flip refl live_then first a last (omega arith) h)
      (λ d. across job n (n + 1) stray start s y z t AbortWrite false flip refl live_then first a last
      (omega (arith, same_count)) h)

  -- a CTRL/STAT read that was answered: its word is on the line
  status_reads : (a : PortAccepts CtrlStatRead true flip y z)
      → EngineReads (ctrl_stat_word_in a.choice y.target) n (λ c. ResumedBefore job c stray start t) t
  status_reads a =
      let r = ctrl_stat_returned flip y z a in
      host_data_read_due (ctrl_stat_word_in a.choice y.target) n (λ c. ResumedBefore job c stray start t) flip y t
      (record { line = ap (λ i. i.line) (kept_by z t last).link ∙ r.0.line; range = r.0.range })
      (spares_later flip y z t same_count sp)
      (across job n n stray start s y z t CtrlStatRead true flip refl live_then first a last (omega arith) h)
      (λ d. across job n (n + 1) stray start s y z t CtrlStatRead true flip refl live_then first a last
      (omega (arith, same_count)) h)

  -- what it tells while nothing is pending
  status_shows : s.target.pending ≡ None → (a : PortAccepts CtrlStatRead true flip y z)
      → ResumeReadFlags (host_flags_in (ctrl_stat_word_in a.choice y.target)) t.target
  status_shows none a =
      let r = (ctrl_stat_returned flip y z a).1 in
      let f : HostFrame y z = host_frame_okay CtrlStatRead true flip y z refl live_then a in
      let e : HostSameFlags y z = host_flags_okay CtrlStatRead true flip y z refl a in
      let same : t ≡ z = no_pending_same z t (f.pending ∙ opening_none_pending s y first none) last in
      record {
        error = r.sticky_held ∙ (sym e.sticky ∙ sym (ap (λ p. p.target.sticky_error) same));
        damaged = r.write_held ∙ (sym e.write ∙ sym (ap (λ p. p.target.write_error) same));
      }

  -- what it tells while the transfer may be pending
  status_glimpsed : ResumedAbortWritten n stray start s → (a : PortAccepts CtrlStatRead true flip y z)
      → ResumeGlimpsedFlags (host_flags_in (ctrl_stat_word_in a.choice y.target)) stray t.target
  status_glimpsed aborted a =
      let r = (ctrl_stat_returned flip y z a).1 in
      let f : HostFrame y z = host_frame_okay CtrlStatRead true flip y z refl live_then a in
      let e : HostSameFlags y z = host_flags_okay CtrlStatRead true flip y z refl a in
      let w : t.target.write_error ≡ y.target.write_error = (kept_by z t last).write_error ∙ e.write in
      let there : ResumedAbortWritten n stray start y =
      opening_job_completed (At CheckCtrlStat) n stray start s y first aborted in
      record {
        damaged = r.write_held ∙ sym w;
        error = λ i clear. elim there [
          | clean g u q ↦
              (let m = opening_flag_met stray y.target (sym r.sticky_held ∙ i) q in
              (opening_none_pending z t last (f.pending ∙ m.0), m.1))
          | hurt g u ↦ absurd (let c : true ≡ false = sym u ∙ (sym w ∙ clear) in cc)
        ];
      }

-- an exempt request is none of DRW's
no_drw : (r : Register) → is_exempt_register r ≡ true → r ≢ DrwRead
no_drw r e = λ d. absurd (let f : is_exempt_register DrwRead ≡ true = subst (λ z. is_exempt_register z ≡ true) d e in
    cc)

module _ (n : ℕ) (base : EngineBase) (stray : Bool) (start : Port) (v : ℕ) (s t : Port) (k : Task)
    (l : base.lost ≤ s.tally.lost) where
  -- the register that a request reaches, SELECT being 0
  reached : (job : Job) → s.target.select ≡ port_select_zero
      → port_register s.target.select (engine_request_for job k)
      ≡ port_register port_select_zero (engine_request_for job k)
  reached job e = ap (λ z. port_register z (engine_request_for job k)) e

  ask_abort : ResumedAwake n stray start s → PortAsksKept s (engine_request_for (At WriteAbort) k) v t
      → ResumedOpeningSawAck (At WriteAbort) v n base stray start t
  ask_abort h asks =
      exempt_early (At WriteAbort) n base stray start v s t (engine_request_for (At WriteAbort) k) AbortWrite
      (reached (At WriteAbort) h.any.select) refl (no_drw AbortWrite refl) h l asks
      (λ y z flip first sp a more last.
      abort_awaits (At WriteAbort) n stray start s y z t flip h.live first sp more last h a)

  ask_clear : (owed : Flags) → ResumedFlagsOwed owed n stray start s
      → PortAsksKept s (engine_request_for (Clear Select owed) k) v t
      → ResumedOpeningSawAck (Clear Select owed) v n base stray start t
  ask_clear owed h asks =
      exempt_early (Clear Select owed) n base stray start v s t (engine_request_for (Clear Select owed) k) AbortWrite
      (reached (Clear Select owed) h.woken.any.select) refl (no_drw AbortWrite refl) h.woken l asks
      (λ y z flip first sp a more last.
      abort_awaits (Clear Select owed) n stray start s y z t flip h.woken.live first sp more last h a)

  ask_status : ResumedMetBusError n stray start s → PortAsksKept s (engine_request_for (Status Select) k) v t
      → ResumedOpeningSawAck (Status Select) v n base stray start t
  ask_status h asks =
      exempt_early (Status Select) n base stray start v s t (engine_request_for (Status Select) k) CtrlStatRead
      (reached (Status Select) h.woken.any.select) refl (no_drw CtrlStatRead refl) h.woken l asks
      (λ y z flip first sp a more last. (
        ctrl_stat_word_in a.choice y.target,
        status_shows (Status Select) n stray start s y z t flip h.woken.live first sp more last h h.pending a,
        status_reads (Status Select) n stray start s y z t flip h.woken.live first sp more last h a,
      ))

  ask_ctrl_stat : ResumedAbortWritten n stray start s → PortAsksKept s (engine_request_for (At CheckCtrlStat) k) v t
      → ResumedOpeningSawAck (At CheckCtrlStat) v n base stray start t
  ask_ctrl_stat h asks =
      let w : ResumedAwake n stray start s = opening_abort_woken n stray start s h in
      exempt_early (At CheckCtrlStat) n base stray start v s t (engine_request_for (At CheckCtrlStat) k) CtrlStatRead
      (reached (At CheckCtrlStat) w.any.select) refl (no_drw CtrlStatRead refl) w l asks
      (λ y z flip first sp a more last. (
        ctrl_stat_word_in a.choice y.target,
        status_glimpsed (At CheckCtrlStat) n stray start s y z t flip w.live first sp more last h h a,
        status_reads (At CheckCtrlStat) n stray start s y z t flip w.live first sp more last h a,
      ))

  ask_check : (owed : Flags) → ResumedFlagsCleared owed n stray start s
      → PortAsksKept s (engine_request_for (Check Select owed) k) v t
      → ResumedOpeningSawAck (Check Select owed) v n base stray start t
  ask_check owed h asks =
      let w : ResumedAwake n stray start s = opening_cleared_woken owed n stray start s h in
      let job : Job = Check Select owed in
      exempt_early job n base stray start v s t (engine_request_for job k) CtrlStatRead (reached job w.any.select) refl
      (no_drw CtrlStatRead refl) w l asks
      (λ y z flip first sp a more last. (
        ctrl_stat_word_in a.choice y.target,
        status_shows job n stray start s y z t flip w.live first sp more last h
            (opening_cleared_rests owed n stray start s h) a,
        status_reads job n stray start s y z t flip w.live first sp more last h a,
      ))

  -- DPIDR wakes the target, whatever the flags and whatever is pending
  woken_from : (n' : ℕ) (y z : Port) (flip : Option ℕ) → PortCompletes s y → PortAccepts DpidrRead true flip y z
      → PortCompletes z t
      → n' + y.tally.disturbed ≤ n + z.tally.disturbed → ResumedAfterReset n stray start s
      → ResumedAwake n' stray start t
  woken_from n' y z flip first a last more h =
      let any : ResumedOpeningAnywhere n stray start y = opening_any_completed n stray start s y first h.any in
      let pending : z.target.pending ≡ y.target.pending = ap (λ i. i.pending) a.target in
      opening_woken_completed n' stray start z t last (record {
        any = record {
          select = ap (λ i. i.select) a.target ∙ any.select;
          odd = ap (λ i. i.identification % 2) a.target ∙ any.odd;
          comes = opening_comes_same start y z pending (ap (λ i. i.tar) a.target) (ap (λ i. i.memory) a.target)
              any.comes;
          awaited = elim any.awaited [ inl g ↦ inl g | inr p ↦ inr (pending ∙ p) ];
          paid = omega (arith, any.paid);
        };
        live = a.live;
      })

  ask_identify : ResumedAfterReset n stray start s → PortAsksKept s (engine_request_for (At Identify) k) v t
      → ResumedOpeningSawAck (At Identify) v n base stray start t
  ask_identify h asks =
      let q : Request = engine_request_for (At Identify) k in
      let (y, z, first, came, last) = port_identification_read q v s t (reached (At Identify) h.any.select) h.reset asks
      in
      let j : PortKept z t = kept_by z t last in
      elim came [
        | okay o ↦
            (let a : PortAccepts DpidrRead true o.flip y z = o.accepts in
            let on : PortOnLine y.target.identification o.flip z = port_identification_returned o.flip y z a in
            let same : t.target.identification ≡ y.target.identification =
            j.identification ∙ ap (λ i. i.identification) a.target in
            early_okay o.is (subst (λ w. EngineReads w n (λ c. ResumedAwake c stray start t) t) (sym same)
            (host_data_read_due y.target.identification n (λ c. ResumedAwake c stray start t) o.flip y t
            (record { line = ap (λ i. i.line) j.link ∙ on.line; range = on.range })
            (spares_later o.flip y z t (ap (λ i. i.disturbed) j.tally) o.spares)
            (woken_from n y z o.flip first a last (omega (arith, o.heard.disturbed_least)) h)
            (λ d. woken_from (n + 1) y z o.flip first a last (omega (arith, ap (λ i. i.disturbed) j.tally)) h))))
        | lost o w ↦ early_none o.none.not_okay o.none.not_wait o.none.not_fault
            (early_lost n base start s y z t first last h.any.select (lost_select DpidrRead true y z w) h.any.paid l
            o.disturbed o.lost
            (lost_comes DpidrRead true start y z (no_drw DpidrRead refl) w
            (opening_comes_completed start s y first h.any.comes)))
      ]

  -- SELECT is written: its OK tells that nothing is pending any more, and that the transfer left pending was no bus
  -- error; FAULT that it was one
  select_okay : (y z : Port) (flip : Option ℕ) → ResumedCtrlStatChecked n stray start s → PortCompletes s y
      → y.target.sticky_error ≡ false → PortPhaseSpared flip y z → PortAccepts SelectWrite false flip y z
      → y.tally.disturbed ≤ z.tally.disturbed → PortCompletes z t → ResumedOpeningIsOver n start t
  select_okay y z flip h first calm sp a more last =
      let none : y.target.pending ≡ None = a.settled refl in
      let there : ResumedCtrlStatChecked n stray start y =
      opening_job_completed (At Select) n stray start s y first h in
      let f : HostFrame y z = host_frame_okay SelectWrite false flip y z refl there.woken.live a in
      let e : HostSameFlags y z = host_flags_okay SelectWrite false flip y z refl a in
      let same : t ≡ z = no_pending_same z t (f.pending ∙ none) last in
      let count : t.tally.disturbed ≡ z.tally.disturbed = ap (λ p. p.tally.disturbed) same in
      let settled : (c : ℕ) → c ≤ t.tally.disturbed → ResumedSelectSettled c y.target.memory t = (λ c paid. record {
        calm = record {
          live = ap (λ p. p.target.reset) same ∙ (f.reset ∙ there.woken.live);
          select = ap (λ p. p.target.select) same ∙ (f.select ∙ there.woken.any.select);
          pending = ap (λ p. p.target.pending) same ∙ (f.pending ∙ none);
          memory = ap (λ p. p.target.memory) same ∙ f.memory;
          sticky = ap (λ p. p.target.sticky_error) same ∙ (e.sticky ∙ calm);
        };
        flag = ap (λ p. p.target.write_error) same ∙ (e.write ∙ there.flag);
        paid = paid;
      }) in
      record {
        memory = y.target.memory;
        comes = opening_comes_at_rest start y none there.woken.any.comes;
        writes = host_data_write_due SelectWrite n (λ c. ResumedSelectSettled c y.target.memory t) flip y t
            (ap (λ p. p.link.line) same ∙ a.line) (spares_later flip y z t count sp)
            (settled n (omega (arith, there.woken.any.paid, count)))
            (λ d. settled (n + 1) (omega (arith, there.woken.any.paid, d)));
      }

  ask_select : ResumedCtrlStatChecked n stray start s → PortAsksKept s (engine_request_for (At Select) k) v t
      → ResumedOpeningSawAck (At Select) v n base stray start t
  ask_select h asks =
      let q : Request = engine_request_for (At Select) k in
      let (y, z, first, came, last) = port_free_request SelectWrite q v s t (reached (At Select) h.woken.any.select)
      refl h.woken.live h.flag (λ e. absurd (cc)) (asks_of_kept q v s t asks) in
      let there : ResumedCtrlStatChecked n stray start y =
      opening_job_completed (At Select) n stray start s y first h in
      let comes : ResumeComesFrom start y = there.woken.any.comes in
      elim came [
        | inl w ↦ elim w.1 [
          | okay o ↦ early_okay o.is
              (select_okay y z o.flip h first w.0 o.spares o.accepts o.heard.disturbed_least last)
          | wait o ↦ early_wait o.is (opening_job_completed (At Select) (n + 1) stray start z t last
              (opening_job_framed (At Select) n (n + 1) stray start y z (host_frame_wait SelectWrite y z o.defers)
              (host_flags_wait SelectWrite y z o.defers) (omega (arith, o.disturbed)) there))
          | lost o u ↦ early_none o.none.not_okay o.none.not_wait o.none.not_fault
              (early_lost n base start s y z t first last h.woken.any.select (lost_select SelectWrite false y z u)
              h.woken.any.paid l o.disturbed o.lost
              (lost_comes SelectWrite false start y z (λ e. absurd (cc)) u comes))
        ]
        | inr w ↦ elim w.1 [
          | fault o ↦
              (let met = opening_flag_met stray y.target w.0 there.quiet in
              let f : HostFrame y z = host_frame_fault SelectWrite false y z o.refuses in
              let e : HostSameFlags y z = host_flags_fault SelectWrite false y z (λ e. absurd (cc)) o.refuses in
              let after : ResumedCtrlStatChecked n stray start z =
              opening_job_framed (At Select) n n stray start y z f e (omega (arith, o.heard.disturbed_least)) there in
              let same : t ≡ z = no_pending_same z t (f.pending ∙ met.0) last in
              early_fault o.is (subst (ResumedMetBusError n stray start) (sym same) (record {
                woken = after.woken;
                flag = after.flag;
                awaited = met.1;
                pending = f.pending ∙ met.0;
                sticky = e.sticky ∙ w.0;
              })))
          | lost o u ↦
              (let f : HostFrame y z = elim u [
                | inl g ↦ host_frame_unchanged y z g.target
                | inr g ↦ host_frame_fault SelectWrite false y z g
              ] in
              early_none o.none.not_okay o.none.not_wait o.none.not_fault
              (early_lost n base start s y z t first last h.woken.any.select f.select h.woken.any.paid l o.disturbed
              o.lost (opening_comes_framed start y z f comes)))
        ]
      ]

  -- every request, before which no write is given up
  ask_early_kept : (job : Job) → ResumedBefore job n stray start s → PortAsksKept s (engine_request_for job k) v t
      → ResumedOpeningSawAck job v n base stray start t
  ask_early_kept (At Identify) h asks = ask_identify h asks
  ask_early_kept (At WriteAbort) h asks = ask_abort h asks
  ask_early_kept (At CheckCtrlStat) h asks = ask_ctrl_stat h asks
  ask_early_kept (At Select) h asks = ask_select h asks
  ask_early_kept (Status Select) h asks = ask_status h asks
  ask_early_kept (Clear Select owed) h asks = ask_clear owed h asks
  ask_early_kept (Check Select owed) h asks = ask_check owed h asks
  ask_early_kept _ h asks = absurd h

-- A WRITE THAT IS GIVEN UP
-- the bus stays as it is, which it might have become at the start
comes_given : (q : Request) (start s d : Port) → PortGaveUp q s d → ResumeComesFrom start s → ResumeComesFrom start d
unfolding MayBecome
comes_given q start s d g h =
    let none : d.target.pending ≡ None = ap (λ p. p.target.pending) g.after in
    let same : d.target.memory ≡ s.target.memory = ap (λ p. p.target.memory) g.after in
    record {
      comes = λ m may. h.comes m (inl (g.write, port_may_become_of_none.only m d none may ∙ same));
      rests = λ e. none;
    }

-- it counts as a disturbance, which its event is paid with
any_given : (q : Request) (n : ℕ) (stray : Bool) (start s d : Port) → PortGaveUp q s d
    → ResumedOpeningAnywhere n stray start s → ResumedOpeningAnywhere (n + 1) stray start d
any_given q n stray start s d g h =
    let count : d.tally.disturbed ≡ s.tally.disturbed + 1 = ap (λ p. p.tally.disturbed) g.after in
    record {
      select = ap (λ p. p.target.select) g.after ∙ h.select;
      odd = ap (λ p. p.target.identification % 2) g.after ∙ h.odd;
      comes = comes_given q start s d g h.comes;
      awaited = inr (ap (λ p. p.target.pending) g.after);
      paid = omega (arith, count, h.paid);
    }

less_given : (n : ℕ) (stray : Bool) (start s : Port) → ResumedOpeningAnywhere (n + 1) stray start s
    → ResumedOpeningAnywhere n stray start s
less_given n stray start s h = record {
  select = h.select;
  odd = h.odd;
  comes = h.comes;
  awaited = h.awaited;
  paid = omega (arith, h.paid);
}

woken_given : (q : Request) (n : ℕ) (stray : Bool) (start s d : Port) → PortGaveUp q s d
    → ResumedAwake n stray start s → ResumedAwake (n + 1) stray start d
woken_given q n stray start s d g h = record {
  any = any_given q n stray start s d g h.any;
  live = ap (λ p. p.target.reset) g.after ∙ h.live;
}

-- a write that is given up is pending
not_at_rest : (q : Request) (s d : Port) → PortGaveUp q s d → s.target.pending ≡ None → ⊥
not_at_rest q s d g none = let write : is_pending_write s.target.pending ≡ true = g.write in grind arith

-- what is known before each exempt request stays known where the write is given up before it
before_given : (job : Job) (k : Task) (n : ℕ) (stray : Bool) (start s d : Port)
    → PortGaveUp (engine_request_for job k) s d → ResumedBefore job n stray start s → ResumedBefore job n stray start d
before_given (At Identify) k n stray start s d g h = record {
  any = less_given n stray start d (any_given (engine_request_for (At Identify) k) n stray start s d g h.any);
  reset = λ e. h.reset (sym (ap (λ p. p.target.reset) g.after) ∙ e);
}
before_given (At WriteAbort) k n stray start s d g h =
    opening_woken_less n stray start d (woken_given (engine_request_for (At WriteAbort) k) n stray start s d g h)
before_given (At CheckCtrlStat) k n stray start s d g h =
    hurt (woken_given (engine_request_for (At CheckCtrlStat) k) n stray start s d g
    (opening_abort_woken n stray start s h)) (ap (λ p. p.target.write_error) g.after)
before_given (At Select) k n stray start s d g h =
    absurd (let e : is_exempt_register (port_register s.target.select (engine_request_for (At Select) k)) ≡ true =
    g.exempt in let f : s.target.select ≡ port_select_zero = h.woken.any.select in
    let w : is_exempt_register (port_register port_select_zero (engine_request_for (At Select) k)) ≡ true =
    ap (λ z. is_exempt_register (port_register z (engine_request_for (At Select) k))) (sym f) ∙ e in cc)
before_given (Status Select) k n stray start s d g h =
    absurd (not_at_rest (engine_request_for (Status Select) k) s d g h.pending)
before_given (Clear Select owed) k n stray start s d g h =
    absurd (not_at_rest (engine_request_for (Clear Select owed) k) s d g h.pending)
before_given (Check Select owed) k n stray start s d g h =
    absurd (not_at_rest (engine_request_for (Check Select owed) k) s d g
    (opening_cleared_rests owed n stray start s h))
before_given _ k n stray start s d g h = absurd h

-- EVERY REQUEST
pub ask_early : (n : ℕ) (base : EngineBase) (stray : Bool) (start : Port) (v : ℕ) (s t : Port) (k : Task)
    → base.lost ≤ s.tally.lost → (job : Job) → ResumedBefore job n stray start s
    → PortAsks s (engine_request_for job k) v t → ResumedOpeningSawAck job v n base stray start t
ask_early n base stray start v s t k l job h asks =
    elim (port_asks_split (engine_request_for job k) v s t asks) [
      | inl kept ↦ ask_early_kept n base stray start v s t k l job h kept
      | inr gave ↦ ask_early_kept n base stray start v gave.0 t k
          (subst (λ p. base.lost ≤ p.tally.lost) (sym gave.1.after) l) job
          (before_given job k n stray start s gave.0 gave.1 h) gave.2
    ]
