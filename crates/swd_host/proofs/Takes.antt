-- What a data phase that was read tells the engine.
use Rattle.swd_host.proofs.Words.{◌≡◌, ◌≢◌, ◌+◌, ◌%◌, ◌^◌, ◌<◌, ℕ, Bool, false, sym, ap, subst, inl, arith, ◌∙◌, Option}
use Rattle.swd_host.proofs.Words.{Some, None, Task, Read, BurstRead, Write, BurstWrite, data_phase_word, Port, Reset}
use Rattle.swd_host.proofs.Words.{Unreset, Live, PortTakes, Flags, HostStep, Identify, CheckCtrlStat, Powered, ReadCsw}
use Rattle.swd_host.proofs.Words.{Configured, Transfer, Confirm, Job, At, Resend, Status, Check, engine_word_for}
use Rattle.swd_host.proofs.Words.{word_of_task, is_burst_write, engine_is_ahead_at, Data, host_reads_power, EngineHand}
use Rattle.swd_host.proofs.Words.{EnginePlaceIsSure, EngineResendWord, EngineBefore, EngineDuring, TaskTransferPhase}
use Rattle.swd_host.proofs.Words.{TaskConfirmPhase, TaskWriteConfirmed, OpeningAskedPower, OpeningReadsPower}
use Rattle.swd_host.proofs.Words.{EngineReadsStatus, EngineReadsFlags, EngineReads, whole, changed, OpeningIsAwake}
use Rattle.swd_host.proofs.Words.{EngineTookAtPlace, TaskConfirmTook, EngineTookForJob}
use Rattle.swd_port.specs.Moves.{PortPhaseGot, whole as got_whole, damaged as got_damaged}
use Rattle.swd_port.proofs.MovingLaws.{port_data_taken, port_take_keeps}
use Rattle.swd_host.proofs.Frames.{HostFrame, HostSameFlags, host_frame_passed, host_flags_passed, host_calm_framed}
use Rattle.swd_host.proofs.Frames.{resent_framed, before_framed}
use Rattle.swd_host.proofs.Blocks.{host_resent_completed}
use Rattle.swd_host.proofs.Sends.{host_refused_at_rest, host_checks_at_rest, host_ctrl_stat_at_rest, host_power_at_rest}

-- a phase that arrives whole has the word that was sent
pub host_word_whole : (word bits : ℕ) → PortPhaseGot None word bits → data_phase_word bits ≡ Some word
host_word_whole word bits (got_whole e i h) = h
host_word_whole word bits (got_damaged place e i h) = absurd (cc)

-- a phase that arrives with a changed bit has no word, since its parity is wrong
pub host_word_changed : (place word bits : ℕ) → PortPhaseGot (Some place) word bits → data_phase_word bits ≡ None
host_word_changed place word bits (got_whole e i h) = absurd (cc)
host_word_changed place word bits (got_damaged other e i h) = h

-- a data phase that is read at rest changes nothing
record AtRestTook (s t : Port) : Type 0 where
  frame : HostFrame s t
  same : HostSameFlags s t
  disturbed : t.tally.disturbed ≡ s.tally.disturbed

-- a data phase that is read at rest
rest_took : (s t : Port) (bits : ℕ) → s.target.pending ≡ None → PortTakes s bits t → AtRestTook s t
rest_took s t bits rest takes = grind arith

-- what is taken tells X of its word
told : (X : Option ℕ → Type 0) (word n bits : ℕ) (P Q : ℕ → Type 0) (s t : Port) → bits < 2 ^ 33 → PortTakes s bits t
    → EngineReads word n P s → ((c : ℕ) → P c → Q c) → (Q n → X (Some word)) → (Q (n + 1) → X None)
    → X (data_phase_word bits)
told X word n bits P Q s t range takes (whole line small h) keep good bad =
    subst X (sym (host_word_whole word bits (port_data_taken None word bits s t line small range takes)))
    (good (keep n h))
told X word n bits P Q s t range takes (changed place line small h) keep good bad =
    subst X (sym (host_word_changed place word bits
    (port_data_taken (Some place) word bits s t line small range takes)))
    (bad (keep (n + 1) h))

-- a live target had a line reset
pub host_live_was_reset : (r : Reset) → r ≡ Live → r ≢ Unreset
host_live_was_reset r is there = absurd (cc)

module _ (n b : ℕ) (k : EngineHand) (s t : Port) (bits : ℕ) (range : bits < 2 ^ 33) (takes : PortTakes s bits t) where
  identify_facts : EngineReads s.target.identification n (λ c. OpeningIsAwake c k s) s → s.target.pending ≡ None
      → EngineTookAtPlace Identify (data_phase_word bits) n b k t
  identify_facts reads rest =
      let r : AtRestTook s t = rest_took s t bits rest takes in
      let keep : (c : ℕ) → OpeningIsAwake c k s → OpeningIsAwake c k t × (s.target.identification % 2 ≡ 1) = (λ c h. (
        record {
          calm = host_calm_framed k.memory s t r.frame r.same.sticky h.calm;
          odd = ap (λ w. w % 2) r.frame.identification ∙ h.odd;
          flag = r.same.write ∙ h.flag;
          paid = omega (arith, r.disturbed, h.paid);
        },
        h.odd,
      )) in
      told (λ w. EngineTookAtPlace Identify w n b k t) s.target.identification n bits (λ c. OpeningIsAwake c k s)
      (λ c. OpeningIsAwake c k t × (s.target.identification % 2 ≡ 1)) s t range takes reads keep (λ h. h)
      (λ h. inl (record {
        has = record {
          reset = host_live_was_reset t.target.reset h.0.calm.live;
          select = h.0.calm.select;
          pending = h.0.calm.pending;
          memory = h.0.calm.memory;
          sticky = h.0.calm.sticky;
          odd = h.0.odd;
        };
        flag = λ w. h.0.flag;
        paid = h.0.paid;
      }))

  says_facts : (job : Job) → s.target.pending ≡ None → EngineReadsStatus job n b k s → (X : Option ℕ → Type 0)
      → ((word : ℕ) → EngineReadsFlags word t.target → EngineBefore job n b k t → X (Some word))
      → (EngineBefore job (n + 1) b k t → X None) → X (data_phase_word bits)
  says_facts job rest says X good bad =
      let r : AtRestTook s t = rest_took s t bits rest takes in
      let tells : EngineReadsFlags says.0 t.target = record {
        error = says.1.error ∙ sym r.same.sticky;
        damaged = says.1.damaged
            ∙ sym r.same.write;
      } in
      told X says.0 n bits (λ c. EngineBefore job c b k s) (λ c. EngineBefore job c b k t) s t range takes says.2
      (λ c h. before_framed c c b k s t r.frame r.same (omega (arith, r.disturbed)) job h) (good says.0 tells) bad

  power_pending : (powered : Bool) (c : ℕ) → OpeningAskedPower powered c b k s → s.target.pending ≡ None
  power_pending powered c h = (host_power_at_rest c b k s h.before).pending

  said_pending : OpeningReadsPower n b k s → s.target.pending ≡ None
  said_pending h = grind (arith, power_pending)

  power_took : (powered : Bool) (c : ℕ) → AtRestTook s t → OpeningAskedPower powered c b k s
      → OpeningAskedPower powered c b k t
  power_took powered c r h = grind arith

  power_facts : OpeningReadsPower n b k s → EngineTookAtPlace Powered (data_phase_word bits) n b k t
  power_facts says =
      let r : AtRestTook s t = rest_took s t bits (said_pending says) takes in
      let tells : EngineReadsFlags says.0 t.target = record {
        error = says.1.error ∙ sym r.same.sticky;
        damaged = says.1.damaged ∙ sym r.same.write;
      } in
      told (λ w. EngineTookAtPlace Powered w n b k t) says.0 n bits
      (λ c. OpeningAskedPower (host_reads_power says.0) c b k s)
      (λ c. OpeningAskedPower (host_reads_power says.0) c b k t) s t range takes says.2
      (λ c h. power_took (host_reads_power says.0) c r h) (λ h. (tells, h)) (λ h. h.before)

  resent_facts : (p : HostStep) (word : ℕ) → EngineReads word n (λ c. EngineResendWord p word c b k s) s
      → (X : Option ℕ → Type 0)
      → ((w : ℕ) → EngineResendWord p w n b k t → X (Some w)) → (EngineBefore (Resend p) (n + 1) b k t → X None)
      → X (data_phase_word bits)
  resent_facts p word reads X good bad =
      let (x, first, passed, line) = port_take_keeps bits s t takes in
      told X word n bits (λ c. EngineResendWord p word c b k s) (λ c. EngineResendWord p word c b k t) s t range takes
      reads (λ c h. resent_framed c c b k x t (host_frame_passed x t passed) (host_flags_passed x t passed)
      (omega (arith, ap (λ i. i.disturbed) passed.tally)) p word (host_resent_completed p word c b k s x first h))
      (good word) (λ h. bad (word, h))

  read_csw_facts : EnginePlaceIsSure Configured n b k s → EnginePlaceIsSure Configured n b k t
  read_csw_facts h = grind arith

  drw_facts : EnginePlaceIsSure Confirm n b k s → EnginePlaceIsSure Confirm n b k t
  drw_facts h = grind arith

  written_facts : TaskWriteConfirmed n b k s → TaskWriteConfirmed n b k t
  written_facts h = grind arith

  confirm_facts : (a : Task) → is_burst_write a ≡ false → TaskConfirmPhase a n b k s
      → TaskConfirmTook a (data_phase_word bits) n b k t
  confirm_facts (Read at) e h = resent_facts Confirm h.0 h.1 (λ w. TaskConfirmTook (Read at) w n b k t)
      (λ w r. r) (λ r. r)
  confirm_facts (BurstRead at) e h = resent_facts Confirm h.0 h.1 (λ w. TaskConfirmTook (BurstRead at) w n b k t)
      (λ w r. r) (λ r. r)
  confirm_facts (Write at word) e h = written_facts h
  confirm_facts (BurstWrite at word) e h = absurd (cc)

  awake_pending : EngineReads s.target.identification n (λ c. OpeningIsAwake c k s) s → s.target.pending ≡ None
  awake_pending (whole line small h) = h.calm.pending
  awake_pending (changed place line small h) = h.calm.pending

  ctrl_stat_pending : (word : ℕ) → EngineReads word n (λ c. EngineBefore (At CheckCtrlStat) c b k s) s
      → s.target.pending ≡ None
  ctrl_stat_pending word h = grind (arith, host_ctrl_stat_at_rest)

  status_pending : (p : HostStep) (word : ℕ) → EngineReads word n (λ c. EngineBefore (Status p) c b k s) s
      → s.target.pending ≡ None
  status_pending p word h = grind (arith, host_refused_at_rest)

  check_pending : (p : HostStep) (owed : Flags) (word : ℕ)
      → EngineReads word n (λ c. EngineBefore (Check p owed) c b k s) s → s.target.pending ≡ None
  check_pending p owed word h = grind (arith, host_checks_at_rest)

  transfers_facts : (a : Task) → word_of_task a ≡ None → TaskTransferPhase a n b k s → EnginePlaceIsSure Confirm n b k t
  transfers_facts a e h = grind (arith, drw_facts)

  -- what is known after a job's data phase was read, by its word or by its wrong parity
  pub taken_facts : (job : Job) → engine_word_for job k.task ≡ None → engine_is_ahead_at job Data k.task ≡ false
      → EngineDuring job n b k s → EngineTookForJob job (data_phase_word bits) n b k t
  taken_facts (At Identify) e none h = identify_facts h (awake_pending h)
  taken_facts (At CheckCtrlStat) e none h = says_facts (At CheckCtrlStat) (ctrl_stat_pending h.0 h.2) h
      (λ w. EngineTookAtPlace CheckCtrlStat w n b k t) (λ w x y. (x, y)) (λ x. x)
  taken_facts (At Powered) e none h = power_facts h
  taken_facts (At ReadCsw) e none h = read_csw_facts h
  taken_facts (At Configured) e none h = resent_facts Configured h.0 h.1
      (λ w. EngineTookAtPlace Configured w n b k t) (λ w x. x) (λ x. x)
  taken_facts (At Transfer) e none h = transfers_facts k.task e h
  taken_facts (At Confirm) e none h = confirm_facts k.task none h
  taken_facts (Resend p) e none h = resent_facts p h.0 h.1 (λ w. EngineTookForJob
      (Resend p) w n b k t) (λ w x. x) (λ x. x)
  taken_facts (Status p) e none h = says_facts (Status p) (status_pending p h.0 h.2) h (λ w. EngineTookForJob
      (Status p) w n b k t) (λ w x y. (x, y)) (λ x. x)
  taken_facts (Check p owed) e none h = says_facts (Check p owed) (check_pending p owed h.0 h.2) h
      (λ w. EngineTookForJob (Check p owed) w n b k t) (λ w x y. (x, y)) (λ x. x)
  taken_facts _ e none h = grind arith
