-- Each data phase that is written keeps what the engine knows.
use Rattle.swd_host.proofs.Words.{◌≡◌, ◌≢◌, ◌+◌, ◌^◌, ◌≤◌, ◌<◌, ℕ, Bool, true, false, refl, sym, ap, subst, inl, inr}
use Rattle.swd_host.proofs.Words.{arith, ◌∙◌, Some, None, low_bits, AccessWrite, Task, Write, BurstWrite}
use Rattle.swd_host.proofs.Words.{access_of_task, plain_address, data_phase_number, Port, Target, Register, AbortWrite}
use Rattle.swd_host.proofs.Words.{CtrlStatWrite, SelectWrite, CswWrite, TarWrite, DrwWrite, PortGives, PortWritten}
use Rattle.swd_host.proofs.Words.{PortWriteSpoiled, PortAbortClears, Flags, HostStep, WriteAbort, CheckCtrlStat, Select}
use Rattle.swd_host.proofs.Words.{Power, Powered, Configure, ReadCsw, WriteTar, Transfer, Confirm, Job, At, Clear}
use Rattle.swd_host.proofs.Words.{Check, host_abort_word, engine_word_for, word_of_task, engine_confirmed}
use Rattle.swd_host.proofs.Words.{task_drw_place, EngineHand, EngineHasTar, TaskTransferSent, EnginePlaceIsSure}
use Rattle.swd_host.proofs.Words.{EngineWriteDamaged, EngineOwesFlags, EngineChecksFlags, cleared, kept, EngineBefore}
use Rattle.swd_host.proofs.Words.{EngineDuring, TaskTransferPhase, EngineWrites, whole, changed, IsTask}
use Rattle.swd_bits.specs.Wire.{phase}
use Rattle.swd_bits.specs.Wire.{IsDataPhaseOf}
use Rattle.swd_port.specs.Moves.{PortWriteGiven, whole as given_whole, damaged as given_damaged}
use Rattle.swd_bits.proofs.PhaseLemmas.{data_phase_number_bits}
use Rattle.swd_port.proofs.MovingLaws.{port_data_given_exact, port_data_given_at_rest}
use Rattle.swd_port.proofs.StatusLaws.{port_abort_clears_flags}
use Rattle.swd_port.proofs.CompletionLaws.{no_pending_same, port_kept as kept_by}
use Rattle.swd_host.specs.Tracks.{EngineDataWasSent}
use Rattle.swd_host.proofs.Frames.{host_frame_spoiled, host_frame_abort, host_calm_framed, host_facts_framed}
use Rattle.swd_host.proofs.Transfers.{host_under_completed}
use Rattle.swd_host.proofs.Sends.{host_facts_at_rest}

-- the data phase that is sent is that of the word that the job writes
pub host_phase_of_word : (sent word other : ℕ) → Some other ≡ Some word → sent ≡ data_phase_number word
    → sent ≡ data_phase_number other
host_phase_of_word sent word other is e = e ∙ ap data_phase_number (let same : word ≡ other = cc in same)

-- the bits that were sent are those of the word's phase
pub host_phase_bits : (word sent : ℕ) → word < 2 ^ 32 → sent ≡ data_phase_number word → IsDataPhaseOf word sent
host_phase_bits word sent small e = sym (subst (λ x. low_bits 33 x ≡ phase word) (sym e)
    (data_phase_number_bits word small))

-- a phase that arrives whole writes its word
pub host_write_whole : (r : Register) (word : ℕ) (s t : Port) → PortWriteGiven r None word s t → PortWritten r word s t
host_write_whole r word s t (given_whole e h) = h
host_write_whole r word s t (given_damaged place e h) = absurd (cc)

-- a phase that arrives with a changed bit writes nothing, and sets WDATAERR
pub host_write_changed : (place : ℕ) (r : Register) (word : ℕ) (s t : Port) → PortWriteGiven r (Some place) word s t
    → PortWriteSpoiled s t
host_write_changed place r word s t (given_whole e h) = absurd (cc)
host_write_changed place r word s t (given_damaged other e h) = h

-- the words that the opening writes, and those that clear flags
pub host_clear_word_small : (error damaged : Bool)
    → host_abort_word (record { error = error; damaged = damaged }) < 2 ^ 32
host_clear_word_small error damaged = grind arith

-- the flags that a word clears
pub host_stickyerr_cleared : (error damaged : Bool) (x y : Target) → PortAbortClears (host_abort_word
    (record { error = error; damaged = damaged })) x y → x.sticky_error ≡ error → y.sticky_error ≡ false
host_stickyerr_cleared error damaged x y c h = grind arith

-- after ABORT is written for the flags that are set, WDATAERR is clear
pub host_wdataerr_cleared : (error damaged : Bool) (x y : Target) → PortAbortClears (host_abort_word
    (record { error = error; damaged = damaged })) x y → x.write_error ≡ damaged → y.write_error ≡ false
host_wdataerr_cleared error damaged x y c h = grind arith

address_small : (task : Task) → IsTask task → plain_address (access_of_task task) < 2 ^ 32
address_small task h = grind arith

module _ (n b : ℕ) (k : EngineHand) (s t : Port) (sent : ℕ) (range : sent < 2 ^ 33) (gives : PortGives s sent t) where
  -- a word that is given at rest, but for DRW's
  gave : (r : Register) (word : ℕ) (P : ℕ → Type 0) (X : Type 0) → word < 2 ^ 32 → sent ≡ data_phase_number word
      → r ≢ DrwWrite → ((c : ℕ) → P c → s.target.pending ≡ None) → EngineWrites r n P s
      → (P n → PortWritten r word s t → X) → (P (n + 1) → PortWriteSpoiled s t → X) → X
  gave r word P X small is nodrw rest (whole line h) good bad =
      good h (host_write_whole r word s t (port_data_given_exact r None word sent s t line small range
      (host_phase_bits word sent small is) (rest n h) nodrw gives))
  gave r word P X small is nodrw rest (changed place line h) good bad =
      bad h (host_write_changed place r word s t (port_data_given_exact r (Some place) word sent s t line small range
      (host_phase_bits word sent small is) (rest (n + 1) h) nodrw gives))

  -- the next request, after a damaged write
  hurt_next : (p back : HostStep) → engine_confirmed p k.task k.aims ≡ Some back → PortWriteSpoiled s t
      → EnginePlaceIsSure back (n + 1) b k s → EngineWriteDamaged p n b k t
  hurt_next p back is x h = grind arith

  -- the counts, and WDATAERR, after a write that isn't ABORT's
  paid_on : (r : Register) (word : ℕ) → PortWritten r word s t → n ≤ s.tally.disturbed → n ≤ t.tally.disturbed
  paid_on r word g h = omega (arith, ap (λ i. i.disturbed) g.tally)

  abort_gave : sent ≡ data_phase_number 0x1e → EngineWrites AbortWrite n (λ c. EnginePlaceIsSure WriteAbort c b k s) s
      → EngineBefore (At CheckCtrlStat) n b k t
  abort_gave is w =
      gave AbortWrite 0x1e (λ c. EnginePlaceIsSure WriteAbort c b k s) (EngineBefore (At CheckCtrlStat) n b k t)
      (omega arith) is (λ x. absurd (cc))
      (λ c h. h.has.pending) w (λ h g. (let clears = port_abort_clears_flags 0x1e s t g in
      inl (record {
        has = host_calm_framed k.memory s t (host_frame_abort 0x1e s t g)
            (clears.sticky_cleared refl ∙ sym h.has.sticky) h.has;
        flag = λ x. clears.write_cleared refl;
        paid = paid_on AbortWrite 0x1e g h.paid;
      })))
      (λ h x. inr (hurt_next CheckCtrlStat WriteAbort refl x h))

  select_gave : sent ≡ data_phase_number 0 → EngineWrites SelectWrite n (λ c. EnginePlaceIsSure Select c b k s) s
      → EngineBefore (At Power) n b k t
  select_gave is w =
      gave SelectWrite 0 (λ c. EnginePlaceIsSure Select c b k s) (EngineBefore (At Power) n b k t) (omega arith) is
      (λ x. absurd (cc)) (λ c h. h.has.pending) w
      (λ h g. inl (record {
        has = record {
          live = ap (λ i. i.reset) g.target ∙ h.has.live;
          select = ap (λ i. i.select) g.target;
          pending = ap (λ i. i.pending) g.target ∙ h.has.pending;
          memory = ap (λ i. i.memory) g.target ∙ h.has.memory;
          sticky = ap (λ i. i.sticky_error) g.target ∙ h.has.sticky;
        };
        flag = λ x. ap (λ i. i.write_error) g.target ∙ h.flag refl;
        paid = paid_on SelectWrite 0 g h.paid;
      }))
      (λ h x. inr (hurt_next Power Select refl x h))

  power_gave : sent ≡ data_phase_number 0x5000_0000
      → EngineWrites CtrlStatWrite n (λ c. EnginePlaceIsSure Power c b k s) s → EngineBefore (At Powered) n b k t
  power_gave is w =
      gave CtrlStatWrite 0x5000_0000 (λ c. EnginePlaceIsSure Power c b k s) (EngineBefore (At Powered) n b k t)
      (omega arith) is (λ x. absurd (cc)) (λ c h. h.has.pending) w (λ h g. inl (record {
        has = record {
          calm = record {
            live = ap (λ i. i.reset) g.target ∙ h.has.live;
            select = ap (λ i. i.select) g.target ∙ h.has.select;
            pending = ap (λ i. i.pending) g.target ∙ h.has.pending;
            memory = ap (λ i. i.memory) g.target ∙ h.has.memory;
            sticky = ap (λ i. i.sticky_error) g.target ∙ h.has.sticky;
          };
          debug = ap (λ i. i.debug_power) g.target;
          system = ap (λ i. i.system_power) g.target;
        };
        flag = λ x. ap (λ i. i.write_error) g.target ∙ h.flag refl;
        paid = paid_on CtrlStatWrite 0x5000_0000 g h.paid;
      }))
      (λ h x. inr (hurt_next Powered Power refl x h))

  configure_gave : sent ≡ data_phase_number 0x2300_0012
      → EngineWrites CswWrite n (λ c. EnginePlaceIsSure Configure c b k s) s → EngineBefore (At ReadCsw) n b k t
  configure_gave is w =
      gave CswWrite 0x2300_0012 (λ c. EnginePlaceIsSure Configure c b k s) (EngineBefore (At ReadCsw) n b k t)
      (omega arith) is (λ x. absurd (cc)) (λ c h. h.has.calm.pending) w
      (λ h g. (let c = h.has.calm in inl (record {
        has = record {
          calm = record {
            live = ap (λ i. i.reset) g.target ∙ c.live;
            select = ap (λ i. i.select) g.target ∙ c.select;
            pending = ap (λ i. i.pending) g.target ∙ c.pending;
            memory = ap (λ i. i.memory) g.target ∙ c.memory;
            sticky = ap (λ i. i.sticky_error) g.target ∙ c.sticky;
          };
          debug = ap (λ i. i.debug_power) g.target ∙ h.has.debug;
          system = ap (λ i. i.system_power) g.target ∙ h.has.system;
          debug_seen = ap (λ i. i.debug_up) g.target ∙ h.has.debug_seen;
          system_seen = ap (λ i. i.system_up) g.target ∙ h.has.system_seen;
          increments = ap (λ i. i.increments) g.target;
        };
        flag = λ x. ap (λ i. i.write_error) g.target ∙ h.flag refl;
        paid = paid_on CswWrite 0x2300_0012 g h.paid;
      })))
      (λ h x. inr (hurt_next ReadCsw Configure refl x h))

  -- DRW's request confirms TAR's write
  aims_back : k.aims ≡ true → engine_confirmed Transfer k.task k.aims ≡ Some WriteTar
  aims_back aims = rw aims refl

  write_tar_gave : plain_address (access_of_task k.task) < 2 ^ 32
      → sent ≡ data_phase_number (plain_address (access_of_task k.task))
      → EngineWrites TarWrite n (λ c. EnginePlaceIsSure WriteTar c b k s) s → EngineBefore (At Transfer) n b k t
  write_tar_gave small is w =
      gave TarWrite (plain_address (access_of_task k.task)) (λ c. EnginePlaceIsSure WriteTar c b k s)
      (EngineBefore (At Transfer) n b k t) small is (λ x. absurd (cc)) (λ c h. h.has.up.calm.pending) w
      (λ h g. (let c = h.has.up.calm in inl (record {
        has = record {
          up = record {
            calm = record {
              live = ap (λ i. i.reset) g.target ∙ c.live;
              select = ap (λ i. i.select) g.target ∙ c.select;
              pending = ap (λ i. i.pending) g.target ∙ c.pending;
              memory = ap (λ i. i.memory) g.target ∙ c.memory;
              sticky = ap (λ i. i.sticky_error) g.target ∙ c.sticky;
            };
            debug = ap (λ i. i.debug_power) g.target ∙ h.has.up.debug;
            system = ap (λ i. i.system_power) g.target ∙ h.has.up.system;
            debug_seen = ap (λ i. i.debug_up) g.target ∙ h.has.up.debug_seen;
            system_seen = ap (λ i. i.system_up) g.target ∙ h.has.up.system_seen;
            increments = ap (λ i. i.increments) g.target ∙ h.has.up.increments;
          };
          tar = ap (λ i. i.tar) g.target;
        };
        flag = λ x. ap (λ i. i.write_error) g.target ∙ h.flag refl;
        paid = paid_on TarWrite (plain_address (access_of_task k.task)) g h.paid;
      })))
      (λ h x. inr (hurt_next Transfer WriteTar (aims_back h.has.aims) x h))

  -- A WRITE OF DRW
  drw_under : (word : ℕ) (y : Port) → access_of_task k.task ≡ AccessWrite (plain_address (access_of_task k.task)) word
      → 1 ≤ b → EngineHasTar k s.target → PortWritten DrwWrite word s y → TaskTransferSent b k y.target
  drw_under word y is begun h g = grind arith

  drw_gave : (word : ℕ) → word < 2 ^ 32 → access_of_task k.task
      ≡ AccessWrite (plain_address (access_of_task k.task)) word
      → task_drw_place k.task ≡ Some Transfer → sent ≡ data_phase_number word
      → (1 ≤ b) × EngineWrites DrwWrite n (λ c. EnginePlaceIsSure Transfer c b k s) s
      → EngineBefore (At Confirm) n b k t
  drw_gave word small is back phased (begun, whole line h) =
      let (y, given, last) = port_data_given_at_rest DrwWrite None word sent s t line small range
      (host_phase_bits word sent small phased) h.has.up.calm.pending gives in
      let g : PortWritten DrwWrite word s y = host_write_whole DrwWrite word s y given in
      let kp = kept_by y t last in
      inl (record {
        has = host_under_completed b k y t last (drw_under word y is begun h.has g);
        flag = λ x. kp.write_error ∙ (ap (λ i. i.write_error) g.target ∙ h.flag refl);
        paid = omega (arith, ap (λ i. i.disturbed) kp.tally, ap (λ i. i.disturbed) g.tally, h.paid);
      })
  drw_gave word small is back phased (begun, changed place line h) =
      let (y, given, last) = port_data_given_at_rest DrwWrite (Some place) word sent s t line small range
      (host_phase_bits word sent small phased) h.has.up.calm.pending gives in
      let x : PortWriteSpoiled s y = host_write_changed place DrwWrite word s y given in
      let same : t ≡ y = no_pending_same y t (ap (λ i. i.pending) x.target ∙ h.has.up.calm.pending) last in
      inr (hurt_next Confirm Transfer back (subst (λ z. PortWriteSpoiled s z) (sym same) x) h)

  transfer_gave : (task : Task) (word : ℕ) → k.task ≡ task → IsTask task → word_of_task task ≡ Some word
      → sent ≡ data_phase_number word → TaskTransferPhase task n b k s → EngineBefore (At Confirm) n b k t
  transfer_gave (Write at more) word is ok w e h =
      let same : more ≡ word = cc in
      drw_gave more ok.2 (ap access_of_task is ∙ ap (λ x. AccessWrite (plain_address (access_of_task x)) more) (sym is))
      (ap task_drw_place is) (e ∙ ap data_phase_number (sym same)) h
  transfer_gave (BurstWrite at more) word is ok w e h =
      let same : more ≡ word = cc in
      drw_gave more ok.0.2 (ap access_of_task is ∙ ap (λ x. AccessWrite (plain_address (access_of_task x)) more)
      (sym is)) (ap task_drw_place is) (e ∙ ap data_phase_number (sym same)) h
  transfer_gave _ word is ok w e h = absurd (cc)

  -- THE CLEARING
  clear_gave : (p : HostStep) (owed : Flags) → sent ≡ data_phase_number (host_abort_word owed)
      → EngineWrites AbortWrite n (λ c. EngineOwesFlags p owed c b k s) s → EngineBefore (Check p owed) n b k t
  clear_gave p owed is w =
      gave AbortWrite (host_abort_word owed) (λ c. EngineOwesFlags p owed c b k s) (EngineChecksFlags p owed n b k t)
      (host_clear_word_small owed.error owed.damaged) is (λ x. absurd (cc))
      (λ c h. (host_facts_at_rest owed.error p b k s h.facts).pending) w
      (λ h g. (let c = port_abort_clears_flags (host_abort_word owed) s t g in
      let clear : t.target.sticky_error ≡ false =
      host_stickyerr_cleared owed.error owed.damaged s.target t.target c h.error in
      cleared (host_facts_framed owed.error p b k s t (host_frame_abort (host_abort_word owed) s t g)
      (λ no_error. clear ∙ sym (h.error ∙ no_error)) h.facts) clear
      (host_wdataerr_cleared owed.error owed.damaged s.target t.target c h.damaged)
      (paid_on AbortWrite (host_abort_word owed) g h.paid)))
      (λ h x. (let sticky : t.target.sticky_error ≡ s.target.sticky_error = ap (λ i. i.sticky_error) x.target in
      kept (host_facts_framed owed.error p b k s t (host_frame_spoiled s t x) (λ y. sticky) h.facts) (sticky ∙ h.error)
      (ap (λ i. i.write_error) x.target) (omega (arith, ap (λ i. i.disturbed) x.tally, h.paid))))

  -- EVERY WRITE
  -- after the data phase of a job's write what has to hold before the next request holds
  pub job_gave : (job : Job) (word : ℕ) → engine_word_for job k.task ≡ Some word → sent ≡ data_phase_number word
      → IsTask k.task → EngineDuring job n b k s → EngineDataWasSent job n b k t
  job_gave (At WriteAbort) word is e ok h = abort_gave (host_phase_of_word sent word 0x1e is e) h
  job_gave (At Select) word is e ok h = select_gave (host_phase_of_word sent word 0 is e) h
  job_gave (At Power) word is e ok h = power_gave (host_phase_of_word sent word 0x5000_0000 is e) h
  job_gave (At Configure) word is e ok h = configure_gave (host_phase_of_word sent word 0x2300_0012 is e) h
  job_gave (At WriteTar) word is e ok h = write_tar_gave (address_small k.task ok) (host_phase_of_word sent word
      (plain_address (access_of_task k.task)) is e) h
  job_gave (At Transfer) word is e ok h = transfer_gave k.task word refl ok is e h
  job_gave (Clear p owed) word is e ok h =
      clear_gave p owed (host_phase_of_word sent word (host_abort_word owed) is e) h
  job_gave _ word is e ok h = grind arith
