-- Going on after a lost acknowledgement: each data phase, each turnaround and the line reset keep what is known.
use Rattle.swd_host.proofs.Words.{◌≡◌, ◌+◌, ◌^◌, ◌<◌, ℕ, Bool, refl, sym, ap, subst, arith, ◌∙◌, inl, inr, Some, None}
use Rattle.swd_host.proofs.Words.{◌⊎◌, Port, AbortWrite, data_phase_number, data_phase_word, PortTakes, PortGives}
use Rattle.swd_host.proofs.Words.{PortWritten, PortWriteSpoiled, PortAbortClears, Flags, Identify, WriteAbort}
use Rattle.swd_host.proofs.Words.{CheckCtrlStat, Select, Job, At, Status, Clear, Check, Task, host_flags_in}
use Rattle.swd_host.proofs.Words.{host_abort_word, engine_word_for, EngineReads, EngineWrites, whole, changed}
use Rattle.swd_host.proofs.Words.{ResumeGlimpsedFlags, ResumeReadFlags, ResumedAwake, ResumedAbortWritten, clean, hurt}
use Rattle.swd_host.proofs.Words.{ResumedMetBusError, ResumedFlagsOwed, ResumedFlagsCleared, gone, still, ResumedBefore}
use Rattle.swd_host.proofs.Words.{ResumedDuring, ResumedOpeningTookData}
use Rattle.swd_port.proofs.MovingLaws.{port_data_taken, port_take_keeps, port_data_given}
use Rattle.swd_port.proofs.StatusLaws.{port_abort_clears_flags}
use Rattle.swd_host.specs.Early.{ResumedOpeningSentData}
use Rattle.swd_host.proofs.Frames.{HostFrame, host_frame_passed, host_flags_passed, host_frame_abort}
use Rattle.swd_host.proofs.Frames.{host_frame_spoiled}
use Rattle.swd_host.proofs.Takes.{host_word_whole, host_word_changed, host_live_was_reset}
use Rattle.swd_host.proofs.Gives.{host_phase_of_word, host_phase_bits, host_write_whole, host_write_changed}
use Rattle.swd_host.proofs.Gives.{host_clear_word_small, host_stickyerr_cleared, host_wdataerr_cleared}
use Rattle.swd_host.proofs.EarlyFrames.{opening_flag_awaited, opening_woken_completed, opening_job_completed}
use Rattle.swd_host.proofs.EarlyFrames.{opening_woken_framed, opening_job_framed, opening_cleared_rests}

-- DATA PHASES THAT ARE READ
module _ (n : ℕ) (stray : Bool) (start : Port) (bits : ℕ) (s t : Port) (range : bits < 2 ^ 33)
    (takes : PortTakes s bits t)
  where
    -- what is known before a request is known after a data phase that is read
    read_keeps : (job : Job) (c : ℕ) → ResumedBefore job c stray start s → ResumedBefore job c stray start t
    read_keeps job c h =
        let (y, first, p, idle) = port_take_keeps bits s t takes in
        opening_job_framed job c c stray start y t (host_frame_passed y t p) (host_flags_passed y t p)
        (omega (arith, ap (λ i. i.disturbed) p.tally)) (opening_job_completed job c stray start s y first h)

    -- a word that was read is told whole, or has to come again
    take_early : (job : Job) (word : ℕ) (Q : ℕ → Type 0) → EngineReads word n Q s
        → (Q n → ResumedOpeningTookData job (Some word) n stray start t)
        → (Q (n + 1) → ResumedOpeningTookData job None n stray start t)
        → ResumedOpeningTookData job (data_phase_word bits) n stray start t
    take_early job word Q (whole line small h) good bad =
        subst (λ w. ResumedOpeningTookData job w n stray start t)
        (sym (host_word_whole word bits (port_data_taken None word bits s t line small range takes))) (good h)
    take_early job word Q (changed place line small h) good bad =
        subst (λ w. ResumedOpeningTookData job w n stray start t)
        (sym (host_word_changed place word bits (port_data_taken (Some place) word bits s t line small range takes)))
        (bad h)

    -- WDATAERR stays over a data phase that is read
    write_passed : t.target.write_error ≡ s.target.write_error
    write_passed = grind arith

    -- nothing pending stays so
    none_passed : s.target.pending ≡ None → t.target.pending ≡ None
    none_passed e = grind arith

    -- STICKYERR stays, where nothing is pending
    sticky_passed : s.target.pending ≡ None → t.target.sticky_error ≡ s.target.sticky_error
    sticky_passed e = grind arith

    take_identify : EngineReads s.target.identification n (λ c. ResumedAwake c stray start s) s
        → ResumedOpeningTookData (At Identify) (data_phase_word bits) n stray start t
    take_identify h = take_early (At Identify) s.target.identification (λ c. ResumedAwake c stray start s) h
        (λ w. (read_keeps (At WriteAbort) n w, w.any.odd))
        (λ w. (let u : ResumedAwake (n + 1) stray start t = read_keeps (At WriteAbort) (n + 1) w in
        record { any = u.any; reset = host_live_was_reset t.target.reset u.live }))

    take_ctrl_stat : (word : ℕ) → ResumeGlimpsedFlags (host_flags_in word) stray s.target
        → EngineReads word n (λ c. ResumedAbortWritten c stray start s) s
        → ResumedOpeningTookData (At CheckCtrlStat) (data_phase_word bits) n stray start t
    take_ctrl_stat word told h = take_early (At CheckCtrlStat) word (λ c. ResumedAbortWritten c stray start s) h
        (λ w. (
          record {
            damaged = told.damaged ∙ sym write_passed;
            error = λ i e. (let m = told.error i (sym write_passed ∙ e) in (none_passed m.0, m.1));
          },
          read_keeps (At CheckCtrlStat) n w,
        ))
        (λ w. read_keeps (At CheckCtrlStat) (n + 1) w)

    -- what CTRL/STAT said of the flags is still so
    shown : (word : ℕ) → s.target.pending ≡ None → ResumeReadFlags (host_flags_in word) s.target
        → ResumeReadFlags (host_flags_in word) t.target
    shown word none h = record { error = h.error ∙ sym (sticky_passed none); damaged = h.damaged ∙ sym write_passed }

    take_status : (word : ℕ) → ResumeReadFlags (host_flags_in word) s.target
        → EngineReads word n (λ c. ResumedMetBusError c stray start s) s
        → ResumedOpeningTookData (Status Select) (data_phase_word bits) n stray start t
    take_status word told h = take_early (Status Select) word (λ c. ResumedMetBusError c stray start s) h
        (λ w. (shown word w.pending told, read_keeps (Status Select) n w)) (λ w. read_keeps (Status Select) (n + 1) w)

    take_check : (owed : Flags) (word : ℕ) → ResumeReadFlags (host_flags_in word) s.target
        → EngineReads word n (λ c. ResumedFlagsCleared owed c stray start s) s
        → ResumedOpeningTookData (Check Select owed) (data_phase_word bits) n stray start t
    take_check owed word told h = take_early (Check Select owed) word (λ c. ResumedFlagsCleared owed c stray start s) h
        (λ w. (shown word (opening_cleared_rests owed n stray start s w) told, read_keeps (Check Select owed) n w))
        (λ w. read_keeps (Check Select owed) (n + 1) w)

    -- after a data phase that is read early, what its word shows is known, or that it has to be read again
    pub read_early : (job : Job) (task : Task) → engine_word_for job task ≡ None → ResumedDuring job n stray start s
        → ResumedOpeningTookData job (data_phase_word bits) n stray start t
    read_early (At Identify) task none h = take_identify h
    read_early (At CheckCtrlStat) task none h = take_ctrl_stat h.0 h.1 h.2
    read_early (Status Select) task none h = take_status h.0 h.1 h.2
    read_early (Check Select owed) task none h = take_check owed h.0 h.1 h.2
    read_early _ task none h = grind arith

-- DATA PHASES THAT ARE WRITTEN
module _ (n : ℕ) (stray : Bool) (start : Port) (sent : ℕ) (s t : Port) (range : sent < 2 ^ 33)
    (gives : PortGives s sent t)
  where
    give_abort : sent ≡ data_phase_number 0x1e → EngineWrites AbortWrite n (λ c. ResumedAwake c stray start s) s
        → ResumedAbortWritten n stray start t
    give_abort is (whole line h) =
        let (y, z, first, given, last) = port_data_given AbortWrite None 0x1e sent s t line (omega arith) range
        (host_phase_bits 0x1e sent (omega arith) is) gives in
        let g : PortWritten AbortWrite 0x1e y z = host_write_whole AbortWrite 0x1e y z given in
        let c : PortAbortClears 0x1e y.target z.target = port_abort_clears_flags 0x1e y z g in
        let w : ResumedAwake n stray start z = opening_woken_framed n n stray start y z (host_frame_abort 0x1e y z g)
        (omega (arith, ap (λ i. i.disturbed) g.tally)) (opening_woken_completed n stray start s y first h) in
        opening_job_completed (At CheckCtrlStat) n stray start z t last
        (clean w (c.write_cleared refl) (opening_flag_awaited stray z.target (c.sticky_cleared refl) w.any.awaited))
    give_abort is (changed place line h) =
        let (y, z, first, given, last) = port_data_given AbortWrite (Some place) 0x1e sent s t line (omega arith) range
        (host_phase_bits 0x1e sent (omega arith) is) gives in
        let g : PortWriteSpoiled y z = host_write_changed place AbortWrite 0x1e y z given in
        opening_job_completed (At CheckCtrlStat) n stray start z t last
        (hurt (opening_woken_framed (n + 1) (n + 1) stray start y z (host_frame_spoiled y z g)
        (omega (arith, ap (λ i. i.disturbed) g.tally)) (opening_woken_completed (n + 1) stray start s y first h))
        (ap (λ i. i.write_error) g.target))

    give_clear : (owed : Flags) → sent ≡ data_phase_number (host_abort_word owed)
        → EngineWrites AbortWrite n (λ c. ResumedFlagsOwed owed c stray start s) s
        → ResumedFlagsCleared owed n stray start t
    give_clear owed is (whole line h) =
        let small : host_abort_word owed < 2 ^ 32 = host_clear_word_small owed.error owed.damaged in
        let (y, z, first, given, last) = port_data_given AbortWrite None (host_abort_word owed) sent s t line small
        range (host_phase_bits (host_abort_word owed) sent small is) gives in
        let g : PortWritten AbortWrite (host_abort_word owed) y z =
        host_write_whole AbortWrite (host_abort_word owed) y z given in
        let c : PortAbortClears (host_abort_word owed) y.target z.target =
        port_abort_clears_flags (host_abort_word owed) y z g in
        let f : HostFrame y z = host_frame_abort (host_abort_word owed) y z g in
        let k : ResumedFlagsOwed owed n stray start y =
        opening_job_completed (Clear Select owed) n stray start s y first h in
        opening_job_completed (Check Select owed) n stray start z t last
        (gone (opening_woken_framed n n stray start y z f (omega (arith, ap (λ i. i.disturbed) g.tally)) k.woken)
        k.error (f.pending ∙ k.pending) (host_stickyerr_cleared owed.error owed.damaged y.target z.target c
        (k.sticky ∙ sym k.error)) (host_wdataerr_cleared owed.error owed.damaged y.target z.target c k.flag))
    give_clear owed is (changed place line h) =
        let small : host_abort_word owed < 2 ^ 32 = host_clear_word_small owed.error owed.damaged in
        let (y, z, first, given, last) = port_data_given AbortWrite (Some place) (host_abort_word owed) sent s t line
        small range (host_phase_bits (host_abort_word owed) sent small is) gives in
        let g : PortWriteSpoiled y z = host_write_changed place AbortWrite (host_abort_word owed) y z given in
        let f : HostFrame y z = host_frame_spoiled y z g in
        let k : ResumedFlagsOwed owed (n + 1) stray start y =
        opening_job_completed (Clear Select owed) (n + 1) stray start s y first h in
        opening_job_completed (Check Select owed) n stray start z t last
        (still (opening_woken_framed (n + 1) (n + 1) stray start y z f (omega (arith, ap (λ i. i.disturbed) g.tally))
        k.woken) k.error (f.pending ∙ k.pending) (ap (λ i. i.sticky_error) g.target ∙ k.sticky)
        (ap (λ i. i.write_error) g.target))

    -- every write but SELECT's, which ends what is early

    -- after a data phase that is written early, what its write leaves is known, unless the write is SELECT's
    pub given_early : (job : Job) (task : Task) (word : ℕ) → engine_word_for job task ≡ Some word
        → sent ≡ data_phase_number word
        → ResumedDuring job n stray start s → (job ≡ At Select) ⊎ ResumedOpeningSentData job n stray start t
    given_early (At WriteAbort) task word is e h = inr (give_abort (host_phase_of_word sent word 0x1e is e) h)
    given_early (Clear Select owed) task word is e h =
        inr (give_clear owed (host_phase_of_word sent word (host_abort_word owed) is e) h)
    given_early (At Select) task word is e h = inl refl
    given_early _ task word is e h = grind arith
