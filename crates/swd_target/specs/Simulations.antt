-- The choices of a simulated target where the port model leaves them: when a transfer takes effect, what TAR becomes at
-- the end of a kilobyte and at a bus error, what an unknown value reads as, and the bits that CTRL/STAT and CSW read
-- elsewhere than at their fields. Registers elsewhere are no bus error, and read 0, but for IDR and BASE of a
-- target that has an IDR. It is all this project's choice.
use Rattle.std.specs.Prelude.{ℕ, ◌+◌, ◌*◌, ◌/◌, ◌%◌, ◌^◌, not, Bool, true, false, Option, Some, None, unwrap_or}
use Rattle.std.specs.Prelude.{◌==◌, ◌&&◌, if◌then◌else◌}
use Rattle.swd_bits.specs.declared.request.Request.{Request}
use Rattle.swd_bits.specs.declared.request.Reg4.{Reg4}
use Rattle.swd_bits.specs.declared.request.Reg4.TheVariants.{R0, R8, RC}
use Rattle.swd_port.specs.declared.mark.Mark.{Mark}
use Rattle.swd_port.specs.declared.register.Register.{Register}
use Rattle.swd_port.specs.declared.register.Register.TheVariants.{ApOtherRead, CswRead, CswWrite, DrwRead}
use Rattle.swd_port.specs.declared.state.Drw.{Drw}
use Rattle.swd_port.specs.declared.state.PowerUp.{PowerUp}
use Rattle.swd_port.specs.declared.state.PowerUp.TheVariants.{Seen}
use Rattle.swd_port.specs.declared.select.Select.{Select}
use Rattle.swd_port.specs.Registers.{csw_of}
use Rattle.swd_port.specs.declared.state.AfterAck.{AfterAck}
use Rattle.swd_port.specs.declared.state.AfterAck.TheVariants.{Idle}
use Rattle.swd_port.specs.declared.state.Reply.{Reply}
use Rattle.swd_port.specs.declared.state.Reply.TheVariants.{Okay, Faults}
use Rattle.swd_port.specs.Bus.{Bus}
use Rattle.swd_port.specs.Port.{PortLink, Target as State, port_register}
use Rattle.swd_port.specs.Made.{port_made_target}
use Rattle.swd_port.specs.Choices.{Choice, port_flip_of, is_port_wait}
use Rattle.swd_port.specs.Answers.{is_exempt_register, is_port_okay, port_seen_at, port_due_after}
use Rattle.swd_port.specs.Completion.{port_completion, pending_fails}
use Rattle.swd_port.specs.Asking.{port_reply, port_value_in, port_phase_after, port_line_after, port_target_after}
use Rattle.swd_port.specs.Moving.{PortArrival, Arrives, port_after_bits}
use Rattle.swd_target.specs.declared.quirks.Quirks.{Quirks}

-- a simulated target: its quirks, bits [30:24] of CSW as last written, and a state in which TAR, the read buffer and
-- the last returned value are known
pub record Simulation : Type 0 where
  pub quirks : Quirks
  pub csw_upper : ℕ
  pub state : State

-- The simulated target after a step of the port model to the state t: an unknown TAR keeps its address, and an unknown
-- value is the filler.
abbrev pub simulation_filled : Simulation → State → Simulation
simulation_filled s t = record s {
  state = record t {
    tar = Some (unwrap_or t.tar (unwrap_or s.state.tar 0));
    buffer = Some (unwrap_or t.buffer s.quirks.filler);
    last_returned = Some (unwrap_or t.last_returned s.quirks.filler);
  };
}

-- the bits that are read where the port model leaves them open: CSW's [30:24] as last written, and 0
abbrev pub simulated_others : Register → ℕ → ℕ
simulated_others CswRead upper = upper % 128 * 2 ^ 24
simulated_others r upper = 0

-- system power is late where debug power may be: the target acknowledges both at once
abbrev pub simulated_system_late : Bool → PowerUp → Bool
simulated_system_late waits Seen = false
simulated_system_late waits up = waits

-- SELECT names bank f of AP 0, which has IDR and BASE (IHI 0031, C2, "MEM-AP register summary")
abbrev pub selects_simulated_idr : Select → Bool
selects_simulated_idr s = (s.apsel == 0) && (s.apbanksel == 15)

-- the words of that bank: IDR at c, and at 8 the BASE of an AP without a ROM table, ffffffff
abbrev pub simulated_idr_bank : Reg4 → ℕ → ℕ
simulated_idr_bank R8 idr = 0xffff_ffff
simulated_idr_bank RC idr = idr % 2 ^ 32
simulated_idr_bank addr idr = 0

-- what a read elsewhere returns: the words of that bank of a target with an IDR, and 0
abbrev pub simulated_elsewhere : Register → Reg4 → Select → Option ℕ → ℕ
simulated_elsewhere ApOtherRead addr s (Some idr) = if selects_simulated_idr s then simulated_idr_bank addr idr else 0
simulated_elsewhere r addr s idr = 0

-- a choice at a request, where WAIT is asked for or not
abbrev pub simulated_choice : Bool → Register → ℕ → PowerUp → ℕ → ℕ → ℕ → Choice
simulated_choice waits r upper debug_up address filler elsewhere = record {
  address = address;
  filler = filler;
  others = simulated_others r upper;
  elsewhere = elsewhere;
  refuses = false;
  debug_late = waits;
  system_late = simulated_system_late waits debug_up;
}

-- its choice at a request for a register at an address
abbrev pub simulation_choice_at : Bool → Register → Reg4 → Simulation → Choice
simulation_choice_at waits r addr s = simulated_choice waits r s.csw_upper s.state.debug_up 0 s.quirks.filler
    (simulated_elsewhere r addr s.state.select s.quirks.idr)

-- its choice in another step
abbrev pub simulation_choice : Simulation → Choice
simulation_choice s = simulation_choice_at false DrwRead R0 s

-- a step of the port model
abbrev pub simulation_stepped : (Choice → State → State) → Simulation → Simulation
simulation_stepped f s = simulation_filled s (f (simulation_choice s) s.state)

-- the simulated target before any call; DPIDR reads 2ba01477
abbrev pub simulation_made_with : Quirks → Bus → Simulation
simulation_made_with quirks bus = simulation_stepped (λ c s. s)
    (record { quirks = quirks; csw_upper = 0; state = port_made_target 0x2ba0_1477 bus })

-- the address plus 4; at the end of a kilobyte the low ten bits wrap to 0, or it carries, modulo 2^32
abbrev pub simulated_next_address : Bool → ℕ → ℕ
simulated_next_address wraps at = if wraps then at / 1024 * 1024 + (at + 4) % 1024 else (at + 4) % 2 ^ 32

-- TAR after the pending transfer: a bus error leaves it
abbrev pub simulated_tar_after : Option Drw → Bool → Bool → Bool → ℕ → ℕ
simulated_tar_after None failed increments wraps at = at
simulated_tar_after (Some drw) failed increments wraps at =
    if failed then at else if increments then simulated_next_address wraps at else at

-- the simulated target after the pending transfer, if any, took effect
abbrev pub simulation_transferred : Simulation → Simulation
simulation_transferred s =
    let at = unwrap_or s.state.tar 0 in
    let failed = pending_fails s.state.pending at s.state.memory in
    let t = simulation_stepped port_completion s in
    record t {
      state = record t.state {
        tar = Some (simulated_tar_after s.state.pending failed s.state.increments s.quirks.wrap at);
      };
    }

-- a transfer that was accepted takes effect at once, except with the quirk `late`
abbrev pub simulation_accepted : Simulation → Simulation
simulation_accepted s = if s.quirks.late then s else simulation_transferred s

-- OK and FAULT to a request that isn't exempt come after the pending transfer
abbrev pub simulation_is_owed : Register → Reply → Bool
simulation_is_owed r Okay = not (is_exempt_register r)
simulation_is_owed r Faults = not (is_exempt_register r)
simulation_is_owed r reply = false

-- The state in which a request is replied to. The pending transfer has taken effect if the reply to a request that
-- isn't exempt is OK or FAULT then; otherwise it is still pending.
abbrev pub simulation_settled : Mark → Request → Simulation → Simulation
simulation_settled mark q s =
    if simulation_is_owed (port_register s.state.select q) (port_reply mark (simulation_transferred s).state q) then
    simulation_transferred s else s

-- the reply to a request under a mark
abbrev pub simulation_reply : Mark → Request → Simulation → Reply
simulation_reply mark q s = port_reply mark (simulation_settled mark q s).state q

-- what the host sees of that reply
abbrev pub simulation_seen : Mark → Request → Simulation → ℕ
simulation_seen mark q s = port_seen_at mark (simulation_reply mark q s)

-- the data phase that follows an OK, as it arrives
abbrev pub simulation_phase : Mark → Request → Simulation → AfterAck
simulation_phase mark q s =
    let a = simulation_settled mark q s in
    let r = port_register a.state.select q in
    port_line_after (simulation_reply mark q s)
    (port_phase_after q.read r (port_flip_of mark)
    (port_value_in (simulation_choice_at (is_port_wait mark) r q.addr a) r a.state)) Idle

-- a transfer that an OK accepted takes effect as the quirks say
abbrev pub simulation_accepted_after : Reply → Simulation → Simulation
simulation_accepted_after reply s = if is_port_okay reply then simulation_accepted s else s

-- what is due after a request, and the data phase that the target is in
abbrev pub simulation_link_after : Mark → Request → Reply → AfterAck → PortLink → PortLink
simulation_link_after mark q reply phase l = record {
  due = port_due_after q.read (port_seen_at mark reply);
  line = port_line_after reply phase l.line;
}

-- the simulated target after a reply to a request for a register, where WAIT was asked for or not
abbrev pub simulation_replied : Bool → Reply → Register → Request → Simulation → Simulation
simulation_replied waits reply r q s =
    simulation_filled s (port_target_after (simulation_choice_at waits r q.addr s) reply r q.ap s.state)

-- the simulated target after a request
abbrev pub simulation_asked : Mark → Request → Simulation → Simulation
simulation_asked mark q s =
    let a = simulation_settled mark q s in
    let reply = simulation_reply mark q s in
    simulation_accepted_after reply
    (simulation_replied (is_port_wait mark) reply (port_register a.state.select q) q a)

-- the write is done: its data arrived with right parity
abbrev pub simulation_write_done : PortArrival → Bool
simulation_write_done (Arrives r word) = true
simulation_write_done a = false

-- bits [30:24] of CSW, as last written
abbrev pub simulated_csw_upper_after : PortArrival → ℕ → ℕ
simulated_csw_upper_after (Arrives CswWrite word) upper = (csw_of word).upper
simulated_csw_upper_after a upper = upper

-- the simulated target after 33 bits of a write, before a transfer takes effect
abbrev pub simulation_written : PortArrival → Simulation → Simulation
simulation_written a s = record (simulation_stepped (λ c. port_after_bits false a) s) {
  csw_upper = simulated_csw_upper_after a s.csw_upper;
}

-- the simulated target after 33 bits of a write; a write that is done is accepted
abbrev pub simulation_arrived : PortArrival → Simulation → Simulation
simulation_arrived a s =
    let t = simulation_written a s in
    if simulation_write_done a then simulation_accepted t else t
