-- The target of the code as a state of the port model, and as a simulated target. `bus` is the bus that its device is.
use Rattle.std.specs.Prelude.{ℕ, ◌≡◌, ◌||◌, ◌&&◌, not, Bool, true, false, Some, None, if◌then◌else◌}
use Rattle.std.specs.Option.{option_and_then}
use Rattle.swd_bits.specs.declared.request.Request.{Request}
use Rattle.swd_bits.specs.declared.request.Reg4.{Reg4}
use Rattle.swd_bits.specs.declared.request.Reg4.TheVariants.{R0}
use Rattle.swd_port.specs.declared.register.Register.{Register}
use Rattle.swd_port.specs.declared.register.Register.TheVariants.{ResendRead, DrwRead}
use Rattle.swd_port.specs.declared.state.AfterAck.{AfterAck}
use Rattle.swd_port.specs.declared.state.AfterAck.TheVariants.{Idle}
use Rattle.swd_port.specs.declared.state.Reset.TheVariants.{Fresh}
use Rattle.swd_port.specs.declared.state.Reply.{Reply}
use Rattle.swd_port.specs.declared.state.Reply.TheVariants.{Okay, Waits, Silent}
use Rattle.swd_port.specs.Registers.{register_bit}
use Rattle.swd_port.specs.Bus.{Bus}
use Rattle.swd_port.specs.Port.{Target as State}
use Rattle.swd_port.specs.declared.state.PowerUp.TheVariants.{Unseen}
use Rattle.swd_port.specs.Choices.{Choice}
use Rattle.swd_port.specs.Answers.{port_answer_by, is_exempt_register, is_port_unpowered, port_may_wait}
use Rattle.swd_port.specs.Completion.{pending_fails, port_tar_next_address, port_completion}
use Rattle.swd_port.specs.Asking.{port_has_power, port_value_in, port_phase_after, port_line_after, port_target_after}
use Rattle.swd_port.specs.Moving.{PortArrival, port_after_bits}
use Rattle.swd_target.specs.declared.target.Target.{Target}
use Rattle.swd_target.specs.Contents.{target_known_word}
use Rattle.swd_target.specs.Simulations.{Simulation, simulation_stepped, simulation_transferred, simulation_is_owed}
use Rattle.swd_target.specs.Simulations.{simulated_choice, simulated_elsewhere, simulated_next_address}
use Rattle.swd_target.specs.Simulations.{simulation_replied, simulation_written}

-- the state of the port model, in which a word may be unknown
abbrev pub target_state : {D : Type 0} → (D → Bus) → Target D → State
target_state bus t = record {
  reset = t.reset;
  sticky_error = t.sticky_error;
  write_error = t.write_error;
  read_ok = t.read_ok;
  debug_power = t.debug_power;
  system_power = t.system_power;
  debug_up = t.debug_up;
  system_up = t.system_up;
  select = t.select;
  increments = t.increments;
  tar = target_known_word t.tar;
  buffer = target_known_word t.buffer;
  last_returned = target_known_word t.last_returned;
  pending = t.pending;
  identification = 0x2ba0_1477;
  memory = bus t.device;
}

-- the simulated target: the same state with each word known
abbrev pub target_simulation : {D : Type 0} → (D → Bus) → Target D → Simulation
target_simulation bus t = record {
  quirks = t.quirks;
  csw_upper = t.csw_upper;
  state = record (target_state bus t) {
    tar = Some t.tar.word;
    buffer = Some t.buffer.word;
    last_returned = Some t.last_returned.word;
  };
}

-- the word that replaces the value of a read, where that is unknown
abbrev pub target_stand_in : {D : Type 0} → Register → Target D → ℕ
target_stand_in ResendRead t = t.last_returned.word
target_stand_in r t = t.buffer.word

-- the choice of the target at a request for a register at an address, where WAIT is asked for or not: its own word
-- replaces an unknown one
abbrev pub target_choice_at : {D : Type 0} → Bool → Register → Reg4 → Target D → Choice
target_choice_at waits r addr t = simulated_choice waits r t.csw_upper t.debug_up t.tar.word (target_stand_in r t)
    (simulated_elsewhere r addr t.select t.quirks.idr)

-- its choice in another step
abbrev pub target_choice_for : {D : Type 0} → Register → Target D → Choice
target_choice_for r t = target_choice_at false r R0 t

-- TAR after a transfer that succeeded
abbrev pub target_tar_incremented : State → State
target_tar_incremented s = record s {
  tar = if s.increments then option_and_then port_tar_next_address s.tar else s.tar;
}

abbrev pub simulation_tar_at : ℕ → Simulation → Simulation
simulation_tar_at at s = record s { state = record s.state { tar = Some at } }

-- the target performs a step of the port model, and the same step as a simulated target, without its device
pub record TargetSteps {D : Type 0} (bus : D → Bus) (f : Choice → State → State) (s t : Target D) : Type 0 where
  pub state : target_state bus t ≡ f (target_choice_for DrwRead s) (target_state bus s)
  pub exact : target_simulation bus t ≡ simulation_stepped f (target_simulation bus s)
  pub device : t.device ≡ s.device

-- the pending transfer, if any, takes effect, and TAR ends a kilobyte as the quirks say
pub record TargetCompletes {D : Type 0} (bus : D → Bus) (s t : Target D) : Type 0 where
  pub state : target_state bus t ≡ port_completion (target_choice_for DrwRead s) (target_state bus s)
  pub exact : target_simulation bus t ≡ simulation_transferred (target_simulation bus s)

-- the target has the effects of a reply, where WAIT was asked for or not; its device isn't touched
pub record TargetReplies {D : Type 0} (bus : D → Bus) (waits : Bool) (reply : Reply) (r : Register) (q : Request)
    (s t : Target D) : Type 0
  where
    pub state : target_state bus t
        ≡ port_target_after (target_choice_at waits r q.addr s) reply r q.ap (target_state bus s)
    pub exact : target_simulation bus t ≡ simulation_replied waits reply r q (target_simulation bus s)
    pub device : t.device ≡ s.device

-- the 33 bits of a write came; the device isn't touched
pub record TargetWrites {D : Type 0} (bus : D → Bus) (a : PortArrival) (s t : Target D) : Type 0 where
  pub state : target_state bus t ≡ port_after_bits false a (target_state bus s)
  pub exact : target_simulation bus t ≡ simulation_written a (target_simulation bus s)
  pub device : t.device ≡ s.device

-- TAR is the next address after a transfer that succeeded, which may be unknown in the port model
pub record TargetAdvances {D : Type 0} (bus : D → Bus) (s t : Target D) : Type 0 where
  pub state : target_state bus t ≡ target_tar_incremented (target_state bus s)
  pub exact : target_simulation bus t ≡ simulation_tar_at
      (if s.increments then simulated_next_address s.quirks.wrap s.tar.word else s.tar.word) (target_simulation bus s)

-- a bus error sets STICKYERR; TAR and the read buffer are unknown in the port model
pub record TargetFails {D : Type 0} (bus : D → Bus) (s t : Target D) : Type 0 where
  pub state : target_state bus t ≡ record (target_state bus s) { sticky_error = true; tar = None; buffer = None }
  pub exact : target_simulation bus t ≡ simulation_stepped (λ c x. record x { sticky_error = true; buffer = None })
      (target_simulation bus s)

-- the answer in a state where no WAIT is asked for
abbrev pub target_answer_at : Register → Bool → State → Reply
target_answer_at r ap s = port_answer_by s.reset s.sticky_error s.write_error (is_port_unpowered ap (port_has_power s))
    r

-- the reply to a request, where WAIT is asked for or not
abbrev pub target_reply_when : Bool → Register → Reply → Reply
target_reply_when waits r a = if waits && port_may_wait r a then Waits else a

-- the simulated target in which a request is replied to
abbrev pub target_settled_when : Bool → Register → Bool → Simulation → Simulation
target_settled_when waits r ap s =
    if simulation_is_owed r (target_reply_when waits r (target_answer_at r ap (simulation_transferred s).state)) then
    simulation_transferred s else s

-- The code's test for that, from whether the pending transfer would fail. WAIT replaces only OK, and so not the FAULT
-- of a bus error.
abbrev pub is_target_settling : Bool → Register → Reply → Bool → Bool
is_target_settling waits r Silent failing = false
is_target_settling waits r Okay failing = not (is_exempt_register r) && (not waits || failing)
is_target_settling waits r a failing = not (is_exempt_register r)

-- the same test for a target
abbrev pub target_settles_first : {D : Type 0} → (D → Bus) → Bool → Register → Bool → Target D → Bool
target_settles_first bus waits r ap t = is_target_settling waits r (target_answer_at r ap (target_state bus t))
    (pending_fails t.pending t.tar.word (bus t.device))

-- the data phase that follows a reply, by a choice
abbrev pub target_phase_in : Choice → Reply → Bool → Register → State → AfterAck
target_phase_in c reply read r s = port_line_after reply (port_phase_after read r None (port_value_in c r s)) Idle

-- the flags after a write of ABORT, and the power requests after a write of CTRL/STAT
abbrev pub target_flags_cleared : ℕ → State → State
target_flags_cleared word s = record s {
  sticky_error = s.sticky_error && not (register_bit 2 word);
  write_error = s.write_error && not (register_bit 3 word);
}

abbrev pub target_power_set : ℕ → State → State
target_power_set word s = record s {
  debug_power = register_bit 28 word;
  system_power = register_bit 30 word;
  debug_up = Unseen;
  system_up = Unseen;
}

-- a line reset, which may end the data phase of a write (`awaiting`)
abbrev pub target_line_reset : Bool → State → State
target_line_reset awaiting s = record s { reset = Fresh; write_error = awaiting || s.write_error }
