-- What a target chooses, as a choice of the port machine, and when its transfers take effect.
use Rattle.std.proofs.Common.{◌≡◌, ◌<◌, ◌^◌, ◌||◌, ◌∙◌, ℕ, Bool, true, false, Option, None, refl, sym, ap, subst}
use Rattle.std.proofs.Common.{arith}
use Rattle.std.proofs.Common.{if◌then◌else◌}
use Rattle.std.specs.Prelude.{is_some, nat_lt, ◌&&◌, ◌+◌, ◌%◌, Some}
use Rattle.std.specs.Option.{option_and_then}
use Rattle.swd_port.specs.Bus.{Bus}
use Rattle.swd_port.specs.Port.{Target as State}
use Rattle.swd_bits.specs.declared.request.Reg4.{Reg4}
use Rattle.swd_bits.specs.declared.request.Reg4.TheVariants.{R0, R8, RC}
use Rattle.swd_port.specs.declared.register.Register.{Register}
use Rattle.swd_port.specs.declared.register.Register.TheVariants.{ApOtherRead, ResendRead, CswRead}
use Rattle.swd_port.specs.declared.select.Select.{Select}
use Rattle.swd_port.specs.declared.state.Drw.{Drw}
use Rattle.swd_port.specs.declared.state.Reset.{Reset}
use Rattle.swd_port.specs.declared.state.Reply.{Reply}
use Rattle.swd_port.specs.declared.state.Reply.TheVariants.{Okay, Waits, Faults, Silent}
use Rattle.swd_port.specs.declared.mark.Mark.{Mark}
use Rattle.swd_port.specs.declared.state.PowerUp.{PowerUp}
use Rattle.swd_port.specs.declared.state.PowerUp.TheVariants.{Seen}
use Rattle.swd_port.specs.Choices.{Choice, IsPortChoice, PortMayBeLate, is_port_wait}
use Rattle.swd_port.specs.Answers.{port_answer_by, is_exempt_register, is_port_unpowered}
use Rattle.swd_port.specs.Completion.{port_completion, pending_fails, port_tar_next_address}
use Rattle.swd_port.specs.Asking.{IsPendingSettled, port_has_power}
use Rattle.swd_target.specs.declared.target.Target.{Target}
use Rattle.swd_target.specs.Simulations.{Simulation, simulation_is_owed, simulation_transferred}
use Rattle.swd_target.specs.Simulations.{selects_simulated_idr, simulated_elsewhere, simulated_idr_bank}
use Rattle.swd_target.specs.Simulations.{simulated_others, simulated_system_late, simulated_next_address}
use Rattle.swd_target.specs.Targets.{target_state, target_simulation, target_stand_in, target_choice_for}
use Rattle.swd_target.specs.Targets.{target_answer_at, target_reply_when, target_settled_when}
use Rattle.swd_target.specs.Targets.{is_target_settling, target_choice_at}

-- without a Wait mark system power is on time
pub system_on_time : (waits : Bool) (up : PowerUp) → waits ≡ false → simulated_system_late waits up ≡ false
system_on_time waits Seen e = refl
system_on_time waits up e = e

stand_in-fits : {D : Type 0} (r : Register) (t : Target D) → target_stand_in r t < 2 ^ 32
stand_in-fits ResendRead t = t.last_returned.fits
stand_in-fits r t = t.buffer.fits

others_fit : (r : Register) (upper : ℕ) → simulated_others r upper < 2 ^ 32
others_fit CswRead upper = omega arith
others_fit r upper = omega arith

idr_bank_fits : (here : Bool) (addr : Reg4) (idr : ℕ) → (if here then simulated_idr_bank addr idr else 0) < 2 ^ 32
idr_bank_fits true R8 idr = omega arith
idr_bank_fits true RC idr = omega arith
idr_bank_fits true addr idr = omega arith
idr_bank_fits false addr idr = omega arith

elsewhere_fits : (r : Register) (addr : Reg4) (s : Select) (idr : Option ℕ) → simulated_elsewhere r addr s idr < 2 ^ 32
elsewhere_fits ApOtherRead addr s (Some idr) = idr_bank_fits (selects_simulated_idr s) addr idr
elsewhere_fits r addr s idr = omega arith

-- the address and the words that a target chooses are below 2^32
pub target_choice_at_is_choice : {D : Type 0} (waits : Bool) (r : Register) (addr : Reg4) (t : Target D)
    → IsPortChoice (target_choice_at waits r addr t)
target_choice_at_is_choice waits r addr t = record {
  address = t.tar.fits;
  filler = stand_in-fits r t;
  others = others_fit r t.csw_upper;
  elsewhere = elsewhere_fits r addr t.select t.quirks.idr;
}

-- and it finds power late where WAIT is asked for alone
pub target_may_be_late : {D : Type 0} (mark : Mark) (waits : Bool) (r : Register) (addr : Reg4)
    (t : Target D) → is_port_wait mark ≡ waits → PortMayBeLate mark (target_choice_at waits r addr t)
target_may_be_late mark waits r addr t is e = (sym is ∙ e, system_on_time waits t.debug_up (sym is ∙ e))

-- so is the choice where no WAIT is asked for
pub target_choice_is_choice : {D : Type 0} (r : Register) (t : Target D) → IsPortChoice (target_choice_for r t)
target_choice_is_choice r t = target_choice_at_is_choice false r R0 t

-- the next address inside a kilobyte
next_inside : (wraps : Bool) (at : ℕ) → at < 2 ^ 32 → at % 1024 < 1020 → simulated_next_address wraps at ≡ at + 4
next_inside true at range inside = omega arith
next_inside false at range inside = omega arith

advances_by : (wraps : Bool) (at : ℕ) (inside : Bool) → at < 2 ^ 32 → nat_lt (at % 1024) 1020 ≡ inside
    → (if inside then Some (simulated_next_address wraps at) else None) ≡ port_tar_next_address at
advances_by wraps at true range e =
    let below : at % 1024 < 1020 = grind arith in
    let same : nat_lt (at % 1024 + 4) 1024 ≡ true = grind arith in
    ap Some (next_inside wraps at range below) ∙ rw same refl
advances_by wraps at false range e =
    let same : nat_lt (at % 1024 + 4) 1024 ≡ false = grind arith in
    rw same refl

-- TAR after a transfer that succeeded is known inside a kilobyte, where it was known
pub target_tar_advances : (known inside : Bool) (wraps : Bool) (at : ℕ) → at < 2 ^ 32
    → inside ≡ nat_lt (at % 1024) 1020 →
    (if known && inside then Some (simulated_next_address wraps at) else None)
    ≡ option_and_then port_tar_next_address (if known then Some at else None)
target_tar_advances true inside wraps at range e = advances_by wraps at inside range (sym e)
target_tar_advances false inside wraps at range e = refl

-- the code settles exactly where that is owed by the reply that follows
owed_by : (exempt : Bool) (waits : Bool) (r : Register) (reset : Reset) (sticky write unpowered failing : Bool)
    → is_exempt_register r ≡ exempt
    → simulation_is_owed r (target_reply_when waits r (port_answer_by reset (sticky || failing) write unpowered r))
    ≡ is_target_settling waits r (port_answer_by reset sticky write unpowered r) failing
owed_by exempt waits r reset sticky write unpowered failing x = grind arith

-- the code's test holds exactly where the reply, once the pending transfer took effect, has to come after it
pub target_settling_owed : {D : Type 0} (bus : D → Bus) (waits : Bool) (r : Register) (ap_ : Bool) (t : Target D)
    → simulation_is_owed r (target_reply_when waits r
    (target_answer_at r ap_ (simulation_transferred (target_simulation bus t)).state)) ≡ is_target_settling waits r
    (target_answer_at r ap_ (target_state bus t)) (pending_fails t.pending t.tar.word (bus t.device))
target_settling_owed bus waits r ap_ t = owed_by _ waits r t.reset t.sticky_error t.write_error
    (is_port_unpowered ap_ (port_has_power (target_state bus t))) (pending_fails t.pending t.tar.word (bus t.device))
    refl

-- where the code does not settle, it need not
pub target_settled_unless : (waits : Bool) (r : Register) (a : Reply) (failing : Bool) (pending : Option Drw)
    → is_target_settling waits r a failing ≡ false
    → IsPendingSettled (target_reply_when waits r a) r pending
target_settled_unless waits r a failing pending e = grind arith

-- with nothing pending all is settled
pub target_settled_if_none : (r : Register) (reply : Reply) → IsPendingSettled reply r None
target_settled_if_none r Okay = λ e. refl
target_settled_if_none r Faults = λ e. refl
target_settled_if_none r Waits = tt
target_settled_if_none r Silent = tt

-- after a completion nothing is pending
pub target_settled_after : {D : Type 0} (bus : D → Bus) (r : Register) (reply : Reply) (c : Choice) (s : State)
    (u : Target D)
    → target_state bus u ≡ port_completion c s → IsPendingSettled reply r u.pending
target_settled_after bus r reply c s u e = subst (λ (p : Option Drw). IsPendingSettled reply r p)
    (sym (ap (λ (s : State). s.pending) e)) (target_settled_if_none r reply)

-- with nothing pending no completion changes anything
pub simulation_at_rest : {D : Type 0} (bus : D → Bus) (t : Target D) → t.pending ≡ None
    → simulation_transferred (target_simulation bus t) ≡ target_simulation bus t
simulation_at_rest bus t e = grind arith

unchanged : (b : Bool) (s t : Simulation) → t ≡ s → s ≡ (if b then t else s)
unchanged true s t e = sym e
unchanged false s t e = refl

-- where the code's test finds no pending transfer, there is none
pub target_none_pending_test : (pending : Option Drw) → is_some pending ≡ false → pending ≡ None
target_none_pending_test pending e = grind arith

-- so it doesn't matter whether the code settles then
pub simulation_settled_at_rest : {D : Type 0} (bus : D → Bus) (waits : Bool) (r : Register) (ap_ : Bool) (t : Target D)
    → t.pending ≡ None → target_simulation bus t ≡ target_settled_when waits r ap_ (target_simulation bus t)
simulation_settled_at_rest bus waits r ap_ t e =
    unchanged _ (target_simulation bus t) (simulation_transferred (target_simulation bus t))
    (simulation_at_rest bus t e)
