-- The steps of a wire with nothing at its other end, for the tests.
use Rattle.std.proofs.Common.{◌≡◌, ◌+◌, ℕ, Bool, true, false, [], refl, sym, subst, inl}
use Rattle.std.specs.Prelude.{◌==◌, if◌then◌else◌}
use Rattle.std.specs.FinMap.{empty}
use Rattle.swd_bits.specs.declared.request.Request.{Request}
use Rattle.swd_port.specs.declared.wire.Due.{Due}
use Rattle.swd_port.specs.declared.wire.Due.TheVariants.{Nothing, Lost}
use Rattle.swd_port.specs.declared.state.Reset.{Reset}
use Rattle.swd_port.specs.declared.state.Reset.TheVariants.{Fresh}
use Rattle.swd_port.specs.declared.state.AfterAck.TheVariants.{Idle}
use Rattle.swd_port.specs.PlainBus.{bus_of}
use Rattle.swd_port.specs.Port.{Port}
use Rattle.swd_port.specs.Made.{port_made_target}
use Rattle.swd_port.specs.Choices.{port_undriven}
use Rattle.swd_port.specs.declared.mark.Mark.TheVariants.{Deaf}
use Rattle.swd_port.specs.declared.cue.Cue.{Cue}
use Rattle.swd_port.specs.declared.cue.Cue.TheVariants.{Lead, Ask, Take, Give, Pass}
use Rattle.swd_port.specs.Asking.{PortAsks}
use Rattle.swd_port.specs.Leading.{PortLeads}
use Rattle.swd_port.specs.Steps.{IsPortStep}
use Rattle.swd_port.proofs.WorkedLaws.{port_case_choice, port_case_choice_fits}

-- the port machine behind it, of which nothing but the line resets is seen
abbrev pub open_wire_port : Due → Reset → ℕ → Port
open_wire_port due reset asked = record {
  link = record { due = due; line = Idle };
  target = record (port_made_target 0 (bus_of (record { words = empty; log = []; room = 0 }))) { reset = reset };
  tally = record { asked = asked; disturbed = 0; lost = asked };
}

open_asked : (q : Request) (due : Due) (reset : Reset) (n : ℕ)
    → PortAsks (open_wire_port due reset n) q 7 (open_wire_port Lost reset (n + 1))
open_asked q due reset n = (
  open_wire_port due reset n,
  open_wire_port due reset n,
  open_wire_port Lost reset (n + 1),
  Deaf,
  port_case_choice,
  inl refl,
  inl refl,
  record {
    legal = tt;
    choice = port_case_choice_fits;
    late = λ e. (refl, refl);
    settled = tt;
    word = tt;
    sees =
        record { not_okay = refl; not_wait = refl; not_fault = refl };
    after = refl;
  },
  inl refl,
)

open_led : (b : Bool) (ones : ℕ) (due : Due) (reset : Reset) (n : ℕ) → (ones == 0) ≡ b
    → PortLeads (open_wire_port due reset n) ones (open_wire_port Nothing (if b then reset else Fresh) n)
open_led true ones due reset n e =
    (open_wire_port due reset n, open_wire_port Nothing reset n, inl refl, record { after = rw e refl }, inl refl)
open_led false ones due reset n e =
    (open_wire_port due reset n, open_wire_port Nothing Fresh n, inl refl, record { after = rw e refl }, inl refl)

-- what is seen at a cue, what is due then, and whether the target was reset or asked
abbrev pub open_wire_seen : Cue → ℕ
open_wire_seen (Ask request) = 7
open_wire_seen Take = port_undriven
open_wire_seen cue = 0

abbrev pub open_wire_after : Cue → Due → Reset → ℕ → Port
open_wire_after (Lead ones released switch zeros) due reset n =
    open_wire_port Nothing (if ones == 0 then reset else Fresh) n
open_wire_after (Ask request) due reset n = open_wire_port Lost reset (n + 1)
open_wire_after cue due reset n = open_wire_port Nothing reset n

step_of : (cue : Cue) (due : Due) (reset : Reset) (n : ℕ)
    → IsPortStep cue (open_wire_seen cue) (open_wire_port due reset n) (open_wire_after cue due reset n)
step_of (Lead ones released switch zeros) due reset n = open_led (ones == 0) ones due reset n refl
step_of (Ask request) due reset n = open_asked request due reset n
step_of Take due reset n = (
  open_wire_port due reset n,
  open_wire_port Nothing reset n,
  inl refl,
  record { gets = refl; after = refl },
  inl refl,
)
step_of (Give bits) due reset n = (
  open_wire_port due reset n,
  open_wire_port Nothing reset n,
  inl refl,
  record { refuses = false; after = refl },
  inl refl,
)
step_of Pass due reset n =
    (open_wire_port due reset n, open_wire_port Nothing reset n, inl refl, record { after = refl }, inl refl)

-- each cue is a step of that port machine, for `OpenWire::step`
pub open_wire_step : (cue found : Cue) (due : Due) (reset : Reset) (n : ℕ) → cue ≡ found
    → IsPortStep cue (open_wire_seen found) (open_wire_port due reset n) (open_wire_after found due reset n)
open_wire_step cue found due reset n is =
    subst (λ x. IsPortStep x (open_wire_seen found) (open_wire_port due reset n) (open_wire_after found due reset n))
    (sym is) (step_of found due reset n)
