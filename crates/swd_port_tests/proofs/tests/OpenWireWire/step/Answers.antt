use Rattle.std.proofs.Common.{subst, sym, inl, inr}
use Rattle.swd_port.specs.declared.cue.Cue.TheVariants.{Lead, Ask, Take, Give, Pass}
use Rattle.swd_port.specs.declared.wire.Due.TheVariants.{Nothing, Lost}
use Rattle.swd_port.specs.Steps.{IsPortStep}
use Rattle.swd_port_tests.proofs.OpenWires.{open_wire_port, open_wire_step}
use Rattle.swd_port_tests.proofs.tests.OpenWireWire.step.Goals as goal

pub returns-in-Lead-clause-step : goal.returns-in-Lead-clause-step
returns-in-Lead-clause-step c = λ lawful.
    let old = c.args.self.now in
    let led = c.in-Lead in (
      tt,
      subst (λ r. IsPortStep c.args.cue 0 (open_wire_port old.due old.reset old.asked.ticks)
          (open_wire_port Nothing r old.asked.ticks)) (sym c.reset_after-self.ensures)
          (open_wire_step c.args.cue (Lead led.ones led.undriven led.switch led.zeros) old.due old.reset old.asked.ticks
          led.is),
    )

pub returns-in-Ask-clause-step : goal.returns-in-Ask-clause-step
returns-in-Ask-clause-step c = λ lawful.
    let old = c.args.self.now in (
      tt,
      subst (λ n. IsPortStep c.args.cue 7 (open_wire_port old.due old.reset old.asked.ticks)
          (open_wire_port Lost old.reset n)) (sym c.tick.ensures)
          (open_wire_step c.args.cue (Ask c.in-Ask.field-0) old.due old.reset old.asked.ticks c.in-Ask.is),
    )

pub returns-in-Take-clause-step : goal.returns-in-Take-clause-step
returns-in-Take-clause-step c = λ lawful.
    (let old = c.args.self.now in (tt, open_wire_step c.args.cue Take old.due old.reset old.asked.ticks c.in-Take.is))

pub returns-in-Give-clause-step : goal.returns-in-Give-clause-step
returns-in-Give-clause-step c = λ lawful.
    let old = c.args.self.now in (
      tt,
      elim c.in-Give.is [
        | inl gives ↦ open_wire_step c.args.cue (Give gives.0) old.due old.reset old.asked.ticks gives.1
        | inr passes ↦ open_wire_step c.args.cue Pass old.due old.reset old.asked.ticks passes
      ],
    )
