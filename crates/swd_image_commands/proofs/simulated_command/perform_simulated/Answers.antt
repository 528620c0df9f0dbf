use Rattle.std.proofs.Common.{inr, subst}
use Rattle.swd_image_ends.specs.Memories.{AreImageEndWholeWords}
use Rattle.swd_image_commands.specs.Simulated.{SimulatesAction}
use Rattle.swd_image_commands.proofs.simulated_command.perform_simulated.Goals as goal

pub returns-in-Ok : goal.returns-in-Ok
returns-in-Ok g c =
    let held = c.in-Ok.held in
    let same = c.in-Ok.ensures.memory in (
      c.in-Ok.ensures.text.0,
      inr (
        held.bytes.items,
        c.in-Ok.ensures.text.1,
        subst (λ m. AreImageEndWholeWords m.base held.bytes.items) same held.whole,
        held.marks.items,
        c.in-Ok.ensures.none,
        subst (λ m. SimulatesAction g.row.A.Denot c.args.image.now c.args.image.now.action m.base held.bytes.items
            held.marks.items c.simulate_action.result) same c.simulate_action.ensures,
      ),
    )
