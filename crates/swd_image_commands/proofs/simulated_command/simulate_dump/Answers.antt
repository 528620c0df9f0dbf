use Rattle.std.proofs.Common.{inr}
use Rattle.swd_image_commands.proofs.simulated_command.simulate_dump.Goals as goal

pub returns-in-Ok-target_of : goal.returns-in-Ok-target_of
returns-in-Ok-target_of g c =
    inr (c.in-Ok-target_of.bench, c.in-Ok-target_of.ensures.target, c.dump_over.ensures)
