use Rattle.std.proofs.Common.{inr}
use Rattle.swd_image_ends.specs.Pieces.{pieces_to_load}
use Rattle.swd_image_commands.proofs.simulated_command.simulate_pieces.Goals as goal

pub returns-in-Ok-target_of : goal.returns-in-Ok-target_of
returns-in-Ok-target_of g c =
    inr (
      c.in-Ok-target_of.bench,
      c.in-Ok-target_of.ensures.target,
      pieces_to_load c.in-Ok.whole,
      c.in-Ok.ensures.pieces,
      _,
      _,
      c.pieces_over.ensures c.args.action _ _ c.in-Ok-open_back.ensures.back,
    )
