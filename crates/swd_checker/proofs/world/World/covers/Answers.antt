use Rattle.swd_checker.proofs.CoverLemmas.{world_covers}
use Rattle.swd_checker.proofs.world.World.covers.Goals as goal

pub returns-then-is_wider : goal.returns-then-is_wider
returns-then-is_wider c = λ e. world_covers c.args.self c.args.other (c.is_wider.ensures.wider c.if-is_wider.true)
    (c.covers.ensures e)
