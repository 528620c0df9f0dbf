use Rattle.swd_checker.proofs.CoverLemmas.{worlds_joined}
use Rattle.swd_checker.proofs.JoiningLemmas.{worlds_reached_joined}
use Rattle.swd_checker.proofs.world.World.joined.Goals as goal

pub returns-then-is_same_but_tar-clause-joined : goal.returns-then-is_same_but_tar-clause-joined
returns-then-is_same_but_tar-clause-joined c = worlds_joined c.args.self c.args.other c.joined.result c.with_tar.result
    (c.is_same_but_tar.ensures.wider c.if-is_same_but_tar.true) c.joined.ensures.joined c.with_tar.ensures

pub returns-then-is_same_but_tar-clause-reaches : goal.returns-then-is_same_but_tar-clause-reaches
returns-then-is_same_but_tar-clause-reaches c = worlds_reached_joined c.args.self c.args.other c.joined.result
    c.with_tar.result (c.is_same_but_tar.ensures.alike c.if-is_same_but_tar.true) c.joined.ensures.whole
    c.with_tar.ensures
