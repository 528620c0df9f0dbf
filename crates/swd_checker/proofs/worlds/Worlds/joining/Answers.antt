use Rattle.std.proofs.Common.{arith}
use Rattle.swd_checker.proofs.KeptLemmas.{kept_reached_joined}
use Rattle.swd_checker.proofs.worlds.Worlds.joining.Goals as goal

pub returns-in-Some-clause-reaches : goal.returns-in-Some-clause-reaches
returns-in-Some-clause-reaches c = kept_reached_joined c.args.self.now.kept.items c.deref.result.now c.args.added.now
    c.loop-place.place _ c.joined.result c.in-Some.world c.deref.ensures.0 (omega arith) c.joined.ensures.reaches
    c.in-Some.is
