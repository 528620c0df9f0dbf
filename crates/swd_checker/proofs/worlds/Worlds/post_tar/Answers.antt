use Rattle.std.proofs.Common.{◌≤◌, sym, subst, arith}
use Rattle.swd_checker.specs.Reaching.{WorldReaches}
use Rattle.swd_checker.proofs.AddingLemmas.{at_tar_more, at_each_tar}
use Rattle.swd_checker.proofs.ReachLemmas.{tar_unknown, tar_small}
use Rattle.swd_checker.proofs.worlds.Worlds.post_tar.Goals as goal

pub loop-index-preserved : goal.loop-index-preserved
loop-index-preserved c = record {
  at = at_tar_more c.args.self.now c.loop-index.self c.add-in-loop-index.new.self c.args.world c.at_tar.result
      c.in-From.first c.loop-index.index c.at_tar.ensures.tar c.at_tar.ensures.awaits c.add-in-loop-index.ensures.keeps
      c.add-in-loop-index.ensures.adds c.loop-index.invariant.at;
  reaches = λ link old h.
      let within : c.loop-index.index ≤ c.in-From.more = omega arith in
      c.add-in-loop-index.ensures.reaches link (c.loop-index.invariant.reaches link old h)
      (subst (WorldReaches link) (sym (c.at_tar.ensures.exact
      (tar_small c.args.world.tar c.in-From.first c.in-From.more c.loop-index.index c.in-From.is within h.sound)))
      (h.each c.in-From.first c.in-From.more c.loop-index.index c.in-From.is within));
}

pub returns-clause-posts : goal.returns-clause-posts
returns-clause-posts c = at_each_tar c.args.self.now c.loop-index.self c.args.world c.in-From.first c.in-From.more _
    c.in-From.is (omega arith) c.loop-index.invariant.at

pub returns-in_default-clause-reaches : goal.returns-in_default-clause-reaches
returns-in_default-clause-reaches c = λ link old h.
    c.add.ensures.reaches link old (h.unknown (tar_unknown c.args.world.tar c.in_default.not-From))

pub returns-clause-reaches : goal.returns-clause-reaches
returns-clause-reaches c = λ link old h. c.loop-index.invariant.reaches link old h
