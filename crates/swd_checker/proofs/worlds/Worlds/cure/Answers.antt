use Rattle.std.proofs.Common.{arith}
use Rattle.swd_checker.proofs.ArrivalLemmas.{curing_more, curing_done}
use Rattle.swd_checker.proofs.worlds.Worlds.cure.Goals as goal

pub loop-place-preserved : goal.loop-place-preserved
loop-place-preserved c = record {
  cures = curing_more c.args.self.now c.loop-place.self c.cure_at.new.self c.args.now.world c.args.now.register
      c.args.sent c.loop-place.place c.cure_at.ensures.keeps c.cure_at.ensures.cures c.loop-place.invariant.cures;
  reaches = λ link old h. c.cure_at.ensures.reaches link (c.loop-place.invariant.reaches link old h)
      (h c.loop-place.place (omega arith));
}

pub returns-clause-cures : goal.returns-clause-cures
returns-clause-cures c = λ word near. curing_done c.args.self.now c.loop-place.self c.args.now.world
    c.args.now.register c.args.sent c.loop-place.place word (omega arith) c.loop-place.invariant.cures near

pub returns-clause-reaches : goal.returns-clause-reaches
returns-clause-reaches c = λ link old h. c.loop-place.invariant.reaches link old h
