use Rattle.swd_checker.specs.Reaching.{CheckedLink, WorldsReach}
use Rattle.swd_checker.specs.Reached.{WorldsPostTar}
use Rattle.swd_checker.proofs.AddingLemmas.{WorldsAtTar}
use Rattle.swd_checker.proofs.worlds.Worlds.post_tar.Given as goal

abbrev pub invariant-loop-index : goal.invariant-loop-index
invariant-loop-index l = record {
  at : WorldsAtTar l.fn.self l.self l.world l.first l.index;
  reaches : (link : CheckedLink) → WorldsReach link l.fn.self → WorldsPostTar link l.world → WorldsReach link l.self;
}
