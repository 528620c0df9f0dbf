use Rattle.std.specs.Prelude.{ℕ, ◌<◌}
use Rattle.swd_checker.specs.Described.{checked_near_at}
use Rattle.swd_checker.specs.Reaching.{CheckedLink, WorldsReach}
use Rattle.swd_checker.specs.Reached.{WorldsArriveAt}
use Rattle.swd_checker.proofs.ArrivalLemmas.{WorldsCuring}
use Rattle.swd_checker.proofs.worlds.Worlds.cure.Given as goal

abbrev pub invariant-loop-place : goal.invariant-loop-place
invariant-loop-place l = record {
  cures : WorldsCuring l.fn.self l.self l.now.world l.now.register l.sent l.place;
  reaches : (link : CheckedLink) → WorldsReach link l.fn.self
      → ((place : ℕ) → place < 33 → WorldsArriveAt link l.now.world l.now.register (checked_near_at l.sent place))
      → WorldsReach link l.self;
}
