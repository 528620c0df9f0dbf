use Rattle.std.proofs.Common.{arith}
use Rattle.swd_target.proofs.MarkLemmas.{list_all-legal}
use Rattle.swd_target.proofs.plan.Plan.new.Goals as goal

pub invariant_of-result : goal.invariant_of-result
invariant_of-result g c =
    record {
      legal = list_all-legal _ c.requires;
      counted = grind arith;
      counted_disturbed = grind arith;
      counted_lost =
          grind arith;
    }
