use Rattle.std.proofs.Common.{arith}
use Rattle.swd_target.proofs.MarkLemmas.{plan_disturbed_used, plan_lost_used}
use Rattle.swd_target.proofs.plan.Plan.use_mark.Goals as goal

pub invariant_of-self : goal.invariant_of-self
invariant_of-self g c =
    let p = c.args.self.now in
    let m = c.next_mark-mark in
    record {
      legal = p.legal;
      counted = grind arith;
      counted_disturbed = plan_disturbed_used p.marks.items p.asked.ticks _ p.disturbed.ticks _ m.result m.ensures.mark
          c.tick.ensures p.counted_disturbed (grind arith);
      counted_lost = plan_lost_used p.marks.items p.asked.ticks _ p.lost.ticks _ m.result m.ensures.mark c.tick.ensures
          p.counted_lost (grind arith);
    }

pub invariant_of-self-else-self-len : goal.invariant_of-self-else-self-len
invariant_of-self-else-self-len g c =
    let p = c.args.self.now in
    let m = c.next_mark-mark in
    record {
      legal = p.legal;
      counted = grind arith;
      counted_disturbed = plan_disturbed_used p.marks.items p.asked.ticks _ p.disturbed.ticks _ m.result m.ensures.mark
          c.tick.ensures p.counted_disturbed (grind arith);
      counted_lost = plan_lost_used p.marks.items p.asked.ticks _ p.lost.ticks _ m.result m.ensures.mark c.tick.ensures
          p.counted_lost (grind arith);
    }
