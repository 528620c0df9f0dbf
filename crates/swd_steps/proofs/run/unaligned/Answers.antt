use Rattle.std.proofs.Common.{arith, sym, ◌∙◌}
use Rattle.swd_steps.proofs.Lists.{stepped_take_is_valid, stepped_none_past_end}
use Rattle.swd_steps.proofs.run.unaligned.Goals.{in-Some+else-not-is_aligned, in_default}
use Rattle.swd_steps.proofs.run.unaligned.Goals as goal

pub loop-index-preserved : goal.loop-index-preserved
loop-index-preserved g c = record {
  are = elim c.match-access.branch [
    | in-Some+else-not-is_aligned w ↦ stepped_take_is_valid (g.L.Accesses.list c.args.accesses.now) c.loop-index.index _
        (sym c.access.ensures ∙ w.in-Some.is) w.is_aligned.ensures.ranges (search arith) c.loop-index.invariant.are
    | in_default w ↦ absurd (omega (
      arith,
      stepped_none_past_end (g.L.Accesses.list c.args.accesses.now) c.loop-index.index
          (sym c.access.ensures ∙ search arith),
    ))
  ];
}
