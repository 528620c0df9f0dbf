use Rattle.std.proofs.Common.{ap, ◌∙◌}
use Rattle.std.specs.Prelude.{slice_set}
use Rattle.std.proofs.lemmas.List.{length-set}
use Rattle.swd_c.proofs.Plans.{plan_stores_more}
use Rattle.swd_c.proofs.plan.store.Goals as goal

pub loop-place-preserved : goal.loop-place-preserved
loop-place-preserved c = record {
  stored = ap (λ l. slice_set l c.loop-place.place c.of.result) c.loop-place.invariant.stored
      ∙ plan_stores_more c.loop-place.place c.args.coming.now c.args.plan.now c.of.result _ c.loop-place-test.true
      c.requires c.of.ensures;
  room = length-set c.loop-place.plan c.loop-place.place c.of.result ∙ c.loop-place.invariant.room;
}
