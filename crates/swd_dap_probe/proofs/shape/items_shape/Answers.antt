use Rattle.std.proofs.Common.{arith}
use Rattle.swd_dap_probe.specs.Shapes.{dap_item_shape}
use Rattle.swd_dap_probe.proofs.ItemLemmas.{shapes_first, shapes_next, shapes_last}
use Rattle.swd_dap_probe.proofs.shape.items_shape.Goals as goal

pub loop-place-init : goal.loop-place-init
loop-place-init c = record {
  sums = shapes_first (dap_item_shape c.args.items) c.args.before c.args.before c.args.count c.args.bytes.now _
      c.skip-rest.ensures;
  few = omega arith;
  fits = omega arith;
}

pub loop-place-preserved : goal.loop-place-preserved
loop-place-preserved c =
    let l = c.loop-place in
    let one = c.item_shape-one in
    record {
      sums = shapes_next (dap_item_shape c.args.items) c.args.before c.args.before c.args.count c.args.bytes.now l.place
          l.rest.now _ l.shape one.result c.loop-place-test.true one.ensures.shape c.skip-rest-in-loop-place.ensures
          l.invariant.sums;
      few = omega (arith, l.invariant.few, one.ensures.bound);
      fits = omega (arith, l.invariant.fits, one.ensures.bound);
    }

pub returns-clause-shape : goal.returns-clause-shape
returns-clause-shape c =
    let l = c.loop-place in
    shapes_last (dap_item_shape c.args.items) c.args.before c.args.before c.args.count c.args.bytes.now l.place
    l.rest.now l.shape c.loop-place-test.false l.invariant.sums
