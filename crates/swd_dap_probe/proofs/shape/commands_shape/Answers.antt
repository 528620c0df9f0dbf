use Rattle.std.proofs.Common.{arith, get_or}
use Rattle.swd_dap_probe.specs.Shapes.{dap_command_shape}
use Rattle.swd_dap_probe.proofs.ItemLemmas.{shapes_next, shapes_last}
use Rattle.swd_dap_probe.proofs.shape.commands_shape.Goals as goal

pub loop-place-preserved : goal.loop-place-preserved
loop-place-preserved c =
    let l = c.loop-place in
    let one = c.command_shape-one in
    record {
      sums = shapes_next dap_command_shape 2 2 (get_or c.args.bytes.now 1 0) c.args.bytes.now l.place
          l.rest.now _ l.shape one.result (omega (arith, c.loop-place-test.true, c.byte_at-place-end.ensures))
          one.ensures.shape c.skip-rest-in-loop-place.ensures l.invariant.sums;
      few = omega (arith, l.invariant.few, one.ensures.few);
      fits = omega (arith, l.invariant.fits, one.ensures.few);
    }

pub returns : goal.returns
returns c =
    let l = c.loop-place in
    shapes_last dap_command_shape 2 2 (get_or c.args.bytes.now 1 0) c.args.bytes.now l.place l.rest.now
    l.shape (omega (arith, c.loop-place-test.false, c.byte_at-place-end.ensures)) l.invariant.sums
