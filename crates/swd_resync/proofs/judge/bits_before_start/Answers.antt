use Rattle.std.proofs.Common.{◌≤◌, arith}
use Rattle.swd_resync.proofs.PlaceLemmas.{one_bit_before_stretch}
use Rattle.swd_resync.proofs.judge.bits_before_start.Goals as goal

pub loop-rest-preserved : goal.loop-rest-preserved
loop-rest-preserved c =
    let m = c.loop-rest.rest.len in
    let v = c.loop-rest.rest.bits in
    let many : 8 ≤ m = c.loop-rest-test.true in
    let next = c.from_first_place-rest-in-loop-rest.ensures in
    record {
      within = omega (arith, next.within);
      spelled = next.spelled;
      before = λ over back.
          let one = one_bit_before_stretch over m v back (omega arith)
          (c.begins_nothing.ensures c.if-begins_nothing.true over back) in
          let others = next.before over back in
          let fewer = next.within in
          let h = c.loop-rest.invariant.before over back in
          omega arith;
    }
