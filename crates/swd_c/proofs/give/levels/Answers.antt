use Rattle.std.proofs.Common.{◌≡◌, ◌*◌, ◌-◌, ◌%◌, ◌^◌, ◌≤◌, arith, lit<}
use Rattle.std.proofs.Math.Nat.{pow-le-pow_right}
use Rattle.swd_c.proofs.Gives.{cut_ones, cut_zeros}
use Rattle.swd_c.proofs.give.levels.Goals as goal

pub returns-then-level-clause-bits : goal.returns-then-level-clause-bits
returns-then-level-clause-bits c = λ n few.
    let most : 2 ^ c.args.count ≤ 2 ^ 32 = pow-le-pow_right (lit< tt) c.requires in
    let plain : 1 * 2 ^ c.args.count % 18446744073709551616 - 1 ≡ 2 ^ c.args.count - 1 = omega (arith, most) in
    rw (plain, c.if-level.true) (cut_ones n c.args.count few)

pub returns-else-level-clause-bits : goal.returns-else-level-clause-bits
returns-else-level-clause-bits c = λ n few. rw (c.if-level.false) (cut_zeros n)
