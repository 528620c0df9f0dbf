use Rattle.std.proofs.Common.{refl, arith}
use Rattle.swd_checker.proofs.near.Near.of.Goals as goal

pub returns-clause-near : goal.returns-clause-near
returns-clause-near c = (32, omega arith, refl, refl)
