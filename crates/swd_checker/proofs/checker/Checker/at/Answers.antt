use Rattle.std.proofs.Common.{◌≡◌, true, false, refl}
use Rattle.swd_checker.proofs.checker.Checker.at.Goals as goal

pub returns-clause-holds : goal.returns-clause-holds
returns-clause-holds c = λ s odd opened. record {
  unbroken = refl;
  odd = odd;
  identified = c.unknown.ensures.may s.target.identification;
  opened = opened;
  in_gap = λ e. absurd (let f : false ≡ true = e in cc);
}
