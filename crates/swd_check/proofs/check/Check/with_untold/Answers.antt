use Rattle.std.proofs.Common.{sym, subst}
use Rattle.swd_check.specs.declared.rules.Rules.{Rules}
use Rattle.swd_check.specs.Watched.{CheckHolds}
use Rattle.swd_check.proofs.WatchLemmas.{check_untold}
use Rattle.swd_check.proofs.check.Check.with_untold.Goals as goal

pub returns : goal.returns
returns g c = λ i seen h.
    subst (λ (r : Rules). CheckHolds i (record c.args.self { rules = r }) seen) (sym c.with_untold.ensures)
    (check_untold i c.args.self c.args.untold seen h)
