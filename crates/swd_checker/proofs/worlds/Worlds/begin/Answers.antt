use Rattle.std.proofs.Common.{sym, subst}
use Rattle.swd_checker.specs.Openings.{WorldsOpen}
use Rattle.swd_checker.proofs.worlds.Worlds.begin.Goals as goal

pub returns-in-Resting-clause-opens : goal.returns-in-Resting-clause-opens
returns-in-Resting-clause-opens c = λ e. subst
    (λ o. WorldsOpen o c.args.tx.now.result c.args.tx.now.request c.open_resting.new.self) (sym c.in-Resting.is)
    (c.open_resting.ensures.opens e)

pub returns-in-Selected-clause-opens : goal.returns-in-Selected-clause-opens
returns-in-Selected-clause-opens c = λ e. subst
    (λ o. WorldsOpen o c.args.tx.now.result c.args.tx.now.request c.open_selected.new.self) (sym c.in-Selected.is)
    (c.open_selected.ensures.opens e)
