use Rattle.std.proofs.Common.{sym, subst}
use Rattle.swd_checker.specs.declared.opening.Opening.TheVariants.{Resting}
use Rattle.swd_checker.specs.Openings.{WorldsOpen}
use Rattle.swd_checker.proofs.worlds.Worlds.open_resting.Goals as goal

pub returns-in-Moved-clause-opens : goal.returns-in-Moved-clause-opens
returns-in-Moved-clause-opens c = λ e. subst (λ z. WorldsOpen Resting z c.args.tx.now.request c.open_moved.new.self)
    (sym c.in-Moved.is) (c.open_moved.ensures.opens e)
