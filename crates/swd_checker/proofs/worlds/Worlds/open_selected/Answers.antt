use Rattle.std.proofs.Common.{sym, ◌∙◌}
use Rattle.swd_checker.proofs.worlds.Worlds.open_selected.Goals as goal

pub returns-then-is_moved-clause-opens : goal.returns-then-is_moved-clause-opens
returns-then-is_moved-clause-opens c = λ e. c.open_refusable.ensures.opens e
    (sym c.is_moved.ensures ∙ c.if-is_moved.true)
