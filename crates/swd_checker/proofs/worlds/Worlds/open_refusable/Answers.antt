use Rattle.std.proofs.Common.{sym, ◌∙◌}
use Rattle.swd_checker.proofs.OpenLemmas.{worlds_open_at_okay}
use Rattle.swd_checker.proofs.worlds.Worlds.open_refusable.Goals as goal

pub returns-then-may_be_refused-clause-opens : goal.returns-then-may_be_refused-clause-opens
returns-then-may_be_refused-clause-opens c = λ e moved. worlds_open_at_okay c.open_at_okay.new.self
    c.args.tx.now.request c.args.select c.args.tx.now.result moved
    (sym c.may_be_refused.ensures ∙ c.if-may_be_refused.true)
    c.open_at_okay.ensures.crowded c.open_at_okay.ensures.opens
