use Rattle.std.proofs.Common.{sym, ◌∙◌}
use Rattle.swd_checker.proofs.OpeningLemmas.{opening_selects}
use Rattle.swd_checker.proofs.opening.Opening.after_whole_word.Goals as goal

pub returns-then-selects-clause-leads : goal.returns-then-selects-clause-leads
returns-then-selects-clause-leads c = λ ok right. opening_selects c.args.self c.args.request c.args.word ok right
    (sym c.selects.ensures ∙ c.if-selects.true)

pub returns-else-selects-clause-leads : goal.returns-else-selects-clause-leads
returns-else-selects-clause-leads c = λ ok right. c.after_moved.ensures.leads c.args.word ok
