use Rattle.std.proofs.Common.{sym, ◌∙◌}
use Rattle.swd_bits.specs.declared.tx.TxEnd.TheVariants.{Moved}
use Rattle.swd_checker.specs.declared.opening.Opening.TheVariants.{Selected}
use Rattle.swd_checker.proofs.OpeningLemmas.{opening_passes, opening_forgets}
use Rattle.swd_checker.proofs.opening.after_selected.Goals as goal

pub returns-then-passes-clause-leads : goal.returns-then-passes-clause-leads
returns-then-passes-clause-leads c = λ word ok.
    opening_passes c.args.select word ok c.args.request (sym c.passes.ensures ∙ c.if-passes.true)

pub returns-else-passes-clause-leads : goal.returns-else-passes-clause-leads
returns-else-passes-clause-leads c = λ word ok. opening_forgets (Selected c.args.select) (Moved word ok) c.args.request
