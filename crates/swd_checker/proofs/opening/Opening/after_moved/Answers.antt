use Rattle.std.proofs.Common.{sym, subst}
use Rattle.swd_bits.specs.declared.tx.TxEnd.TheVariants.{Moved}
use Rattle.swd_checker.specs.Openings.{OpeningLeads}
use Rattle.swd_checker.proofs.opening.Opening.after_moved.Goals as goal

pub returns-in-Selected-clause-leads : goal.returns-in-Selected-clause-leads
returns-in-Selected-clause-leads c = λ word ok. subst
    (λ o. OpeningLeads o (Moved word ok) c.args.request c.after_selected.result) (sym c.in-Selected.is)
    (c.after_selected.ensures.leads word ok)

pub returns-in_default-clause-leads : goal.returns-in_default-clause-leads
returns-in_default-clause-leads c = λ word ok. c.after_other.ensures.leads (Moved word ok)
