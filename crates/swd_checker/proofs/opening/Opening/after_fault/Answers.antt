use Rattle.std.proofs.Common.{sym, subst}
use Rattle.swd_bits.specs.declared.tx.TxEnd.TheVariants.{Fault}
use Rattle.swd_checker.specs.declared.opening.Opening.TheVariants.{Resting}
use Rattle.swd_checker.specs.Openings.{OpeningLeads}
use Rattle.swd_checker.proofs.OpeningLemmas.{opening_rests_at_fault, opening_forgets}
use Rattle.swd_checker.proofs.opening.Opening.after_fault.Goals as goal

pub returns-in-Resting-clause-leads : goal.returns-in-Resting-clause-leads
returns-in-Resting-clause-leads c = λ q. subst (λ o. OpeningLeads o Fault q Resting) (sym c.in-Resting.is)
    (opening_rests_at_fault q)

pub returns-in_default-clause-leads : goal.returns-in_default-clause-leads
returns-in_default-clause-leads c = λ q. opening_forgets c.args.self Fault q
