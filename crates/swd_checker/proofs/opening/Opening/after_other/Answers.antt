use Rattle.std.proofs.Common.{sym, subst}
use Rattle.swd_checker.specs.Openings.{OpeningLeads}
use Rattle.swd_checker.proofs.OpeningLemmas.{opening_forgets}
use Rattle.swd_checker.proofs.opening.Opening.after_other.Goals as goal

pub returns-in-Resting-clause-leads : goal.returns-in-Resting-clause-leads
returns-in-Resting-clause-leads c = λ end. subst (λ o. OpeningLeads o end c.args.request c.after_resting.result)
    (sym c.in-Resting.is) (c.after_resting.ensures.leads end)

pub returns-in_default-clause-leads : goal.returns-in_default-clause-leads
returns-in_default-clause-leads c = λ end. opening_forgets c.args.self end c.args.request
