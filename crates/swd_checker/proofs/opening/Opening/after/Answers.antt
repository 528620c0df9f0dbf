use Rattle.std.proofs.Common.{sym, subst}
use Rattle.swd_checker.specs.Openings.{OpeningLeads}
use Rattle.swd_checker.proofs.OpeningLemmas.{opening_waits}
use Rattle.swd_checker.proofs.opening.Opening.after.Goals as goal

pub returns-in-Wait-clause-leads : goal.returns-in-Wait-clause-leads
returns-in-Wait-clause-leads c = λ other. subst (λ e. OpeningLeads c.args.self e c.args.tx.now.request c.args.self)
    (sym c.in-Wait.is) (opening_waits c.args.self c.args.tx.now.request other)

pub returns-in-Moved-clause-leads : goal.returns-in-Moved-clause-leads
returns-in-Moved-clause-leads c = λ other. subst (λ e. OpeningLeads c.args.self e c.args.tx.now.request
    c.after_word.result)
    (sym c.in-Moved.is) c.after_word.ensures.leads

pub returns-in-Fault-clause-leads : goal.returns-in-Fault-clause-leads
returns-in-Fault-clause-leads c = λ other. subst (λ e. OpeningLeads c.args.self e c.args.tx.now.request
    c.after_fault.result)
    (sym c.in-Fault.is) (c.after_fault.ensures.leads c.args.tx.now.request)

pub returns-in-NoAck-clause-leads : goal.returns-in-NoAck-clause-leads
returns-in-NoAck-clause-leads c = λ other. c.after_other.ensures.leads c.args.tx.now.result
