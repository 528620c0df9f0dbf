use Rattle.std.proofs.Common.{sym, ◌∙◌}
use Rattle.swd_checker.specs.declared.opening.Opening.TheVariants.{Resting}
use Rattle.swd_checker.proofs.OpeningLemmas.{opening_rests, opening_forgets}
use Rattle.swd_checker.proofs.opening.after_resting.Goals as goal

pub returns-then-leaves_rest-clause-leads : goal.returns-then-leaves_rest-clause-leads
returns-then-leaves_rest-clause-leads c = λ end. opening_rests end c.args.request (sym c.leaves_rest.ensures ∙
    c.if-leaves_rest.true)

pub returns-else-leaves_rest-clause-leads : goal.returns-else-leaves_rest-clause-leads
returns-else-leaves_rest-clause-leads c = λ end. opening_forgets Resting end c.args.request
