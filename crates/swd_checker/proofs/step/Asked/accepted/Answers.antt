use Rattle.std.proofs.Common.{◌∙◌}
use Rattle.swd_checker.proofs.DueLemmas.{world_due_okay}
use Rattle.swd_checker.proofs.step.Asked.accepted.Goals as goal

pub returns-in_default-clause-world : goal.returns-in_default-clause-world
returns-in_default-clause-world c = λ chosen x is d none okay.
    c.in_default.not-Okay (c.due.ensures ∙ world_due_okay c.args.self.world x c.args.self.request d okay)
