use Rattle.swd_checker.proofs.AddedLemmas.{defer_holds}
use Rattle.std.proofs.Common.{subst, sym}
use Rattle.swd_checker.specs.Reaching.{WorldReaches}
use Rattle.swd_checker.proofs.worlds.Worlds.defer.Goals as goal

pub returns-clause-defers : goal.returns-clause-defers
returns-clause-defers c = λ x is d okay plain. defer_holds c.args.asked x c.after_wait.result c.add_if.new.self
    c.may_wait.result is d okay plain (λ a b. c.may_wait.ensures.1 (a, b)) c.after_wait.ensures c.add_if.ensures.adds

pub returns-clause-reaches : goal.returns-clause-reaches
returns-clause-reaches c = λ link old is h. c.add_if.ensures.reaches link old (λ may.
    let due = c.may_wait.ensures.0 may in
    subst (WorldReaches link) (sym c.after_wait.ensures) (h due.0 due.1))
