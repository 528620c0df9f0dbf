use Rattle.std.proofs.Common.{ap, ◌∙◌, subst, sym}
use Rattle.swd_checker.specs.Steps.{world_cleared}
use Rattle.swd_checker.proofs.AddedLemmas.{abort_holds}
use Rattle.swd_checker.proofs.HoldingLemmas.{worlds_keep_then}
use Rattle.swd_checker.specs.Reaching.{WorldReaches}
use Rattle.swd_checker.proofs.ReachLemmas.{both_true}
use Rattle.swd_checker.proofs.worlds.Worlds.abort.Goals as goal

pub returns-clause-keeps : goal.returns-clause-keeps
returns-clause-keeps c = worlds_keep_then _ _ _ c.add.ensures.keeps c.add_if.ensures.keeps

pub returns-clause-aborts : goal.returns-clause-aborts
returns-clause-aborts c = λ refuses x d. abort_holds c.args.world c.cleared.result c.cleared-2.result c.args.word
    c.may_clear.result c.add.new.self c.add_if.new.self refuses x d c.cleared.ensures
    (c.cleared-2.ensures ∙ ap (world_cleared c.args.word) c.failed.ensures) (both_true _ _ _ c.may_clear.ensures)
    c.add.ensures.adds
    c.add_if.ensures.keeps c.add_if.ensures.adds

pub returns-clause-reaches : goal.returns-clause-reaches
returns-clause-reaches c = λ link old now failed. c.add_if.ensures.reaches link
    (c.add.ensures.reaches link old (subst (WorldReaches link) (sym c.cleared.ensures) now))
    (λ may. subst (WorldReaches link) (sym (c.cleared-2.ensures ∙ ap (world_cleared c.args.word) c.failed.ensures))
    (failed (sym c.may_clear.ensures ∙ may)))
