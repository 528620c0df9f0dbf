use Rattle.std.proofs.Common.{true, subst, sym, ◌∙◌}
use Rattle.std.proofs.lemmas.Bool.{true≢false}
use Rattle.swd_checker.specs.Reaching.{LinkLeads}
use Rattle.swd_checker.proofs.HoldingLemmas.{worlds_keep_then}
use Rattle.swd_checker.proofs.GivenLemmas.{given_steps, given_never, link_gives_up}
use Rattle.swd_checker.proofs.worlds.Worlds.step.Goals as goal

pub returns-then-may_give_up-clause-keeps : goal.returns-then-may_give_up-clause-keeps
returns-then-may_give_up-clause-keeps c =
    worlds_keep_then _ _ _ c.step_kept.ensures.keeps c.step_given_up.ensures.keeps

pub returns-then-may_give_up-clause-steps : goal.returns-then-may_give_up-clause-steps
returns-then-may_give_up-clause-steps c = λ s t h d. given_steps c.args.world c.given_up.result c.args.clean
    c.args.tx.now.result c.args.tx.now.request c.step_kept.new.self c.step_given_up.new.self c.given_up.ensures
    c.step_given_up.ensures.keeps
    c.step_kept.ensures.steps c.step_given_up.ensures.steps s t h d

pub returns-else-may_give_up-clause-steps : goal.returns-else-may_give_up-clause-steps
returns-else-may_give_up-clause-steps c = λ s t h d. given_never c.args.world c.args.clean c.args.tx.now.result
    c.args.tx.now.request c.step_kept.new.self
    (λ may. true≢false (sym (c.may_give_up.ensures.1 may) ∙ c.if-may_give_up.false)) c.step_kept.ensures.steps s t h d

pub returns-then-may_give_up-clause-reaches : goal.returns-then-may_give_up-clause-reaches
returns-then-may_give_up-clause-reaches c = λ link old steps has. c.step_given_up.ensures.reaches link
    (c.step_kept.ensures.reaches link old steps has) steps
    (subst (LinkLeads true link c.args.clean c.args.tx.now) (sym c.given_up.ensures)
    (link_gives_up link c.args.clean c.args.tx.now c.args.world steps has
    (c.may_give_up.ensures.0 c.if-may_give_up.true)))
