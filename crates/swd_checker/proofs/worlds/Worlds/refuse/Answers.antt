use Rattle.std.proofs.Common.{ap, ◌∙◌, subst, sym}
use Rattle.swd_checker.specs.Worlds.{world_after_fault}
use Rattle.swd_checker.proofs.AddedLemmas.{refuse_holds}
use Rattle.swd_checker.proofs.HoldingLemmas.{worlds_keep_then}
use Rattle.swd_checker.specs.Reaching.{WorldReaches}
use Rattle.swd_checker.proofs.worlds.Worlds.refuse.Goals as goal

pub returns-clause-keeps : goal.returns-clause-keeps
returns-clause-keeps c = worlds_keep_then _ _ _ c.add_if.ensures.keeps c.add_if-2.ensures.keeps

pub returns-clause-refuses : goal.returns-clause-refuses
returns-clause-refuses c = λ x is d none e. refuse_holds c.args.asked x c.after_fault.result c.after_fault-2.result
    c.add_if.new.self c.add_if-2.new.self c.is_refused.result c.may_have_failed.result is d none e
    c.is_refused.ensures.1
    c.may_have_failed.ensures.refused c.may_have_failed.ensures.okay
    (c.after_fault.ensures ∙ ap (world_after_fault c.args.asked.register c.args.asked.request.ap) c.succeeded.ensures)
    (c.after_fault-2.ensures ∙ ap (world_after_fault c.args.asked.register c.args.asked.request.ap) c.failed.ensures)
    c.add_if.ensures.adds c.add_if-2.ensures.keeps c.add_if-2.ensures.adds

pub returns-clause-reaches : goal.returns-clause-reaches
returns-clause-reaches c = λ link old is h. c.add_if-2.ensures.reaches link (c.add_if.ensures.reaches link old
    (λ may. subst (WorldReaches link)
    (sym (c.after_fault.ensures ∙ ap (world_after_fault c.args.asked.register c.args.asked.request.ap)
    c.succeeded.ensures))
    (h.refused (c.is_refused.ensures.0 may))))
    (λ may. subst (WorldReaches link)
    (sym (c.after_fault-2.ensures ∙ ap (world_after_fault c.args.asked.register c.args.asked.request.ap)
    c.failed.ensures))
    (h.failed (c.may_have_failed.ensures.pending may) (c.may_have_failed.ensures.due may)))
