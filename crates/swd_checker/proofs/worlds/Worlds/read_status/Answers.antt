use Rattle.std.proofs.Common.{sym, ◌∙◌, subst}
use Rattle.swd_checker.proofs.AddingLemmas.{status_either, status_alone}
use Rattle.swd_checker.proofs.HoldingLemmas.{worlds_keep_then}
use Rattle.swd_checker.specs.Reached.{WorldsFindAll}
use Rattle.swd_checker.proofs.worlds.Worlds.read_status.Goals as goal

pub returns-then-may_show-clause-keeps : goal.returns-then-may_show-clause-keeps
returns-then-may_show-clause-keeps c = worlds_keep_then _ _ _ c.find_powers.ensures.keeps
    c.find_powers-then-may_show.ensures.keeps

pub returns-then-may_show-clause-reads : goal.returns-then-may_show-clause-reads
returns-then-may_show-clause-reads c = λ chosen x prompt. status_either c.find_powers.new.self
    c.find_powers-then-may_show.new.self c.args.now.world c.failed.result c.args.seen chosen x c.failed.ensures
    c.find_powers-then-may_show.ensures.keeps (c.find_powers.ensures.finds chosen x prompt)
    (c.find_powers-then-may_show.ensures.finds chosen x prompt)

pub returns-else-may_show-clause-reads : goal.returns-else-may_show-clause-reads
returns-else-may_show-clause-reads c = λ chosen x prompt. status_alone c.find_powers.new.self c.args.now.world
    c.args.seen chosen x (sym c.may_show.ensures ∙ c.if-may_show.false) (c.find_powers.ensures.finds chosen x prompt)

pub returns-then-may_show-clause-reaches : goal.returns-then-may_show-clause-reaches
returns-then-may_show-clause-reaches c = λ link old sound h.
    c.find_powers-then-may_show.ensures.reaches link (c.find_powers.ensures.reaches link old sound h.now) sound
    (subst (λ z. WorldsFindAll link z c.args.seen c.args.may_be_late) (sym c.failed.ensures)
    (h.failed (sym c.may_show.ensures ∙ c.if-may_show.true)))

pub returns-else-may_show-clause-reaches : goal.returns-else-may_show-clause-reaches
returns-else-may_show-clause-reaches c = λ link old sound h. c.find_powers.ensures.reaches link old sound h.now
