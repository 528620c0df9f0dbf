use Rattle.std.proofs.Common.{sym, subst}
use Rattle.swd_checker.specs.Adding.{WorldsReturn}
use Rattle.swd_checker.proofs.AddingLemmas.{return_dpidr, return_status}
use Rattle.swd_checker.specs.Reaching.{WorldReaches}
use Rattle.swd_checker.proofs.worlds.Worlds.return_unseen.Goals as goal

pub returns-in-DpidrRead-clause-returns : goal.returns-in-DpidrRead-clause-returns
returns-in-DpidrRead-clause-returns c = subst (WorldsReturn c.add.new.self c.args.now.world) (sym c.in-DpidrRead.is)
    (return_dpidr c.add.new.self c.args.now.world c.live.result c.add.ensures.adds c.live.ensures)

pub returns-in-CtrlStatRead-clause-returns : goal.returns-in-CtrlStatRead-clause-returns
returns-in-CtrlStatRead-clause-returns c = subst (WorldsReturn c.add-in-CtrlStatRead.new.self c.args.now.world)
    (sym c.in-CtrlStatRead.is)
    (return_status c.add-in-CtrlStatRead.new.self c.args.now.world c.seen.result c.seen-in-CtrlStatRead.result
    c.add-in-CtrlStatRead.ensures.adds c.seen.ensures c.seen-in-CtrlStatRead.ensures)

pub returns-in_default-clause-returns : goal.returns-in_default-clause-returns
returns-in_default-clause-returns c =
    c.return_other.ensures.returns c.in_default.not-DpidrRead c.in_default.not-CtrlStatRead

pub returns-in-DpidrRead-clause-reaches : goal.returns-in-DpidrRead-clause-reaches
returns-in-DpidrRead-clause-reaches c = λ link old h. c.add.ensures.reaches link old
    (subst (WorldReaches link) (sym c.live.ensures) (h.dpidr c.in-DpidrRead.is))

pub returns-in-CtrlStatRead-clause-reaches : goal.returns-in-CtrlStatRead-clause-reaches
returns-in-CtrlStatRead-clause-reaches c = λ link old h. c.add-in-CtrlStatRead.ensures.reaches link old
    (h.status c.in-CtrlStatRead.is c.seen.result c.seen-in-CtrlStatRead.result c.seen.ensures
    c.seen-in-CtrlStatRead.ensures)
