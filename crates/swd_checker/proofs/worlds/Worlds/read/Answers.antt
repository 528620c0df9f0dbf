use Rattle.std.proofs.Common.{sym, refl, subst}
use Rattle.swd_checker.specs.Adding.{WorldsRead}
use Rattle.swd_checker.proofs.worlds.Worlds.read.Goals as goal

pub returns-in-CtrlStatRead-clause-reads : goal.returns-in-CtrlStatRead-clause-reads
returns-in-CtrlStatRead-clause-reads c =
    subst (λ r. WorldsRead c.read_status.new.self c.args.now.world r c.args.seen c.args.parity_ok)
    (sym c.in-CtrlStatRead.is) (λ chosen x accepts prompt near.
    c.read_status.ensures.reads chosen x prompt (accepts.exempt refl) near)

pub returns-in-ResendRead-clause-reads : goal.returns-in-ResendRead-clause-reads
returns-in-ResendRead-clause-reads c = λ chosen x accepts prompt near.
    c.resend.ensures.resends chosen x c.in-ResendRead.is accepts near

pub returns-in_default-clause-reads : goal.returns-in_default-clause-reads
returns-in_default-clause-reads c = c.read_other.ensures.reads c.args.parity_ok c.in_default.not-CtrlStatRead

pub returns-in-CtrlStatRead-clause-reaches : goal.returns-in-CtrlStatRead-clause-reaches
returns-in-CtrlStatRead-clause-reaches c = λ link old sound h. c.read_status.ensures.reaches link old sound (h.status
    c.in-CtrlStatRead.is)

pub returns-in-ResendRead-clause-reaches : goal.returns-in-ResendRead-clause-reaches
returns-in-ResendRead-clause-reaches c = λ link old sound h. c.resend.ensures.reaches link old sound (h.resend
    c.in-ResendRead.is)
