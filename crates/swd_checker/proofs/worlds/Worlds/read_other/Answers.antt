use Rattle.std.proofs.Common.{sym, ◌∙◌}
use Rattle.swd_checker.proofs.AddingLemmas.{read_plain}
use Rattle.swd_checker.proofs.worlds.Worlds.read_other.Goals as goal

pub returns-then-is_posted-clause-reads : goal.returns-then-is_posted-clause-reads
returns-then-is_posted-clause-reads c = λ ok other.
    c.read_posted.ensures.reads ok (sym c.is_posted.ensures ∙ c.if-is_posted.true)

pub returns-else-is_posted-clause-reads : goal.returns-else-is_posted-clause-reads
returns-else-is_posted-clause-reads c = λ ok other. read_plain c.return_unseen.new.self c.args.now.world
    c.args.now.register c.args.seen ok other c.return_unseen.ensures.returns

pub returns-then-is_posted-clause-reaches : goal.returns-then-is_posted-clause-reaches
returns-then-is_posted-clause-reaches c = λ link old sound status resend ok h.
    c.read_posted.ensures.reaches link old sound
    (λ held n. h.posted (sym c.is_posted.ensures ∙ c.if-is_posted.true) held n)
    (sym c.is_posted.ensures ∙ c.if-is_posted.true)
