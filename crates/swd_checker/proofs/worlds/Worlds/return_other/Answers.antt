use Rattle.std.proofs.Common.{sym, ◌∙◌}
use Rattle.swd_checker.proofs.AddingLemmas.{return_posted, return_plain}
use Rattle.swd_checker.proofs.worlds.Worlds.return_other.Goals as goal

pub returns-then-is_posted-clause-returns : goal.returns-then-is_posted-clause-returns
returns-then-is_posted-clause-returns c = λ other status. return_posted c.post.new.self c.args.now.world
    c.args.now.register (sym c.is_posted.ensures ∙ c.if-is_posted.true) c.post.ensures.posts

pub returns-else-is_posted-clause-returns : goal.returns-else-is_posted-clause-returns
returns-else-is_posted-clause-returns c = λ other status. return_plain c.add.new.self c.args.now.world
    c.args.now.register c.add.ensures.adds (sym c.is_posted.ensures ∙ c.if-is_posted.false) other status

pub returns-else-is_posted-clause-reaches : goal.returns-else-is_posted-clause-reaches
returns-else-is_posted-clause-reaches c = λ link old other status h. c.add.ensures.reaches link old
    (h.other (sym c.is_posted.ensures ∙ c.if-is_posted.false) other status)
