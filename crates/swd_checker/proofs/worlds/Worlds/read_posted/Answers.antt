use Rattle.swd_checker.proofs.AddingLemmas.{read_posted_some, read_posted_none}
use Rattle.std.proofs.Common.{subst}
use Rattle.std.specs.Prelude.{IfSome}
use Rattle.swd_checker.specs.Reaching.{HeldNarrows}
use Rattle.swd_checker.proofs.worlds.Worlds.read_posted.Goals as goal

pub returns-in-Some-clause-reads : goal.returns-in-Some-clause-reads
returns-in-Some-clause-reads c = λ ok posted. read_posted_some c.post.new.self c.args.now.world c.args.now.register
    c.args.seen ok c.in-Some.buffer c.narrowed.result c.in-Some.is posted c.narrowed.ensures.all c.post.ensures.posts

pub returns-in-None-clause-reads : goal.returns-in-None-clause-reads
returns-in-None-clause-reads c = λ ok posted. read_posted_none c.args.self.now c.args.now.world c.args.now.register
    c.args.seen ok c.narrowed.result c.in-None.is posted c.narrowed.ensures.all

pub returns-in-Some-clause-reaches : goal.returns-in-Some-clause-reaches
returns-in-Some-clause-reaches c = λ link old sound h posted. c.post.ensures.reaches link old posted (h c.in-Some.buffer
    (subst (λ o. IfSome o (λ held. HeldNarrows c.args.now.world.buffer c.args.seen held)) c.in-Some.is
    (c.narrowed.ensures.exact sound)))
