use Rattle.swd_checker.proofs.AddingLemmas.{resent_some, resent_none}
use Rattle.std.proofs.Common.{subst}
use Rattle.std.specs.Prelude.{IfSome}
use Rattle.swd_checker.specs.Reaching.{HeldNarrows}
use Rattle.swd_checker.proofs.worlds.Worlds.resend.Goals as goal

pub returns-in-Some-clause-resends : goal.returns-in-Some-clause-resends
returns-in-Some-clause-resends c = λ chosen x is accepts near. resent_some c.add.new.self c.args.now.world
    c.args.now.register c.args.seen c.in-Some.last_returned c.narrowed.result c.in-Some.is c.narrowed.ensures.all
    c.add.ensures.adds chosen x is accepts near

pub returns-in-None-clause-resends : goal.returns-in-None-clause-resends
returns-in-None-clause-resends c = λ chosen x is accepts near. resent_none c.args.self.now c.args.now.world
    c.args.now.register c.args.seen c.narrowed.result c.in-None.is c.narrowed.ensures.all chosen x is accepts near

pub returns-in-Some-clause-reaches : goal.returns-in-Some-clause-reaches
returns-in-Some-clause-reaches c = λ link old sound h. c.add.ensures.reaches link old (h c.in-Some.last_returned
    (subst (λ o. IfSome o (λ held. HeldNarrows c.args.now.world.last_returned c.args.seen held)) c.in-Some.is
    (c.narrowed.ensures.exact sound)))
