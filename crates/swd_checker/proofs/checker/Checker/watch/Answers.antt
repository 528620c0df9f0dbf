use Rattle.std.proofs.Common.{refl}
use Rattle.swd_checker.proofs.FittingLemmas.{follows_broken}
use Rattle.swd_checker.proofs.StandingLemmas.{watches_broken, broken_some}
use Rattle.swd_checker.proofs.BeginsLemmas.{begins_same}
use Rattle.swd_checker.proofs.KnowingLemmas.{checker_notes_nothing}
use Rattle.swd_checker.proofs.checker.Checker.watch.Goals as goal

pub returns-else-is_none-clause-watches : goal.returns-else-is_none-clause-watches
returns-else-is_none-clause-watches c = watches_broken c.args.self.now c.args.item.now
    (broken_some c.args.self.now.broken c.is_none.result c.is_none.ensures c.if-is_none.false)

pub returns-else-is_none-clause-follows : goal.returns-else-is_none-clause-follows
returns-else-is_none-clause-follows c = follows_broken c.args.self.now c.args.item.now
    (broken_some c.args.self.now.broken c.is_none.result c.is_none.ensures c.if-is_none.false)

pub returns-else-is_none-clause-begins : goal.returns-else-is_none-clause-begins
returns-else-is_none-clause-begins c = begins_same c.args.item.now c.args.place c.args.self.now c.args.self.now refl
    refl

pub returns-else-is_none-clause-knows : goal.returns-else-is_none-clause-knows
returns-else-is_none-clause-knows c = λ whole. absurd
    (broken_some c.args.self.now.broken c.is_none.result c.is_none.ensures c.if-is_none.false whole)

pub returns-else-is_none-clause-notes : goal.returns-else-is_none-clause-notes
returns-else-is_none-clause-notes c = checker_notes_nothing c.args.place c.args.self.now c.args.self.now refl refl
