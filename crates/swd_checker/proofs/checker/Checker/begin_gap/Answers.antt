use Rattle.std.proofs.Common.{refl}
use Rattle.swd_checker.proofs.StandingLemmas.{watches_in_gap, watches_gap}
use Rattle.swd_checker.proofs.KnowingLemmas.{knows_gap, knows_in_gap}
use Rattle.swd_checker.proofs.checker.Checker.begin_gap.Goals as goal

pub returns-then-not-self-clause-watches : goal.returns-then-not-self-clause-watches
returns-then-not-self-clause-watches c = λ none b. watches_gap c.args.self.now _ c.forget.new.self b none refl refl refl
    refl refl c.forget.ensures.keeps c.forget.ensures.opening c.forget.ensures.broken

pub returns-else-not-self-clause-watches : goal.returns-else-not-self-clause-watches
returns-else-not-self-clause-watches c = λ none b. watches_in_gap c.args.self.now b none c.if-not-self.false

pub returns-then-not-self-clause-knows : goal.returns-then-not-self-clause-knows
returns-then-not-self-clause-knows c = λ none b. knows_gap c.args.self.now c.forget.new.self b c.if-not-self.true none
    c.forget.ensures.began c.forget.ensures.opening

pub returns-else-not-self-clause-knows : goal.returns-else-not-self-clause-knows
returns-else-not-self-clause-knows c = λ none b. knows_in_gap c.args.self.now b c.if-not-self.false
