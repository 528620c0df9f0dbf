use Rattle.std.proofs.Common.{refl, arith}
use Rattle.swd_checker.proofs.FittingLemmas.{follows_stray, follows_gap}
use Rattle.swd_checker.proofs.StandingLemmas.{watches_stray}
use Rattle.swd_checker.proofs.KnowingLemmas.{knows_stray}
use Rattle.swd_checker.proofs.checker.Checker.skip.Goals as goal

pub returns-then-self-gt0-clause-watches : goal.returns-then-self-gt0-clause-watches
returns-then-self-gt0-clause-watches c = λ b. watches_stray c.args.self.now _ b (omega arith) refl

pub returns-then-self-gt0-clause-follows : goal.returns-then-self-gt0-clause-follows
returns-then-self-gt0-clause-follows c = λ b. follows_stray c.args.self.now _ b (omega arith) refl

pub returns-else-self-gt0-clause-watches : goal.returns-else-self-gt0-clause-watches
returns-else-self-gt0-clause-watches c = λ b. c.begin_gap.ensures.watches (omega arith) b

pub returns-else-self-gt0-clause-follows : goal.returns-else-self-gt0-clause-follows
returns-else-self-gt0-clause-follows c = λ b. follows_gap c.args.self.now c.begin_gap.new.self b (omega arith)
    c.begin_gap.ensures.crowded

pub returns-then-self-gt0-clause-knows : goal.returns-then-self-gt0-clause-knows
returns-then-self-gt0-clause-knows c = λ b. knows_stray c.args.self.now _ b (grind arith) refl refl

pub returns-else-self-gt0-clause-knows : goal.returns-else-self-gt0-clause-knows
returns-else-self-gt0-clause-knows c = λ b. c.begin_gap.ensures.knows (omega arith) b
