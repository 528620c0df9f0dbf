use Rattle.std.proofs.Common.{sym, ◌∙◌}
use Rattle.swd_checker.proofs.OpeningLemmas.{opening_is_over, opening_not_over}
use Rattle.swd_checker.proofs.BeginsLemmas.{opens_over}
use Rattle.swd_checker.specs.Knowing.{opening_after_tx}
use Rattle.swd_checker.proofs.KnowingLemmas.{knows_over}
use Rattle.swd_checker.proofs.checker.Checker.check.Goals as goal

pub returns-then-is_over-clause-checks : goal.returns-then-is_over-clause-checks
returns-then-is_over-clause-checks c = c.step.ensures.checks
    (opening_is_over c.args.self.now.opening (sym c.is_over.ensures ∙ c.if-is_over.true))

pub returns-else-is_over-clause-checks : goal.returns-else-is_over-clause-checks
returns-else-is_over-clause-checks c = c.begin.ensures.checks
    (opening_not_over c.args.self.now.opening (sym c.is_over.ensures ∙ c.if-is_over.false))

pub returns-then-is_over-clause-steps : goal.returns-then-is_over-clause-steps
returns-then-is_over-clause-steps c = c.step.ensures.steps

pub returns-else-is_over-clause-steps : goal.returns-else-is_over-clause-steps
returns-else-is_over-clause-steps c = record {
  stays = c.begin.ensures.stays;
  over = λ over. absurd (opening_not_over c.args.self.now.opening (sym c.is_over.ensures ∙ c.if-is_over.false) over);
}

pub returns-then-is_over-clause-opens : goal.returns-then-is_over-clause-opens
returns-then-is_over-clause-opens c = opens_over c.args.tx.now c.args.place c.args.self.now c.step.new.self
    (opening_is_over c.args.self.now.opening (sym c.is_over.ensures ∙ c.if-is_over.true)) c.step.ensures.steps

pub returns-then-is_over-clause-knows : goal.returns-then-is_over-clause-knows
returns-then-is_over-clause-knows c =
    let s = c.args.self.now in
    knows_over (opening_after_tx s.opening c.args.tx.now.result c.args.tx.now.request) s c.step.new.self
    (sym c.is_over.ensures ∙ c.if-is_over.true) c.step.ensures.began
