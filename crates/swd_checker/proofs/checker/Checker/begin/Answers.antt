use Rattle.std.proofs.Common.{refl, sym, ◌∙◌}
use Rattle.swd_checker.proofs.StandingLemmas.{checks_opened, checks_unopened}
use Rattle.swd_checker.proofs.BeginsLemmas.{opens_begun, opens_not}
use Rattle.swd_checker.proofs.KnowingLemmas.{checker_notes_behind, checker_notes_nothing, knows_enough}
use Rattle.swd_checker.proofs.KnowingLemmas.{knows_too_little}
use Rattle.swd_checker.proofs.checker.Checker.begin.Goals as goal

pub returns-then-begin-clause-keeps : goal.returns-then-begin-clause-keeps
returns-then-begin-clause-keeps c = let k = c.step.ensures.keeps in
    record { identification = k.identification; wire = k.wire; gap = k.gap }

pub returns-then-begin-clause-checks : goal.returns-then-begin-clause-checks
returns-then-begin-clause-checks c = λ other. checks_opened c.args.self.now c.step.new.self c.begin.new.self _
    c.args.tx.now (c.begin.ensures.opens c.if-begin.true) (c.step.ensures.checks refl)

pub returns-else-begin-clause-checks : goal.returns-else-begin-clause-checks
returns-else-begin-clause-checks c = λ other. checks_unopened c.args.self.now c.begin.new.self c.after-self.result
    c.args.tx.now (c.after-self.ensures.leads other)

pub returns-then-begin-clause-stays : goal.returns-then-begin-clause-stays
returns-then-begin-clause-stays c = let k = c.step.ensures.steps.stays in
    record { crowded = λ e. k.crowded e; broken = λ e. k.broken e }

pub returns-else-begin-clause-stays : goal.returns-else-begin-clause-stays
returns-else-begin-clause-stays c = record { crowded = λ e. e; broken = λ e. e }

pub returns-then-begin-clause-opens : goal.returns-then-begin-clause-opens
returns-then-begin-clause-opens c = opens_begun c.args.tx.now c.args.place c.args.self.now c.step.new.self
    c.begin.new.self _ c.or-self.ensures (c.begin.ensures.sound c.if-begin.true) c.step.ensures.steps

pub returns-else-begin-clause-opens : goal.returns-else-begin-clause-opens
returns-else-begin-clause-opens c = opens_not c.args.tx.now c.args.place c.args.self.now _ refl

pub returns-then-begin-clause-knows : goal.returns-then-begin-clause-knows
returns-then-begin-clause-knows c = knows_enough c.args.tx.now c.args.self.now c.step.new.self c.args.place
    (sym c.begin.ensures.exact ∙ c.if-begin.true) (c.step.ensures.began ∙ c.or-self.ensures)

pub returns-else-begin-clause-knows : goal.returns-else-begin-clause-knows
returns-else-begin-clause-knows c = knows_too_little c.args.tx.now c.args.self.now _
    (sym c.begin.ensures.exact ∙ c.if-begin.false) refl c.after-self.ensures.exact

pub returns-then-begin-clause-notes : goal.returns-then-begin-clause-notes
returns-then-begin-clause-notes c = checker_notes_behind c.args.place c.args.self.now _ c.step.new.self refl refl
    c.step.ensures.notes

pub returns-else-begin-clause-notes : goal.returns-else-begin-clause-notes
returns-else-begin-clause-notes c = checker_notes_nothing c.args.place c.args.self.now _ refl refl
