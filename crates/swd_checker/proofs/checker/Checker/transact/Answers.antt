use Rattle.std.proofs.Common.{refl, subst}
use Rattle.swd_checker.specs.Standing.{CheckerKeeps, CheckerChecks}
use Rattle.swd_checker.specs.Fitting.{CheckerSteps, CheckerOpens}
use Rattle.swd_checker.proofs.FittingLemmas.{follows_transaction}
use Rattle.swd_checker.proofs.StandingLemmas.{watches_transaction}
use Rattle.swd_checker.proofs.BeginsLemmas.{begins_transaction}
use Rattle.swd_checker.specs.Knowing.{opening_after_tx}
use Rattle.swd_checker.proofs.KnowingLemmas.{checker_notes_behind, checker_notes_then, knows_then}
use Rattle.swd_checker.proofs.checker.Checker.transact.Goals as goal

pub returns-clause-watches : goal.returns-clause-watches
returns-clause-watches c = λ gap. watches_transaction c.args.self.now c.check.new.self c.identify.new.self c.args.tx.now
    gap
    (subst (λ n. CheckerKeeps (record c.args.self.now { stray = n }) c.check.new.self) c.stray_after-self.ensures
    c.check.ensures.keeps)
    (subst (λ n. CheckerChecks c.args.tx.now (record c.args.self.now { stray = n }) c.check.new.self)
    c.stray_after-self.ensures c.check.ensures.checks) c.identify.ensures.identifies c.identify.ensures.keeps

pub returns-clause-follows : goal.returns-clause-follows
returns-clause-follows c = λ outside. follows_transaction c.args.self.now c.check.new.self c.identify.new.self
    c.args.tx.now outside
    (subst (λ n. CheckerKeeps (record c.args.self.now { stray = n }) c.check.new.self) c.stray_after-self.ensures
    c.check.ensures.keeps)
    (subst (λ n. CheckerSteps c.args.tx.now (record c.args.self.now { stray = n }) c.check.new.self)
    c.stray_after-self.ensures c.check.ensures.steps) c.identify.ensures.crowded c.identify.ensures.narrows
    c.identify.ensures.keeps

pub returns-clause-begins : goal.returns-clause-begins
returns-clause-begins c = λ outside. begins_transaction c.args.self.now c.check.new.self c.identify.new.self
    c.args.tx.now c.args.place outside
    (subst (λ n. CheckerKeeps (record c.args.self.now { stray = n }) c.check.new.self) c.stray_after-self.ensures
    c.check.ensures.keeps)
    (subst (λ n. CheckerOpens c.args.tx.now c.args.place (record c.args.self.now { stray = n }) c.check.new.self)
    c.stray_after-self.ensures c.check.ensures.opens) c.identify.ensures.crowded c.identify.ensures.narrows
    c.identify.ensures.unbroken c.identify.ensures.began c.identify.ensures.keeps

pub returns-clause-knows : goal.returns-clause-knows
returns-clause-knows c =
    let s = c.args.self.now in
    knows_then (opening_after_tx s.opening c.args.tx.now.result c.args.tx.now.request) s
    (record s { stray = c.stray_after-self.result }) c.check.new.self c.identify.new.self refl refl
    c.check.ensures.knows c.identify.ensures.began c.identify.ensures.keeps.opening

pub returns-clause-notes : goal.returns-clause-notes
returns-clause-notes c =
    let s = c.args.self.now in
    let first = record s { stray = c.stray_after-self.result } in
    checker_notes_behind c.args.place s first c.identify.new.self refl refl
    (checker_notes_then c.args.place first c.check.new.self c.identify.new.self c.check.ensures.notes
    c.identify.ensures.notes)
