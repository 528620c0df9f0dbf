use Rattle.std.proofs.Common.{◌≡◌, ◌∙◌, sym, subst, refl}
use Rattle.swd_checker.specs.declared.worlds.Worlds.{Worlds}
use Rattle.swd_checker.specs.Openings.{OpeningHolds}
use Rattle.swd_checker.specs.Standing.{CheckerChecks}
use Rattle.swd_checker.specs.Fitting.{CheckerSteps}
use Rattle.swd_checker.specs.Fitting.{CheckerNotes}
use Rattle.swd_checker.proofs.checker.Checker.step.Goals as goal

pub returns-else-not-read_alone-clause-checks : goal.returns-else-not-read_alone-clause-checks
returns-else-not-read_alone-clause-checks c = λ over. record {
  each = λ s t x opened.
      let held = subst (λ o. OpeningHolds o c.args.self.now.worlds s) over opened in (
        subst (λ o. OpeningHolds o c.read_alone.new.self t) (sym over) (
          c.read_alone.ensures.crowded ∙ held.0,
          c.read_alone.ensures.steps c.if-not-read_alone.false _ s t x (held.1.held held.0),
        ),
        refl,
      );
}

pub returns-else-not-read_alone-clause-steps : goal.returns-else-not-read_alone-clause-steps
returns-else-not-read_alone-clause-steps c = record {
  stays = record { crowded = λ e. e; broken = λ e. e };
  over = λ over room whole. (
    over,
    c.read_alone.ensures.some c.if-not-read_alone.false,
    λ link from steps sound. c.read_alone.ensures.reaches c.if-not-read_alone.false link _ from steps sound,
    refl,
  );
}

pub returns-then-not-read_alone-clause-checks : goal.returns-then-not-read_alone-clause-checks
returns-then-not-read_alone-clause-checks c = λ over.
    subst (λ (v : Worlds). CheckerChecks c.args.tx.now (record c.args.self.now { worlds = v }) c.step_any.new.self)
    (c.read_alone.ensures.none c.if-not-read_alone.true) (c.step_any.ensures.checks over)

pub returns-then-not-read_alone-clause-steps : goal.returns-then-not-read_alone-clause-steps
returns-then-not-read_alone-clause-steps c =
    subst (λ (v : Worlds). CheckerSteps c.args.tx.now (record c.args.self.now { worlds = v }) c.step_any.new.self)
    (c.read_alone.ensures.none c.if-not-read_alone.true) c.step_any.ensures.steps

pub returns-then-not-read_alone-clause-notes : goal.returns-then-not-read_alone-clause-notes
returns-then-not-read_alone-clause-notes c =
    subst (λ (v : Worlds). CheckerNotes c.args.place (record c.args.self.now { worlds = v }) c.step_any.new.self)
    (c.read_alone.ensures.none c.if-not-read_alone.true) c.step_any.ensures.notes

pub returns-then-not-read_alone-clause-began : goal.returns-then-not-read_alone-clause-began
returns-then-not-read_alone-clause-began c =
    subst (λ (v : Worlds). c.step_any.new.self.began ≡ (record c.args.self.now { worlds = v }).began)
    (c.read_alone.ensures.none c.if-not-read_alone.true) c.step_any.ensures.began
