use Rattle.std.proofs.Common.{refl}
use Rattle.swd_checker.proofs.StandingLemmas.{not_narrowed}
use Rattle.swd_checker.proofs.KnowingLemmas.{checker_notes_first_broken, checker_notes_nothing}
use Rattle.swd_checker.proofs.checker.Checker.identify.Goals as goal

pub returns-then-narrow-clause-identifies : goal.returns-then-narrow-clause-identifies
returns-then-narrow-clause-identifies c = record {
  each = λ clean s t h odd known. ((c.narrow.ensures.narrows clean s t h odd known).1, refl);
}

pub returns-clause-identifies : goal.returns-clause-identifies
returns-clause-identifies c = record {
  each = λ clean s t h odd known.
      not_narrowed c.narrow.result _ c.if-narrow.false (c.narrow.ensures.narrows clean s t h odd known).0;
}

pub returns-then-narrow-clause-narrows : goal.returns-then-narrow-clause-narrows
returns-then-narrow-clause-narrows c = λ legal whole. (whole, c.narrow.ensures.exact c.if-narrow.true legal)

pub returns-then-narrow-clause-notes : goal.returns-then-narrow-clause-notes
returns-then-narrow-clause-notes c = checker_notes_nothing c.args.place c.args.self.now _ refl refl

pub returns-clause-notes : goal.returns-clause-notes
returns-clause-notes c = checker_notes_first_broken c.args.place _ c.args.self.now _ c.or-self.ensures refl
