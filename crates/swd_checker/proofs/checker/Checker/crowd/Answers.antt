use Rattle.std.proofs.Common.{◌∙◌}
use Rattle.swd_checker.proofs.KnowingLemmas.{checker_notes_crowded}
use Rattle.swd_checker.proofs.checker.Checker.crowd.Goals as goal

pub returns-clause-keeps : goal.returns-clause-keeps
returns-clause-keeps c = let k = c.forget.ensures.keeps in
    record { identification = k.identification; wire = k.wire; gap = k.gap }

pub returns-clause-notes : goal.returns-clause-notes
returns-clause-notes c = checker_notes_crowded c.args.place c.args.self.now c.forget.new.self c.forget.ensures.broken
    (c.forget.ensures.crowded ∙ c.or-self.ensures)
