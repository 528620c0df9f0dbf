use Rattle.std.proofs.Common.{refl, sym, subst, ◌∙◌}
use Rattle.swd_checker.specs.Openings.{OpeningHolds}
use Rattle.swd_checker.proofs.FittingLemmas.{not_empty}
use Rattle.swd_checker.proofs.StandingLemmas.{none_left}
use Rattle.swd_checker.proofs.KnowingLemmas.{checker_notes_behind, checker_notes_broken, checker_notes_nothing}
use Rattle.swd_checker.proofs.checker.Checker.settle.Goals as goal

pub returns-then-self-clause-keeps : goal.returns-then-self-clause-keeps
returns-then-self-clause-keeps c = let k = c.crowd.ensures.keeps in
    record { identification = k.identification; wire = k.wire; gap = k.gap }

pub returns-then-self-clause-settles : goal.returns-then-self-clause-settles
returns-then-self-clause-settles c = λ t over held. (
  subst (λ o. OpeningHolds o c.crowd.new.self.worlds t) (sym c.crowd.ensures.opening) tt,
  c.crowd.ensures.broken,
)

pub returns-then-is_empty-clause-settles : goal.returns-then-is_empty-clause-settles
returns-then-is_empty-clause-settles c = λ t over held. none_left c.args.self.now.worlds t _
    c.if-self.false (sym c.is_empty.ensures ∙ c.if-is_empty.true) held

pub returns-else-is_empty-clause-settles : goal.returns-else-is_empty-clause-settles
returns-else-is_empty-clause-settles c = λ t over held. (
  subst (λ o. OpeningHolds o c.args.self.now.worlds t) (sym over) (c.if-self.false, held),
  refl,
)

pub returns-then-self-clause-left : goal.returns-then-self-clause-left
returns-then-self-clause-left c = record {
  stays = record {
    crowded = λ e. absurd (c.crowd.ensures.crowded e);
    broken = λ e. sym c.crowd.ensures.broken ∙ e;
  };
  left = λ room. absurd (c.crowd.ensures.crowded room);
}

pub returns-then-is_empty-clause-left : goal.returns-then-is_empty-clause-left
returns-then-is_empty-clause-left c = record {
  stays = record { crowded = λ e. e; broken = λ e. absurd (cc) };
  left = λ room whole. absurd (cc);
}

pub returns-else-is_empty-clause-left : goal.returns-else-is_empty-clause-left
returns-else-is_empty-clause-left c = record {
  stays = record { crowded = λ e. e; broken = λ e. e };
  left = λ room whole. (refl, refl, not_empty _ _ c.is_empty.ensures c.if-is_empty.false, refl);
}

pub returns-then-self-clause-notes : goal.returns-then-self-clause-notes
returns-then-self-clause-notes c = checker_notes_behind c.args.place c.args.self.now _ c.crowd.new.self refl refl
    c.crowd.ensures.notes

pub returns-then-is_empty-clause-notes : goal.returns-then-is_empty-clause-notes
returns-then-is_empty-clause-notes c = checker_notes_broken c.args.place _ c.args.self.now _ refl refl

pub returns-else-is_empty-clause-notes : goal.returns-else-is_empty-clause-notes
returns-else-is_empty-clause-notes c = checker_notes_nothing c.args.place c.args.self.now c.args.self.now refl refl
