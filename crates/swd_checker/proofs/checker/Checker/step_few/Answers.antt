use Rattle.std.proofs.Common.{◌<◌, length, refl, sym, subst, ◌∙◌}
use Rattle.swd_checker.specs.declared.worlds.Worlds.{Worlds}
use Rattle.swd_checker.specs.Reaching.{WorldsReach, AreKeptSound}
use Rattle.swd_checker.proofs.KeptLemmas.{none_reached}
use Rattle.swd_checker.specs.Holding.{AnyKeptHolds}
use Rattle.swd_checker.specs.Openings.{OpeningHolds}
use Rattle.swd_checker.proofs.KnowingLemmas.{checker_notes_behind}
use Rattle.swd_checker.proofs.checker.Checker.step_few.Goals as goal

pub returns-clause-keeps : goal.returns-clause-keeps
returns-clause-keeps g c = let k = c.settle.ensures.keeps in
    record { identification = k.identification; wire = k.wire; gap = k.gap }

pub returns-clause-checks : goal.returns-clause-checks
returns-clause-checks g c = λ over. record {
  each = λ s t x opened.
      let held = subst (λ o. OpeningHolds o c.args.self.now.worlds s) over opened in
      c.settle.ensures.settles t over (c.step_each.ensures.steps s t x (subst (λ items. AnyKeptHolds items s)
      (sym (c.as_slice-2.ensures.value ∙ c.copy_of-before.ensures ∙ c.as_slice.ensures.value)) (held.1.held held.0)));
}

pub returns-clause-steps : goal.returns-clause-steps
returns-clause-steps g c =
    let k = c.settle.ensures.left in
    let same = c.as_slice-2.ensures.value ∙ c.copy_of-before.ensures ∙ c.as_slice.ensures.value in
    record {
      stays = record { crowded = λ e. k.stays.crowded e; broken = λ e. k.stays.broken e };
      over = λ over room whole.
          let left = k.left room whole in (
            left.0 ∙ over,
            subst (λ (v : Worlds). 0 < length v.kept.items) (sym left.1) left.2,
            λ link from steps sound. subst (WorldsReach link) (sym left.1) (c.step_each.ensures.reaches link
                (from ∙ sym same) steps (subst AreKeptSound (sym same) sound)
                (none_reached link c.empty.new.self c.empty.ensures.empty)),
            left.3,
          );
    }

pub returns-clause-notes : goal.returns-clause-notes
returns-clause-notes g c = checker_notes_behind c.args.place c.args.self.now _ c.settle.new.self refl refl
    c.settle.ensures.notes
