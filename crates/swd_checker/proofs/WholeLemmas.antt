-- A checker that watches a whole trace.
use Rattle.std.proofs.Common.{◌≡◌, ◌<◌, ◌+◌, ℕ, Bool, refl, sym, ap, subst, ◌∙◌}
use Rattle.std.proofs.Common.{List, [], ◌∷◌, ◌++◌, length, take, get_or, append_assoc, append-nil}
use Rattle.std.specs.Prelude.{None}
use Rattle.std.proofs.lemmas.List.{take_more}
use Rattle.swd_trace.specs.declared.item.Item.{Item}
use Rattle.swd_port.specs.Port.{Port}
use Rattle.swd_checker.specs.declared.checker.CheckStart.{CheckStart}
use Rattle.swd_checker.specs.declared.checker.Checker.{Checker}
use Rattle.swd_checker.specs.Standing.{CheckedGap, CheckedShows, CheckedRuns, CheckedStarts, CheckerHolds}
use Rattle.swd_checker.specs.Standing.{CheckerStarts, CheckerWatches, checker_gap, checked_gap_after, checked_gap_none}
use Rattle.swd_checker.specs.Standing.{checked_gap_over}
use Rattle.swd_checker.specs.Whole.{BreaksIsRight, CheckersWatch, WatchedBreaksAreRight}

-- the gap after one item more
pub checked_gap_over_more : (items : List Item) (item : Item) (g : CheckedGap)
    → checked_gap_over (items ++ item ∷ []) g ≡ checked_gap_after item (checked_gap_over items g)
checked_gap_over_more [] item g = refl
checked_gap_over_more (first ∷ items) item g = checked_gap_over_more items item (checked_gap_after first g)

-- a run of one item more is a run of the others, and then it
pub checked_last_shown : (clean : Bool) (g : CheckedGap) (items : List Item) (item : Item) (s t : Port)
    → CheckedRuns clean g (items ++ item ∷ []) s t
    → (m : Port) × CheckedRuns clean g items s m × CheckedShows clean (checked_gap_over items g) item m t
checked_last_shown clean g [] item s t (m, shows, last) =
    (s, refl, subst (λ p. CheckedShows clean g item s p) (sym last) shows)
checked_last_shown clean g (first ∷ items) item s t (m, shows, rest) =
    let r = checked_last_shown clean (checked_gap_after first g) items item m t rest in (r.0, (m, shows, r.1), r.2)

-- a checker that watched these items
pub record CheckerRan (start : CheckStart) (clean : Bool) (items : List Item) (c : Checker) : Type 0 where
  pub holds : (s t : Port) → CheckedStarts start s → CheckedRuns clean checked_gap_none items s t → CheckerHolds c t
  pub wire : c.clean ≡ clean
  pub gap : checker_gap c ≡ checked_gap_over items checked_gap_none

-- and found no broken rule
pub record CheckerRuns (start : CheckStart) (clean : Bool) (items : List Item) (c : Checker) : Type 0 where
  pub ran : CheckerRan start clean items c
  pub unbroken : c.broken ≡ None

-- before the first item
pub checker_begins : (start : CheckStart) (clean : Bool) (items : List Item) (c : Checker)
    → CheckerStarts start clean c → CheckerRuns start clean (take 0 items) c
checker_begins start clean items c h = record {
  ran = record {
    holds = λ s t starts run. subst (CheckerHolds c) (sym run) (h.holds s starts);
    wire = h.wire;
    gap = h.gapless;
  };
  unbroken = h.unbroken;
}

ran_more : (start : CheckStart) (clean : Bool) (items : List Item) (item : Item) (c now : Checker)
    → CheckerWatches item c now → CheckerRuns start clean items c → CheckerRan start clean (items ++ item ∷ []) now
ran_more start clean items item c now h before = record {
  holds = λ s t starts run.
      let r = checked_last_shown clean checked_gap_none items item s t run in
      h.holds r.0 t (subst (λ b. CheckedShows b (checker_gap c) item r.0 t) (sym before.ran.wire)
      (subst (λ g. CheckedShows clean g item r.0 t) (sym before.ran.gap) r.2)) (before.ran.holds s r.0 starts r.1);
  wire = h.wire ∙ before.ran.wire;
  gap = h.gap before.unbroken ∙ ap (checked_gap_after item) before.ran.gap
      ∙ sym (checked_gap_over_more items item checked_gap_none);
}

-- and one more
pub checker_ran : (start : CheckStart) (clean : Bool) (items : List Item) (index : ℕ) (d : Item) (c now : Checker)
    → index < length items → CheckerWatches (get_or items index d) c now → CheckerRuns start clean (take index items) c
    → CheckerRan start clean (take (index + 1) items) now
checker_ran start clean items index d c now inside h before = subst (λ l. CheckerRan start clean l now)
    (sym (take_more items index d inside)) (ran_more start clean (take index items) (get_or items index d) c now h
    before)

-- the verdict is right
pub breaks_is_right : (start : CheckStart) (clean : Bool) (items : List Item) (index : ℕ) (c : Checker)
    → index < length items → CheckerRan start clean (take (index + 1) items) c → ((s : Port) → CheckerHolds c s → ⊥)
    → BreaksIsRight start clean items index
breaks_is_right start clean items index c inside h breaks = record {
  inside = inside;
  never = λ s t starts run. breaks t (h.holds s t starts run);
}

watched_from : (start : CheckStart) (clean : Bool) (seen items : List Item) (c now : Checker)
    → CheckerRan start clean seen c → CheckersWatch items c now → CheckerRan start clean (seen ++ items) now
watched_from start clean seen [] c now ran same = subst (CheckerRan start clean (seen ++ [])) (sym same)
    (subst (λ l. CheckerRan start clean l c) (sym (append-nil seen)) ran)
watched_from start clean seen (item ∷ items) c now ran (next, unbroken, watches, rest) =
    subst (λ l. CheckerRan start clean l now) (append_assoc seen (item ∷ []) items)
    (watched_from start clean (seen ++ item ∷ []) items next now
    (ran_more start clean seen item c next watches (record { ran = ran; unbroken = unbroken })) rest)

-- for `laws::watched`
pub watched_breaks_are_right : WatchedBreaksAreRight
watched_breaks_are_right start clean items c now h watch broken = λ s t starts run.
    broken ((watched_from start clean [] items c now (checker_begins start clean [] c h).ran watch).holds s t starts
    run).unbroken
