-- The theorem of a whole trace.
use Rattle.std.specs.Prelude.{ℕ, ◌≡◌, ◌<◌, ◌+◌, Bool, List, [], ◌∷◌, None, length, take}
use Rattle.swd_trace.specs.declared.item.Item.{Item}
use Rattle.swd_port.specs.Port.{Port}
use Rattle.swd_checker.specs.declared.checker.CheckStart.{CheckStart}
use Rattle.swd_checker.specs.declared.checker.Checker.{Checker}
use Rattle.swd_checker.specs.Standing.{CheckedStarts, CheckedRuns, CheckerStarts, CheckerWatches, checked_gap_none}

-- no run of the port model shows these items
abbrev pub IsShownByNoRun : CheckStart → Bool → List Item → Type 0
IsShownByNoRun start clean items = (s t : Port) → CheckedStarts start s → CheckedRuns clean checked_gap_none items s t
    → ⊥

-- THE THEOREM. No run of the port model shows the items up to the one at which a checker says `Breaks`: with any bus
-- behind the access port, any damage and loss unless `clean` is true, any choice that the model leaves to a target.
pub record BreaksIsRight (start : CheckStart) (clean : Bool) (items : List Item) (index : ℕ) : Type 0 where
  pub inside : index < length items
  pub never : IsShownByNoRun start clean (take (index + 1) items)

-- checkers that watch these items in turn, where none but the last says `Breaks`
abbrev pub CheckersWatch : List Item → Checker → Checker → Type 0
CheckersWatch [] c now = now ≡ c
CheckersWatch (item ∷ items) c now =
    (next : Checker) × (c.broken ≡ None) × CheckerWatches item c next × CheckersWatch items next now

-- The same of a checker that is given the items one by one, as in C.
abbrev pub WatchedBreaksAreRight : Type 0
WatchedBreaksAreRight = (start : CheckStart) (clean : Bool) (items : List Item) (c now : Checker)
    → CheckerStarts start clean c → CheckersWatch items c now → (now.broken ≡ None → ⊥)
    → IsShownByNoRun start clean items
