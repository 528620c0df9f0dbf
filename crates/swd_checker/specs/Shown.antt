-- Runs of the port model as an observer of the wire sees them, and the items that show them.
use Rattle.std.specs.Prelude.{ℕ, zero, suc, ◌≡◌, false, List, [], ◌∷◌}
use Rattle.swd_bits.specs.declared.tx.TxEnd.{TxEnd}
use Rattle.swd_bits.specs.declared.tx.TxEnd.TheVariants.{Moved}
use Rattle.swd_trace.specs.declared.item.Item.{Item}
use Rattle.swd_trace.specs.declared.item.Item.TheVariants.{Reset, Idle, Tx}
use Rattle.swd_port.specs.Port.{Port}
use Rattle.swd_observer.specs.Runs.{ObservedEvent, Moves, Lifts, ObservedRuns}
use Rattle.swd_checker.specs.Standing.{CheckedRuns, checked_gap_none}

-- The same end. An observer knows nothing of a word with wrong parity; an item has the word that was seen.
abbrev pub IsEndShown : TxEnd → TxEnd → Type 0
IsEndShown (Moved word false) shown = (seen : ℕ) × (shown ≡ Moved seen false)
IsEndShown end shown = shown ≡ end

-- ones are a line reset, and zeros alone are idle cycles
abbrev pub IsLeadShown : ℕ → Item → Type 0
IsLeadShown zero item = (zeros : ℕ) × (item ≡ Idle zeros)
IsLeadShown (suc ones) item = item ≡ Reset (suc ones)

abbrev pub IsEventShown : ObservedEvent → Item → Type 0
IsEventShown (Moves tx place) item = (end : TxEnd) × IsEndShown tx.result end
    × (item ≡ Tx (record { request = tx.request; result = end }))
IsEventShown (Lifts ones) item = IsLeadShown ones item

abbrev pub AreEventsShown : List ObservedEvent → List Item → Type 0
AreEventsShown [] items = items ≡ []
AreEventsShown (e ∷ events) items = (first : Item) × (rest : List Item) × (items ≡ first ∷ rest)
    × IsEventShown e first × AreEventsShown events rest

-- Each run that an observer knows is one that some items show: what no items show, no run does.
abbrev pub ObservedRunsAreShown : Type 0
ObservedRunsAreShown = (events : List ObservedEvent) (s t : Port) → ObservedRuns events s t
    → (items : List Item) × AreEventsShown events items × CheckedRuns false checked_gap_none items s t
