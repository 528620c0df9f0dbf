-- Runs in which nothing is reported as `May`.
use Rattle.std.specs.Prelude.{◌≡◌, ◌≢◌, Bool, true, false, List, [], ◌∷◌, Option, Some, None}
use Rattle.swd_bits.specs.declared.request.Request.{Request}
use Rattle.swd_bits.specs.declared.tx.TxEnd.{TxEnd}
use Rattle.swd_bits.specs.declared.tx.TxEnd.TheVariants.{Moved, Wait, Fault, NoAck}
use Rattle.swd_port.specs.declared.select.Select.{Select}
use Rattle.swd_observer.specs.declared.told.ObservedAccess.{ObservedAccess}
use Rattle.swd_observer.specs.declared.told.How.TheVariants.{May}
use Rattle.swd_observer.specs.declared.observer.Observer.{Observer}
use Rattle.swd_observer.specs.declared.observer.RequestEffect.{RequestEffect}
use Rattle.swd_observer.specs.declared.observer.RequestEffect.TheVariants.{Elsewhere}
use Rattle.swd_observer.specs.Observing.{Aborts, observed_class, observed_kind, observer_arrival, observer_confirmed}
use Rattle.swd_observer.specs.Runs.{ObservedEvent, Moves, Lifts, observer_after_event, observed_in_events}

abbrev pub observer_knows_select : Option Select → Bool
observer_knows_select None = false
observer_knows_select (Some s) = true

abbrev pub is_observed_elsewhere : RequestEffect → Bool
is_observed_elsewhere (Elsewhere read) = true
is_observed_elsewhere k = false

-- the transaction was acknowledged, SELECT is known once it is confirmed, ABORT is written only if no
-- transfer is in flight, and the data registers are those of AP 0
abbrev pub IsObservedClear : TxEnd → Request → Observer → Type 0
IsObservedClear (Moved word ok) q o = (observer_knows_select (observer_confirmed o).select ≡ true)
    × (observed_class o q ≡ Aborts → (observer_arrival o).begun ≡ None)
    × (is_observed_elsewhere (observed_kind (observer_confirmed o).select q) ≡ false)
IsObservedClear Wait q o = Unit {0}
IsObservedClear Fault q o = Unit {0}
IsObservedClear (NoAck seen) q o = ⊥

abbrev pub AreObservedClear : List ObservedEvent → Observer → Type 0
AreObservedClear [] o = Unit {0}
AreObservedClear (Moves tx place ∷ events) o = IsObservedClear tx.result tx.request o
    × AreObservedClear events (observer_after_event (Moves tx place) o)
AreObservedClear (Lifts ones ∷ events) o = AreObservedClear events o

abbrev pub AreObservedSure : List ObservedAccess → Type 0
AreObservedSure [] = Unit {0}
AreObservedSure (t ∷ told) = (t.how ≢ May) × AreObservedSure told

-- then no access is reported as `May` before the end
abbrev pub ObservedClearIsSure : Type 0
ObservedClearIsSure = (events : List ObservedEvent) (told : List ObservedAccess) (o : Observer) → AreObservedSure told
    → AreObservedClear events o → AreObservedSure (observed_in_events events told o)
