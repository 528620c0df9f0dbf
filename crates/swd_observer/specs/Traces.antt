-- What the items of a trace show, each at its place.
use Rattle.std.specs.Prelude.{ℕ, ◌≡◌, ◌+◌, ◌-◌, ◌^◌, ◌&&◌, min, not, Bool, true, false, List, [], ◌∷◌}
use Rattle.std.specs.Prelude.{Option, Some, None, if◌then◌else◌}
use Rattle.swd_bits.specs.declared.tx.TxEnd.{TxEnd}
use Rattle.swd_bits.specs.declared.tx.TxEnd.TheVariants.{Moved, Wait, Fault, NoAck}
use Rattle.swd_trace.specs.declared.item.Item.{Item}
use Rattle.swd_trace.specs.declared.item.Item.TheVariants.{Reset, Switch, Idle, Tx, Junk, Cut}
use Rattle.swd_port.specs.Bus.{Bus}
use Rattle.swd_port.specs.Port.{Port}
use Rattle.swd_port.specs.Made.{port_made}
use Rattle.swd_observer.specs.declared.told.ObservedAccess.{ObservedAccess}
use Rattle.swd_observer.specs.declared.trace.TraceObserver.{TraceObserver}
use Rattle.swd_observer.specs.declared.trace.ShownItem.{ShownItem}
use Rattle.swd_observer.specs.declared.trace.TraceStart.{TraceStart}
use Rattle.swd_observer.specs.declared.trace.TraceStart.TheVariants.{Any, Rest, Made}
use Rattle.swd_observer.specs.Observing.{observer_after_item, observed_at_item, observer_unknown, observer_as_made}
use Rattle.swd_observer.specs.Observing.{observer_at_rest, observed_last_accesses}
use Rattle.swd_observer.specs.Explained.{and_observed}
use Rattle.swd_observer.specs.Runs.{ObservedEvent, Moves, Lifts, ObservedRuns, Accounted}

-- how many bits a transaction has, including turnarounds (IHI 0031, B4)
abbrev pub observed_tx_end_len : TxEnd → ℕ
observed_tx_end_len (Moved word ok) = 46
observed_tx_end_len Wait = 13
observed_tx_end_len Fault = 13
observed_tx_end_len (NoAck seen) = 12

-- how many bits an item has
abbrev pub observed_item_len : Item → ℕ
observed_item_len (Reset n) = n
observed_item_len Switch = 16
observed_item_len (Idle n) = n
observed_item_len (Tx tx) = observed_tx_end_len tx.result
observed_item_len (Junk b) = 1
observed_item_len (Cut bits) = bits.len

-- the number of bits before the next item, at most 2^64 - 1
abbrev pub observed_place_after : Item → ℕ → ℕ
observed_place_after item place = min (place + observed_item_len item) (2 ^ 64 - 1)

-- a junk bit or a cut end
abbrev pub is_observed_gap : Item → Bool
is_observed_gap (Junk b) = true
is_observed_gap (Cut bits) = true
is_observed_gap item = false

-- a trace from its beginning
abbrev pub trace_observer_unknown : TraceObserver
trace_observer_unknown = record { observer = observer_unknown; place = 0; in_gap = false }

abbrev pub trace_observer_made : TraceObserver
trace_observer_made = record { observer = observer_as_made; place = 0; in_gap = false }

abbrev pub trace_observer_resting : TraceObserver
trace_observer_resting = record { observer = observer_at_rest; place = 0; in_gap = false }

-- by what is known before the first item
abbrev pub trace_observer_from : TraceStart → TraceObserver
trace_observer_from Any = trace_observer_unknown
trace_observer_from Rest = trace_observer_resting
trace_observer_from Made = trace_observer_made

abbrev pub trace_observer_step : Item → TraceObserver → TraceObserver
trace_observer_step item t = record {
  observer = observer_after_item item t.place t.observer;
  place = observed_place_after item t.place;
  in_gap = is_observed_gap item;
}

-- the first bit of a gap
abbrev pub observed_gap_at : Item → TraceObserver → Option ℕ
observed_gap_at item t = if is_observed_gap item && not t.in_gap then Some t.place else None

abbrev pub observed_shown_at : Item → TraceObserver → ShownItem
observed_shown_at item t = record { tells = observed_at_item item t.place t.observer; gap = observed_gap_at item t }

abbrev pub trace_observer_after : List Item → TraceObserver → TraceObserver
trace_observer_after [] t = t
trace_observer_after (item ∷ items) t = trace_observer_after items (trace_observer_step item t)

-- all accesses that are reported
abbrev pub observed_trace_from : List Item → List ObservedAccess → TraceObserver → List ObservedAccess
observed_trace_from [] told t = told
observed_trace_from (item ∷ items) told t =
    observed_trace_from items (and_observed told (observed_at_item item t.place t.observer))
    (trace_observer_step item t)

-- and those at the end
abbrev pub observed_in_trace : List Item → TraceObserver → List ObservedAccess
observed_in_trace items t = and_observed (observed_trace_from items [] t)
    (observed_last_accesses (trace_observer_after items t).observer)

-- no junk bit and no cut end
abbrev pub is_observed_gapless : List Item → Bool
is_observed_gapless [] = true
is_observed_gapless (item ∷ items) = not (is_observed_gap item) && is_observed_gapless items

-- the transactions of a trace, each with its place
abbrev pub observed_event_at : Item → ℕ → List ObservedEvent → List ObservedEvent
observed_event_at (Tx tx) place events = Moves tx place ∷ events
observed_event_at item place events = events

abbrev pub observed_moves_in : List Item → ℕ → List ObservedEvent
observed_moves_in [] place = []
observed_moves_in (item ∷ items) place = observed_event_at item place
    (observed_moves_in items (observed_place_after item place))

-- and those of a run
abbrev pub observed_moves_of : List ObservedEvent → List ObservedEvent
observed_moves_of [] = []
observed_moves_of (Moves tx place ∷ events) = Moves tx place ∷ observed_moves_of events
observed_moves_of (Lifts ones ∷ events) = observed_moves_of events

-- THE THEOREM of a trace without junk bits and cut end. Let its transactions be those of a run of the port
-- model from a target in its reset state. Then the reported accesses are those that the memory logged in that
-- run.
abbrev pub ObservedTraceAccounted : Type 0
ObservedTraceAccounted = (identification : ℕ) (m : Bus) (items : List Item) (events : List ObservedEvent)
    (t : Port) → ObservedRuns events (port_made identification m) t → is_observed_gapless items ≡ true
    → observed_moves_in items 0 ≡ observed_moves_of events
    → Accounted m.log (observed_in_trace items trace_observer_made) t
