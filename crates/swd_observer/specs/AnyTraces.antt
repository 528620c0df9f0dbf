-- What a trace shows of a target of which nothing is known at first, or only that it is at rest.
use Rattle.std.specs.Prelude.{◌≡◌, true, false, List, None}
use Rattle.swd_trace.specs.declared.item.Item.{Item}
use Rattle.swd_port.specs.Port.{Port}
use Rattle.swd_port.specs.Leading.{port_line_awaits}
use Rattle.swd_observer.specs.Runs.{ObservedEvent, ObservedRuns, Accounted, IsObservedAtRest}
use Rattle.swd_observer.specs.Traces.{trace_observer_unknown, observed_in_trace, is_observed_gapless, observed_moves_in}
use Rattle.swd_observer.specs.Traces.{observed_moves_of, trace_observer_resting}

-- THE THEOREM of a trace without junk bits and cut end. Let its transactions be those of a run of the port model from a
-- state in which no transfer is pending and no write data is awaited. Then the accesses that an observer reports which
-- knows nothing at first are those that the memory logged in that run.
abbrev pub ObservedAnyTraceAccounted : Type 0
ObservedAnyTraceAccounted = (items : List Item) (events : List ObservedEvent) (s t : Port) → s.target.pending ≡ None
    → port_line_awaits s.link.line ≡ false → ObservedRuns events s t → is_observed_gapless items ≡ true
    → observed_moves_in items 0 ≡ observed_moves_of events
    → Accounted s.target.memory.log (observed_in_trace items trace_observer_unknown) t

-- The same from a target at rest, of an observer that knows that it is.
abbrev pub ObservedRestTraceAccounted : Type 0
ObservedRestTraceAccounted = (items : List Item) (events : List ObservedEvent) (s t : Port) → IsObservedAtRest s
    → ObservedRuns events s t → is_observed_gapless items ≡ true → observed_moves_in items 0 ≡ observed_moves_of events
    → Accounted s.target.memory.log (observed_in_trace items trace_observer_resting) t
