-- Recorded runs, and what their items show of the target's memory: the theorem of the observer.
use Rattle.std.specs.Prelude.{ℕ, ◌≡◌, ◌≤◌, false, List, [], ◌∷◌, None}
use Rattle.swd_port.specs.declared.call.Call.{Call}
use Rattle.swd_port.specs.declared.wire.Due.TheVariants.{Nothing}
use Rattle.swd_port.specs.Leading.{port_line_awaits}
use Rattle.swd_port.specs.Bus.{Bus}
use Rattle.swd_port.specs.Port.{Port}
use Rattle.swd_port.specs.Made.{port_made}
use Rattle.swd_port.specs.Steps.{IsPortSeen, IsPortStep, PortMayStep, port_due_once}
use Rattle.swd_recorder.specs.Items.{recorded_items_by}
use Rattle.swd_recorder.specs.Steps.{recorder_ask_count, recorded_transactions}
use Rattle.swd_observer.specs.Runs.{Accounted}
use Rattle.swd_observer.specs.Traces.{trace_observer_made, trace_observer_unknown, observed_in_trace}

-- these calls of a wire, the last one first, are steps of the port model from one state to another
pub data RunCallsStepped (start : Port) : List Call → Port → Type 0 where
  at_start : RunCallsStepped start [] start
  further : {calls : List Call} {call : Call} {s t : Port} → RunCallsStepped start calls s
      → PortMayStep s.link.due call.cue
      → IsPortSeen call.cue call.seen → IsPortStep call.cue call.seen s t
      → t.link.due ≡ port_due_once call.cue call.seen
      → RunCallsStepped start (call ∷ calls) t

-- THE THEOREM of a recorded run. Let the calls be steps of the port model from a target in its reset state, each of
-- whose requests led to a whole transaction. Then the accesses that their items show are those that the memory logged.
abbrev pub RunTraceIsAccounted : Type 0
RunTraceIsAccounted = (identification : ℕ) (m : Bus) (calls : List Call) (t : Port)
    → RunCallsStepped (port_made identification m) calls t
    → recorder_ask_count calls ≤ recorded_transactions (recorded_items_by calls)
    → Accounted m.log (observed_in_trace (recorded_items_by calls) trace_observer_made) t

-- The same from any state in which nothing is due or pending and no write data is awaited, for an observer that knows
-- nothing at first.
abbrev pub AnyRunTraceIsAccounted : Type 0
AnyRunTraceIsAccounted = (calls : List Call) (s t : Port) → s.link.due ≡ Nothing → s.target.pending ≡ None
    → port_line_awaits s.link.line ≡ false → RunCallsStepped s calls t
    → recorder_ask_count calls ≤ recorded_transactions (recorded_items_by calls)
    → Accounted s.target.memory.log (observed_in_trace (recorded_items_by calls) trace_observer_unknown) t
