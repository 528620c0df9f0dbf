-- Runs of the port model, and what an observer of their wire reports: the theorem.
use Rattle.std.specs.Prelude.{ℕ, ◌≡◌, ◌==◌, true, false, List, [], ◌∷◌, None}
use Rattle.swd_bits.specs.declared.tx.Tx.{Tx}
use Rattle.swd_port.specs.declared.access.Transfer.{Transfer}
use Rattle.swd_port.specs.Bus.{Bus}
use Rattle.swd_port.specs.Port.{Port, port_selects_mem_ap}
use Rattle.swd_port.specs.Made.{port_made}
use Rattle.swd_port.specs.Choices.{Choice, IsPortChoice}
use Rattle.swd_port.specs.Completion.{port_completed}
use Rattle.swd_port.specs.Leading.{PortLeads, port_line_awaits}
use Rattle.swd_observer.specs.declared.told.ObservedAccess.{ObservedAccess}
use Rattle.swd_observer.specs.declared.observer.Observer.{Observer}
use Rattle.swd_observer.specs.Observing.{observer_after_tx_end, observed_at_tx_end, observed_last_accesses}
use Rattle.swd_observer.specs.Observing.{observer_unknown, observer_as_made, observer_at_rest}
use Rattle.swd_observer.specs.Explained.{ObservedSince, and_observed}
use Rattle.swd_observer.specs.Knows.{ObserverWatches}
use Rattle.swd_observer.specs.Transacts.{ObservedTransacts}

-- What the wire carries: a whole transaction, with the number of bits before it, or ones and zeros.
pub data ObservedEvent : Type 0 where
  Moves : (tx : Tx) (place : ℕ) → ObservedEvent
  Lifts : (ones : ℕ) → ObservedEvent

-- each is a step, or several steps, of the port model
abbrev pub ObservedHappens : ObservedEvent → Port → Port → Type 0
ObservedHappens (Moves tx place) s t = ObservedTransacts tx.result tx.request s t
ObservedHappens (Lifts ones) s t = PortLeads s ones t

abbrev pub ObservedRuns : List ObservedEvent → Port → Port → Type 0
ObservedRuns [] s t = t ≡ s
ObservedRuns (e ∷ events) s t = (m : Port) × ObservedHappens e s m × ObservedRuns events m t

-- the observer after a run, and all that it reported
abbrev pub observer_after_event : ObservedEvent → Observer → Observer
observer_after_event (Moves tx place) o = observer_after_tx_end tx.result tx.request place o
observer_after_event (Lifts ones) o = o

abbrev pub observed_with_event : ObservedEvent → List ObservedAccess → Observer → List ObservedAccess
observed_with_event (Moves tx place) told o = and_observed told (observed_at_tx_end tx.result tx.request place o)
observed_with_event (Lifts ones) told o = told

abbrev pub observer_after : List ObservedEvent → Observer → Observer
observer_after [] o = o
observer_after (e ∷ events) o = observer_after events (observer_after_event e o)

abbrev pub observed_in_events : List ObservedEvent → List ObservedAccess → Observer → List ObservedAccess
observed_in_events [] told o = told
observed_in_events (e ∷ events) told o = observed_in_events events (observed_with_event e told o)
    (observer_after_event e o)

-- an observer knows a port; while a write's data is due, nothing is unconfirmed and no transfer is in flight
pub record ObserverKnowsPort (E : List Transfer → Type 0) (o : Observer) (s : Port) : Type 0 where
  pub knows : ObserverWatches E o s.target
  pub waits : port_line_awaits s.link.line ≡ true → (o.sent ≡ None) × (o.begun ≡ None)

-- the reported accesses, with `May` for one in flight, are those that were logged: now, and once nothing is
-- pending
pub record Accounted (before : List Transfer) (told : List ObservedAccess) (s : Port) : Type 0 where
  pub now : ObservedSince before told s.target.memory.log
  pub later : (c : Choice) → IsPortChoice c → ObservedSince before told (port_completed c s).target.memory.log

-- THE THEOREM. For any target that conforms to the port model, and any requests of the host: from a state of
-- which the observer knows nothing wrong, the accesses that it reports are those logged in the run.
abbrev pub ObservedRunsAccounted : Type 0
ObservedRunsAccounted = (before : List Transfer) (told : List ObservedAccess) (o : Observer)
    (events : List ObservedEvent) (s t : Port) → ObserverKnowsPort (ObservedSince before told) o s
    → ObservedRuns events s t → Accounted before
    (and_observed (observed_in_events events told o) (observed_last_accesses (observer_after events o))) t

-- the same from a target in its reset state,
abbrev pub ObservedMadeAccounted : Type 0
ObservedMadeAccounted = (identification : ℕ) (m : Bus) (events : List ObservedEvent) (t : Port) →
    ObservedRuns events (port_made identification m) t →
    Accounted m.log (and_observed (observed_in_events events [] observer_as_made)
    (observed_last_accesses (observer_after events observer_as_made))) t

-- from a target at rest: SELECT names bank 0 of access port 0 and DPBANKSEL 0, nothing is pending, and no data is due,
pub record IsObservedAtRest (s : Port) : Type 0 where
  pub mem_ap : port_selects_mem_ap s.target.select ≡ true
  pub bank0 : (s.target.select.dpbanksel == 0) ≡ true
  pub pending : s.target.pending ≡ None
  pub idle : port_line_awaits s.link.line ≡ false

abbrev pub ObservedRestAccounted : Type 0
ObservedRestAccounted = (events : List ObservedEvent) (s t : Port) → IsObservedAtRest s → ObservedRuns events s t
    → Accounted s.target.memory.log (and_observed (observed_in_events events [] observer_at_rest)
    (observed_last_accesses (observer_after events observer_at_rest))) t

-- and of a capture that begins anywhere, if nothing is pending and no data is due
abbrev pub ObservedAnyAccounted : Type 0
ObservedAnyAccounted = (events : List ObservedEvent) (s t : Port) → s.target.pending ≡ None
    → port_line_awaits s.link.line ≡ false → ObservedRuns events s t → Accounted s.target.memory.log
    (and_observed (observed_in_events events [] observer_unknown)
    (observed_last_accesses (observer_after events observer_unknown))) t
