-- A trace tells what the run tells whose transactions it has.
use Rattle.std.proofs.Common.{◌≡◌, Bool, true, false, List, [], ◌∷◌, ◌++◌, refl, sym, ap, subst, ◌∙◌, append-nil}
use Rattle.std.specs.Prelude.{◌&&◌}
use Rattle.swd_trace.specs.declared.item.Item.{Item}
use Rattle.swd_trace.specs.declared.item.Item.TheVariants.{Reset, Switch, Idle, Tx, Junk, Cut}
use Rattle.swd_observer.specs.declared.told.ObservedAccess.{ObservedAccess}
use Rattle.swd_observer.specs.declared.trace.TraceObserver.{TraceObserver}
use Rattle.swd_observer.specs.Observing.{observed_last_accesses}
use Rattle.swd_observer.specs.Explained.{and_observed}
use Rattle.swd_observer.specs.Runs.{ObservedEvent, Moves, Lifts, Accounted, observed_in_events, observer_after}
use Rattle.swd_observer.specs.Traces.{trace_observer_made, trace_observer_unknown, trace_observer_step}
use Rattle.swd_observer.specs.Traces.{trace_observer_resting}
use Rattle.swd_observer.specs.Traces.{trace_observer_after, observed_trace_from, observed_in_trace, is_observed_gapless}
use Rattle.swd_observer.specs.Traces.{observed_moves_in, observed_moves_of, ObservedTraceAccounted}
use Rattle.swd_observer.specs.AnyTraces.{ObservedAnyTraceAccounted, ObservedRestTraceAccounted}
use Rattle.swd_observer.proofs.ObservedLemmas.{observed_any_accounted, observed_made_accounted, observed_rest_accounted}

-- ones and zeros tell nothing
told_moves : (events : List ObservedEvent) (told : List ObservedAccess) (o : _)
    → observed_in_events (observed_moves_of events) told o ≡ observed_in_events events told o
told_moves [] told o = refl
told_moves (Moves tx place ∷ events) told o = told_moves events _ _
told_moves (Lifts ones ∷ events) told o = told_moves events told o

seen_moves : (events : List ObservedEvent) (o : _)
    → observer_after (observed_moves_of events) o ≡ observer_after events o
seen_moves [] o = refl
seen_moves (Moves tx place ∷ events) o = seen_moves events _
seen_moves (Lifts ones ∷ events) o = seen_moves events o

both : (a b : Bool) → (a && b) ≡ true → b ≡ true
both true b e = e
both false b e = absurd (cc)

-- resets, switches and idle cycles tell nothing
blank : (items : List Item) (told : List ObservedAccess) → told ≡ ((told ++ []) ++ []) ++ []
blank items told = sym (append-nil ((told ++ []) ++ []) ∙ append-nil (told ++ []) ∙ append-nil told)

told_whole : (items : List Item) (told : List ObservedAccess) (t : TraceObserver) → is_observed_gapless items ≡ true
    → observed_trace_from items told t ≡ observed_in_events (observed_moves_in items t.place) told t.observer
told_whole [] told t e = refl
told_whole (Tx tx ∷ items) told t e =
    told_whole items (and_observed told _) (trace_observer_step (Tx tx) t) e
told_whole (Reset n ∷ items) told t e =
    ap (λ l. observed_trace_from items l (trace_observer_step (Reset n) t)) (sym (blank items told))
    ∙ told_whole items told (trace_observer_step (Reset n) t) e
told_whole (Switch ∷ items) told t e =
    ap (λ l. observed_trace_from items l (trace_observer_step Switch t)) (sym (blank items told))
    ∙ told_whole items told (trace_observer_step Switch t) e
told_whole (Idle n ∷ items) told t e =
    ap (λ l. observed_trace_from items l (trace_observer_step (Idle n) t)) (sym (blank items told))
    ∙ told_whole items told (trace_observer_step (Idle n) t) e
told_whole (Junk b ∷ items) told t e = absurd (cc)
told_whole (Cut bits ∷ items) told t e = absurd (cc)

seen_whole : (items : List Item) (t : TraceObserver) → is_observed_gapless items ≡ true
    → (trace_observer_after items t).observer ≡ observer_after (observed_moves_in items t.place) t.observer
seen_whole [] t e = refl
seen_whole (Tx tx ∷ items) t e = seen_whole items (trace_observer_step (Tx tx) t) e
seen_whole (Reset n ∷ items) t e = seen_whole items (trace_observer_step (Reset n) t) e
seen_whole (Switch ∷ items) t e = seen_whole items (trace_observer_step Switch t) e
seen_whole (Idle n ∷ items) t e = seen_whole items (trace_observer_step (Idle n) t) e
seen_whole (Junk b ∷ items) t e = absurd (cc)
seen_whole (Cut bits ∷ items) t e = absurd (cc)

-- so a trace tells what the run tells, whatever was known at first
told_as_run : (items : List Item) (events : List ObservedEvent) (first : TraceObserver)
    → is_observed_gapless items ≡ true
    → observed_moves_in items first.place ≡ observed_moves_of events → observed_in_trace items first
    ≡ and_observed (observed_in_events events [] first.observer)
    (observed_last_accesses (observer_after events first.observer))
told_as_run items events first whole same =
    let told : observed_trace_from items [] first ≡ observed_in_events events [] first.observer =
    told_whole items [] first whole ∙ ap (λ l. observed_in_events l [] first.observer) same
    ∙ told_moves events [] first.observer in
    let seen : (trace_observer_after items first).observer ≡ observer_after events first.observer =
    seen_whole items first whole ∙ ap (λ l. observer_after l first.observer) same ∙ seen_moves events first.observer in
    ap (λ l. and_observed l (observed_last_accesses (trace_observer_after items first).observer)) told
    ∙ ap (λ o. and_observed (observed_in_events events [] first.observer) (observed_last_accesses o)) seen

-- a trace without junk and cut end, whose transactions are those of a run from the reset state: the accesses that are
-- reported are those that the memory logged
pub observed_trace_accounted : ObservedTraceAccounted
observed_trace_accounted identification m items events t runs whole same =
    subst (λ l. Accounted m.log l t) (sym (told_as_run items events trace_observer_made whole same))
    (observed_made_accounted identification m events t runs)

-- the same by an observer that knows nothing, from a state with no transfer pending and no write data awaited
pub observed_any_trace_accounted : ObservedAnyTraceAccounted
observed_any_trace_accounted items events s t settled idle runs whole same =
    subst (λ l. Accounted s.target.memory.log l t) (sym (told_as_run items events trace_observer_unknown whole same))
    (observed_any_accounted events s t settled idle runs)

-- and by one of a target at rest, from such a state
pub observed_rest_trace_accounted : ObservedRestTraceAccounted
observed_rest_trace_accounted items events s t rests runs whole same =
    subst (λ l. Accounted s.target.memory.log l t) (sym (told_as_run items events trace_observer_resting whole same))
    (observed_rest_accounted events s t rests runs)
