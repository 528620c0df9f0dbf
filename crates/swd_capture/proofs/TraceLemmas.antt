-- The accesses of a trace are what an observer shows of its items: without a skip nothing belongs to a gap.
use Rattle.std.proofs.Common.{◌≡◌, ℕ, ◌+◌, List, [], ◌∷◌, ◌++◌, map, refl, sym, ap, ◌∙◌, append_assoc, arith}
use Rattle.std.specs.Prelude.{Option, Some, None}
use Rattle.std.proofs.lemmas.List.{append-nil}
use Rattle.swd_bits.specs.declared.tx.Tx.{Tx as Transaction}
use Rattle.swd_trace.specs.declared.item.Item.{Item}
use Rattle.swd_trace.specs.declared.item.Item.TheVariants.{Reset, Switch, Idle, Tx, Junk, Cut}
use Rattle.swd_trace.specs.Held.{idle_items}
use Rattle.swd_resync.specs.declared.part.Part.TheVariants.{Item as Told}
use Rattle.swd_observer.specs.declared.trace.TraceObserver.{TraceObserver}
use Rattle.swd_observer.specs.Observing.{observed_last_accesses}
use Rattle.swd_observer.specs.Traces.{trace_observer_after, trace_observer_from, trace_observer_step, observed_shown_at}
use Rattle.swd_observer.specs.declared.trace.TraceStart.{TraceStart}
use Rattle.swd_capture.specs.Accesses.{observer_text_of_items, observer_text_reported, observer_text_shown}
use Rattle.swd_capture.specs.Gaps.{CaptureRun, capture_run_none, capture_run_items, capture_run_behind, capture_due}
use Rattle.swd_capture.specs.Gaps.{capture_due_items, capture_waiting}
use Rattle.swd_capture.specs.Printing.{capture_printout}
use Rattle.swd_capture.specs.declared.printed.Printed.TheVariants.{Accesses}
use Rattle.swd_capture.proofs.AccessLemmas.{observer_text_joins, observer_text_after_join, observer_text_idle_silent}
use Rattle.swd_capture.proofs.AccessLemmas.{observer_text_more_idle, AreCaptureAlike, capture_alike_same}
use Rattle.swd_capture.proofs.AccessLemmas.{capture_alike_joins, capture_alike_behind, capture_alike_before}

-- what waits: nothing, or a transaction and idle cycles
abbrev run_of : Option Transaction → ℕ → CaptureRun
run_of None i = capture_run_none
run_of (Some tx) i = record { part = Some (Told (Tx tx)); idle = i }

abbrev all_of : CaptureRun → List Item → List Item
all_of run items = capture_due run (map Told items) ++ capture_run_items (capture_run_behind run (map Told items))

-- idle cycles are added to those that wait
more_idle : (tx : Transaction) (i n : ℕ) (t : TraceObserver)
    → AreCaptureAlike (Tx tx ∷ idle_items (i + n)) ((Tx tx ∷ idle_items i) ++ Idle n ∷ []) t
more_idle tx i n t =
    let u = trace_observer_step (Tx tx) t in
    let first = observer_text_shown (observed_shown_at (Tx tx) t) in
    record {
      leads = observer_text_more_idle i n u (omega arith) refl
          ∙ sym (observer_text_after_join (idle_items i) (Idle n ∷ []) u);
      shows = ap (λ x. first ++ x) (observer_text_idle_silent (i + n) u)
          ∙ ap (λ x. first ++ x) (sym (observer_text_joins (idle_items i) (Idle n ∷ []) u
          ∙ ap (λ x. x ++ []) (observer_text_idle_silent i u)));
    }

-- an item behind what waits
ends_run : (run : CaptureRun) (item : Item) (items : List Item) (t : TraceObserver)
    → AreCaptureAlike (all_of capture_run_none items) items
    (trace_observer_after (capture_run_items run ++ item ∷ []) t)
    → AreCaptureAlike ((capture_run_items run ++ item ∷ []) ++ all_of capture_run_none items)
    (capture_run_items run ++ item ∷ items) t
ends_run run item items t p =
    capture_alike_joins _ ((capture_run_items run ++ item ∷ []) ++ items) _ t
    (capture_alike_behind (capture_run_items run ++ item ∷ []) (all_of capture_run_none items) items t p)
    (capture_alike_same _ _ t (append_assoc (capture_run_items run) (item ∷ []) items))

split : (a b c : List Item) → (a ++ b) ++ c ≡ a ++ (b ++ c)
split a b c = append_assoc a b c

watched : (held : Option Transaction) (i : ℕ) (items : List Item) (t : TraceObserver)
    → AreCaptureAlike (all_of (run_of held i) items) (capture_run_items (run_of held i) ++ items) t
watched held i [] t = capture_alike_same _ _ t (sym (append-nil (capture_run_items (run_of held i))))
watched None i (Idle n ∷ items) t =
    capture_alike_behind (Idle n ∷ []) (all_of capture_run_none items) items t
    (watched None 0 items (trace_observer_step (Idle n) t))
watched (Some tx) i (Idle n ∷ items) t =
    capture_alike_joins _ ((Tx tx ∷ idle_items (i + n)) ++ items) _ t (watched (Some tx) (i + n) items t)
    (capture_alike_joins _ (((Tx tx ∷ idle_items i) ++ Idle n ∷ []) ++ items) _ t
    (capture_alike_before _ _ items t (more_idle tx i n t))
    (capture_alike_same _ _ t (split (Tx tx ∷ idle_items i) (Idle n ∷ []) items)))
watched held i (Tx tx ∷ items) t =
    let front = capture_run_items (run_of held i) in
    capture_alike_joins _ (front ++ all_of (run_of (Some tx) 0) items) _ t
    (capture_alike_same _ _ t (split front (capture_due (run_of (Some tx) 0) (map Told items))
    (capture_run_items (capture_run_behind (run_of (Some tx) 0) (map Told items)))))
    (capture_alike_behind front (all_of (run_of (Some tx) 0) items) (Tx tx ∷ items) t
    (watched (Some tx) 0 items (trace_observer_after front t)))
watched held i (Reset n ∷ items) t =
    let front = capture_run_items (run_of held i) ++ Reset n ∷ [] in
    capture_alike_joins _ (front ++ all_of capture_run_none items) _ t
    (capture_alike_same _ _ t (split front (capture_due capture_run_none (map Told items))
    (capture_run_items (capture_run_behind capture_run_none (map Told items)))))
    (ends_run (run_of held i) (Reset n) items t (watched None 0 items (trace_observer_after front t)))
watched held i (Switch ∷ items) t =
    let front = capture_run_items (run_of held i) ++ Switch ∷ [] in
    capture_alike_joins _ (front ++ all_of capture_run_none items) _ t
    (capture_alike_same _ _ t (split front (capture_due capture_run_none (map Told items))
    (capture_run_items (capture_run_behind capture_run_none (map Told items)))))
    (ends_run (run_of held i) Switch items t (watched None 0 items (trace_observer_after front t)))
watched held i (Junk b ∷ items) t =
    let front = capture_run_items (run_of held i) ++ Junk b ∷ [] in
    capture_alike_joins _ (front ++ all_of capture_run_none items) _ t
    (capture_alike_same _ _ t (split front (capture_due capture_run_none (map Told items))
    (capture_run_items (capture_run_behind capture_run_none (map Told items)))))
    (ends_run (run_of held i) (Junk b) items t (watched None 0 items (trace_observer_after front t)))
watched held i (Cut bits ∷ items) t =
    let front = capture_run_items (run_of held i) ++ Cut bits ∷ [] in
    capture_alike_joins _ (front ++ all_of capture_run_none items) _ t
    (capture_alike_same _ _ t (split front (capture_due capture_run_none (map Told items))
    (capture_run_items (capture_run_behind capture_run_none (map Told items)))))
    (ends_run (run_of held i) (Cut bits) items t (watched None 0 items (trace_observer_after front t)))

-- what is printed of the accesses of a trace's items is what an observer shows of them
pub capture_trace_observed : (start : TraceStart) (items : List Item)
    → capture_printout (Accesses start) (map Told items)
    ≡ observer_text_of_items items (trace_observer_from start) ++ observer_text_reported
    (observed_last_accesses (trace_observer_after items (trace_observer_from start)).observer)
capture_trace_observed start items =
    let first = trace_observer_from start in
    let due = capture_due_items (map Told items) in
    let waits = capture_run_items (capture_waiting (map Told items)) in
    let ends = observer_text_reported (observed_last_accesses
    (trace_observer_after waits (trace_observer_after due first)).observer) in
    let w = watched None 0 items first in
    sym (append_assoc (observer_text_of_items due first)
    (observer_text_of_items waits (trace_observer_after due first)) ends)
    ∙ ap (λ x. x ++ ends) (sym (observer_text_joins due waits first) ∙ w.shows)
    ∙ ap (λ o. observer_text_of_items items first ++ observer_text_reported (observed_last_accesses o.observer))
    (sym (observer_text_after_join due waits first) ∙ w.leads)
