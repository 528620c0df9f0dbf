-- Laws of what is due at a part, and of what waits.
use Rattle.std.proofs.Common.{◌≡◌, ℕ, ◌+◌, ◌-◌, ◌^◌, ◌<◌, ◌≤◌, min, false, List, [], ◌∷◌, ◌++◌, length}
use Rattle.std.proofs.Common.{replicate, refl, sym, ap, subst, ◌∙◌, arith}
use Rattle.std.specs.Prelude.{Option, Some, None}
use Rattle.std.proofs.lemmas.List.{length-append, length-replicate}
use Rattle.swd_trace.specs.declared.item.Item.{Item}
use Rattle.swd_trace.specs.declared.item.Item.TheVariants.{Reset, Switch, Idle, Tx, Junk, Cut}
use Rattle.swd_trace.specs.Held.{idle_items}
use Rattle.swd_trace.specs.Texts.{bits_of_items}
use Rattle.swd_trace.proofs.SizeLemmas.{item_bits_append}
use Rattle.swd_resync.specs.declared.part.Part.{Part}
use Rattle.swd_resync.specs.declared.part.Part.TheVariants.{Item as Told, Phased, Skip}
use Rattle.swd_resync.specs.AsItems.{resync_items, resync_part_items}
use Rattle.swd_resync.proofs.ItemLemmas.{resync_skip_items_length}
use Rattle.swd_observer.specs.declared.trace.TraceObserver.{TraceObserver}
use Rattle.swd_observer.specs.Traces.{trace_observer_after}
use Rattle.swd_capture.specs.declared.held_back.DueParts.{DueParts}
use Rattle.swd_capture.specs.Gaps.{CaptureRun, IsCaptureDue, capture_due_at, capture_due_of_idle}
use Rattle.swd_capture.specs.Gaps.{capture_held_items, capture_items_of_due, capture_items_with, capture_part_capped}
use Rattle.swd_capture.specs.Gaps.{capture_run_after, capture_run_behind, capture_run_idle, capture_run_items}
use Rattle.swd_capture.specs.Gaps.{capture_run_none, capture_waiting}
use Rattle.swd_capture.proofs.AccessLemmas.{AreCaptureAlike, capture_alike_same, capture_alike_joins}
use Rattle.swd_capture.proofs.AccessLemmas.{capture_alike_behind, capture_alike_before, capture_held_length}
use Rattle.swd_capture.proofs.AccessLemmas.{observer_text_after_idle, observer_text_idle_silent}
use Rattle.swd_capture.proofs.AccessLemmas.{observer_text_after_many, observer_text_many_show}

-- ---- what is due with its counts up to 2^64 - 1 leads an observer as all of it does

held_alike : (held : Option Part) (idle counted : ℕ) (t : TraceObserver) → counted ≡ min idle (2 ^ 64 - 1)
    → AreCaptureAlike (capture_held_items held counted) (capture_held_items held idle) t
held_alike None idle counted t e = capture_alike_same [] [] t refl
held_alike (Some part) idle counted t e =
    let u = trace_observer_after (resync_part_items part) t in
    capture_alike_behind (resync_part_items part) (idle_items counted) (idle_items idle) t (record {
      leads = ap (λ n. trace_observer_after (idle_items n) u) e ∙ observer_text_after_idle idle u;
      shows = observer_text_idle_silent counted u ∙ sym (observer_text_idle_silent idle u);
    })

capped_alike : (items : List Item) (part : Option Part) (t : TraceObserver)
    → AreCaptureAlike (capture_items_with items (capture_part_capped part)) (capture_items_with items part) t
capped_alike items None t = capture_alike_same _ _ t refl
capped_alike items (Some (Told item)) t = capture_alike_same _ _ t refl
capped_alike items (Some (Phased tx)) t = capture_alike_same _ _ t refl
capped_alike items (Some (Skip n)) t =
    let u = trace_observer_after items t in
    capture_alike_behind items (replicate (min n (2 ^ 64 - 1)) (Junk false)) (replicate n (Junk false)) t (record {
      leads = observer_text_after_many n u;
      shows = observer_text_many_show n u;
    })

with_alike : (a b : List Item) (part : Option Part) (t : TraceObserver) → AreCaptureAlike a b t
    → AreCaptureAlike (capture_items_with a part) (capture_items_with b part) t
with_alike a b None t h = h
with_alike a b (Some part) t h = capture_alike_before a b (resync_part_items part) t h

-- it shows the same
pub capture_due_alike : (whole due : DueParts) (t : TraceObserver) → IsCaptureDue whole due
    → AreCaptureAlike (capture_items_of_due due) (capture_items_of_due whole) t
capture_due_alike whole due t h =
    let all = capture_held_items whole.held whole.idle in
    let counted = capture_held_items due.held due.idle in
    let held : AreCaptureAlike counted all t =
    subst (λ p. AreCaptureAlike (capture_held_items p due.idle) all t) (sym h.held)
    (held_alike whole.held whole.idle due.idle t h.idle) in
    capture_alike_joins (capture_items_with counted due.part) (capture_items_with all due.part)
    (capture_items_with all whole.part) t (with_alike counted all due.part t held)
    (subst (λ p. AreCaptureAlike (capture_items_with all p) (capture_items_with all whole.part) t) (sym h.part)
    (capped_alike all whole.part t))

-- ---- fewer than 2^64 bits

abbrev bits_in : List Item → ℕ
bits_in items = length (bits_of_items items)

bits_joined : (a b : List Item) → bits_in (a ++ b) ≡ bits_in a + bits_in b
bits_joined a b = ap length (item_bits_append a b) ∙ length-append (bits_of_items a) (bits_of_items b)

held_exact : (held : Option Part) (idle counted : ℕ) → counted ≡ min idle (2 ^ 64 - 1)
    → bits_in (capture_held_items held idle) < 2 ^ 64
    → capture_held_items held counted ≡ capture_held_items held idle
held_exact None idle counted e few = refl
held_exact (Some part) idle counted e few =
    let size = capture_held_length part idle in
    let same : counted ≡ idle = omega (arith, e, few, size) in
    ap (λ n. resync_part_items part ++ idle_items n) same

with_exact : (items : List Item) (part : Option Part) → bits_in (capture_items_with items part) < 2 ^ 64
    → capture_items_with items (capture_part_capped part) ≡ capture_items_with items part
with_exact items None few = refl
with_exact items (Some (Told item)) few = refl
with_exact items (Some (Phased tx)) few = refl
with_exact items (Some (Skip n)) few =
    let size = bits_joined items (replicate n (Junk false)) in
    let skip = resync_skip_items_length n in
    let same : min n (2 ^ 64 - 1) ≡ n = omega (arith, few, size, skip) in
    ap (λ m. items ++ replicate m (Junk false)) same

with_more : (items : List Item) (part : Option Part) → bits_in items ≤ bits_in (capture_items_with items part)
with_more items None = omega arith
with_more items (Some part) = let size = bits_joined items (resync_part_items part) in omega (arith, size)

-- what is due has its counts then
pub capture_due_exact : (whole due : DueParts) → IsCaptureDue whole due
    → length (bits_of_items (capture_items_of_due whole)) < 2 ^ 64
    → capture_items_of_due due ≡ capture_items_of_due whole
capture_due_exact whole due h few =
    let all = capture_held_items whole.held whole.idle in
    let less = with_more all whole.part in
    let held : capture_held_items due.held due.idle ≡ all =
    ap (λ p. capture_held_items p due.idle) h.held
    ∙ held_exact whole.held whole.idle due.idle h.idle (omega (arith, few, less)) in
    ap (λ l. capture_items_with l due.part) held ∙ ap (capture_items_with all) h.part
    ∙ with_exact all whole.part few

-- ---- what is due and what waits have the bits of the parts

idle_bits : (n : ℕ) → bits_in (Idle n ∷ []) ≡ n
idle_bits n =
    let zeros = length-replicate n false in
    let size = length-append (replicate n false) [] in
    omega (arith, zeros, size)

idle_kept : (held : Option Part) (idle n : ℕ) → bits_in (capture_items_of_due (capture_due_of_idle held n))
    + bits_in (capture_run_items (capture_run_idle held idle n))
    ≡ bits_in (capture_held_items held idle) + bits_in (Idle n ∷ [])
idle_kept None idle n = omega arith
idle_kept (Some part) idle n =
    let more = capture_held_length part (idle + n) in
    let before = capture_held_length part idle in
    let zeros = idle_bits n in
    omega (arith, more, before, zeros)

passed : (run : CaptureRun) (item : Item) → bits_in (capture_run_items run ++ item ∷ []) + 0
    ≡ bits_in (capture_run_items run) + bits_in (item ∷ [])
passed run item = let size = bits_joined (capture_run_items run) (item ∷ []) in omega (arith, size)

kept : (run : CaptureRun) (part : Part) → bits_in (capture_due_at run part)
    + bits_in (capture_run_items (capture_run_after run part))
    ≡ bits_in (capture_run_items run) + bits_in (resync_part_items part)
kept run (Told (Tx tx)) = refl
kept run (Told (Idle n)) = idle_kept run.part run.idle n
kept run (Told (Reset n)) = passed run (Reset n)
kept run (Told Switch) = passed run Switch
kept run (Told (Junk b)) = passed run (Junk b)
kept run (Told (Cut bits)) = passed run (Cut bits)
kept run (Phased tx) = refl
kept run (Skip n) =
    let skip = resync_skip_items_length n in
    let all = resync_skip_items_length (bits_in (capture_run_items run) + n) in
    omega (arith, skip, all)

waits : (run : CaptureRun) (parts : List Part) → bits_in (capture_run_items (capture_run_behind run parts))
    ≤ bits_in (capture_run_items run) + bits_in (resync_items parts)
waits run [] = omega arith
waits run (part ∷ parts) =
    let first = kept run part in
    let others = waits (capture_run_after run part) parts in
    let size = bits_joined (resync_part_items part) (resync_items parts) in
    omega (arith, first, others, size)

-- what is due at one part more has at most the bits of all
pub capture_due_within : (parts : List Part) (part : Part)
    → length (bits_of_items (capture_due_at (capture_waiting parts) part))
    ≤ length (bits_of_items (resync_items parts)) + length (bits_of_items (resync_part_items part))
capture_due_within parts part =
    let before = waits capture_run_none parts in
    let all = kept (capture_waiting parts) part in
    omega (arith, before, all)

-- and what waits at their end
pub capture_waits_within : (parts : List Part) → length (bits_of_items (capture_run_items (capture_waiting parts)))
    ≤ length (bits_of_items (resync_items parts))
capture_waits_within parts = let all = waits capture_run_none parts in omega (arith, all)
