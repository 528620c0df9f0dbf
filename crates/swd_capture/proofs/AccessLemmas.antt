-- Laws of what items show, one after the other.
use Rattle.std.proofs.Common.{◌≡◌, ℕ, zero, suc, ◌+◌, ◌-◌, ◌^◌, ◌<◌, ◌≤◌, min, true, false, List, [], ◌∷◌, ◌++◌, length}
use Rattle.std.proofs.Common.{replicate, refl, sym, ap, ◌∙◌, append_assoc, arith}
use Rattle.std.proofs.lemmas.List.{append-nil, length-append, length-replicate}
use Rattle.std.specs.Prelude.{Option, Some, None}
use Rattle.swd_trace.specs.Texts.{bits_of_items}
use Rattle.swd_trace.proofs.SizeLemmas.{item_bits_append}
use Rattle.swd_resync.specs.declared.part.Part.{Part}
use Rattle.swd_resync.specs.AsItems.{resync_part_items}
use Rattle.swd_capture.specs.Gaps.{capture_held_items}
use Rattle.swd_trace.specs.declared.item.Item.{Item}
use Rattle.swd_trace.specs.declared.item.Item.TheVariants.{Junk, Idle}
use Rattle.swd_trace.specs.Held.{idle_items}
use Rattle.swd_observer.specs.declared.trace.TraceObserver.{TraceObserver}
use Rattle.swd_observer.specs.Observing.{observer_unknown}
use Rattle.swd_observer.specs.Traces.{observed_shown_at, trace_observer_step, trace_observer_after}
use Rattle.swd_capture.specs.Accesses.{observer_text_shown, observer_text_of_items}

-- what some items show, and others behind them
pub observer_text_joins : (items others : List Item) (t : TraceObserver)
    → observer_text_of_items (items ++ others) t ≡ observer_text_of_items items t
    ++ observer_text_of_items others (trace_observer_after items t)
observer_text_joins [] others t = refl
observer_text_joins (i ∷ items) others t =
    ap (λ x. observer_text_shown (observed_shown_at i t) ++ x)
    (observer_text_joins items others (trace_observer_step i t)) ∙ sym
    (append_assoc (observer_text_shown (observed_shown_at i t)) (observer_text_of_items items (trace_observer_step i t))
    (observer_text_of_items others (trace_observer_after items (trace_observer_step i t))))

-- the observer behind them
pub observer_text_after_join : (items others : List Item) (t : TraceObserver)
    → trace_observer_after (items ++ others) t ≡ trace_observer_after others (trace_observer_after items t)
observer_text_after_join [] others t = refl
observer_text_after_join (i ∷ items) others t = observer_text_after_join items others (trace_observer_step i t)

-- an observer among bits that belong to nothing
abbrev pub observer_text_among_junk : ℕ → TraceObserver
observer_text_among_junk place = record { observer = observer_unknown; place = place; in_gap = true }

next_place : (n p : ℕ) → p ≤ 2 ^ 64 - 1
    → min (min (p + 1) (2 ^ 64 - 1) + n) (2 ^ 64 - 1) ≡ min (p + suc n) (2 ^ 64 - 1)
next_place n p h = omega arith

-- behind the first such bit the others move its place alone
pub observer_text_after_junk : (n p : ℕ) → p ≤ 2 ^ 64 - 1
    → trace_observer_after (replicate n (Junk false)) (observer_text_among_junk p)
    ≡ observer_text_among_junk (min (p + n) (2 ^ 64 - 1))
observer_text_after_junk zero p h = ap observer_text_among_junk (omega (arith, h))
observer_text_after_junk (suc n) p h =
    observer_text_after_junk n (min (p + 1) (2 ^ 64 - 1)) (omega arith) ∙ ap observer_text_among_junk (next_place n p h)

-- and show nothing
pub observer_text_junk_silent : (n p : ℕ) → observer_text_of_items (replicate n (Junk false))
    (observer_text_among_junk p) ≡ []
observer_text_junk_silent zero p = refl
observer_text_junk_silent (suc n) p = observer_text_junk_silent n (min (p + 1) (2 ^ 64 - 1))

-- behind a skip an observer stands among bits that belong to nothing
pub observer_text_after_skip : (count : ℕ) (t : TraceObserver) → 0 < count
    → trace_observer_after (replicate count (Junk false)) t
    ≡ observer_text_among_junk (min (min (t.place + 1) (2 ^ 64 - 1) + (count - 1)) (2 ^ 64 - 1))
observer_text_after_skip zero t h = absurd (omega arith)
observer_text_after_skip (suc n) t h =
    observer_text_after_junk n (min (t.place + 1) (2 ^ 64 - 1)) (omega arith) ∙ ap observer_text_among_junk
    (omega arith)

-- and the first of its bits shows all that it shows
pub observer_text_skip_shows : (count : ℕ) (t : TraceObserver) → 0 < count
    → observer_text_of_items (replicate count (Junk false)) t ≡ observer_text_shown (observed_shown_at (Junk false) t)
observer_text_skip_shows zero t h = absurd (omega arith)
observer_text_skip_shows (suc n) t h =
    ap (λ x. observer_text_shown (observed_shown_at (Junk false) t) ++ x)
    (observer_text_junk_silent n (min (t.place + 1) (2 ^ 64 - 1))) ∙ append-nil
    (observer_text_shown (observed_shown_at (Junk false) t))

-- ---- bits and cycles that are counted up to 2^64 - 1

-- idle cycles behind a place
pub observer_text_after_idle : (n : ℕ) (t : TraceObserver)
    → trace_observer_after (idle_items (min n (2 ^ 64 - 1))) t ≡ trace_observer_after (idle_items n) t
observer_text_after_idle zero t = refl
observer_text_after_idle (suc n) t =
    let e : min (suc n) (2 ^ 64 - 1) ≡ suc (min n (2 ^ 64 - 2)) = omega arith in
    ap (λ m. trace_observer_after (idle_items m) t) e
    ∙ ap (λ p. record { observer = t.observer; place = p; in_gap = false }) (capped t.place n)
  where
    capped : (p n : ℕ) → min (p + suc (min n (2 ^ 64 - 2))) (2 ^ 64 - 1) ≡ min (p + suc n) (2 ^ 64 - 1)
    capped p n = omega arith

-- and they show nothing
pub observer_text_idle_silent : (n : ℕ) (t : TraceObserver) → observer_text_of_items (idle_items n) t ≡ []
observer_text_idle_silent zero t = refl
observer_text_idle_silent (suc n) t = refl

-- bits that belong to nothing
pub observer_text_after_many : (n : ℕ) (t : TraceObserver)
    → trace_observer_after (replicate (min n (2 ^ 64 - 1)) (Junk false)) t
    ≡ trace_observer_after (replicate n (Junk false)) t
observer_text_after_many zero t = refl
observer_text_after_many (suc n) t =
    observer_text_after_skip (min (suc n) (2 ^ 64 - 1)) t (omega arith)
    ∙ ap observer_text_among_junk (capped t.place n) ∙ sym (observer_text_after_skip (suc n) t (omega arith))
  where
    capped : (p n : ℕ) → min (min (p + 1) (2 ^ 64 - 1) + (min (suc n) (2 ^ 64 - 1) - 1)) (2 ^ 64 - 1)
        ≡ min (min (p + 1) (2 ^ 64 - 1) + (suc n - 1)) (2 ^ 64 - 1)
    capped p n = omega arith

-- and what they show
pub observer_text_many_show : (n : ℕ) (t : TraceObserver)
    → observer_text_of_items (replicate (min n (2 ^ 64 - 1)) (Junk false)) t
    ≡ observer_text_of_items (replicate n (Junk false)) t
observer_text_many_show zero t = refl
observer_text_many_show (suc n) t =
    observer_text_skip_shows (min (suc n) (2 ^ 64 - 1)) t (omega arith)
    ∙ sym (observer_text_skip_shows (suc n) t (omega arith))

-- how many bits what waits has
pub capture_held_length : (part : Part) (idle : ℕ) → length (bits_of_items (capture_held_items (Some part) idle))
    ≡ length (bits_of_items (resync_part_items part)) + idle
capture_held_length part idle =
    let joined : length (bits_of_items (resync_part_items part ++ idle_items idle))
    ≡ length (bits_of_items (resync_part_items part)) + length (bits_of_items (idle_items idle)) =
    ap length (item_bits_append (resync_part_items part) (idle_items idle))
    ∙ length-append (bits_of_items (resync_part_items part)) (bits_of_items (idle_items idle)) in
    joined ∙ ap (λ n. length (bits_of_items (resync_part_items part)) + n) (idle_length idle)
  where
    idle_length : (n : ℕ) → length (bits_of_items (idle_items n)) ≡ n
    idle_length zero = refl
    idle_length (suc n) = length-append (replicate (suc n) false) [] ∙ omega (arith, length-replicate (suc n) false)

-- the same where idle cycles, and the sum, are counted up to 2^64 - 1
pub capture_held_capped : (held : Option Part) (idle counted count : ℕ) → counted ≡ min idle (2 ^ 64 - 1)
    → min (min (length (bits_of_items (capture_held_items held counted))) (2 ^ 64 - 1) + count) (2 ^ 64 - 1)
    ≡ min (length (bits_of_items (capture_held_items held idle)) + count) (2 ^ 64 - 1)
capture_held_capped None idle counted count e = omega arith
capture_held_capped (Some part) idle counted count e =
    let a = capture_held_length part idle in
    let b = capture_held_length part counted in
    omega arith

-- idle cycles behind others, where no gap is open
pub observer_text_more_idle : (i n : ℕ) (t : TraceObserver) → t.place ≤ 2 ^ 64 - 1 → t.in_gap ≡ false
    → trace_observer_after (idle_items (i + n)) t ≡ trace_observer_step (Idle n) (trace_observer_after (idle_items i) t)
observer_text_more_idle zero zero t h e =
    let place : t.place ≡ min (t.place + 0) (2 ^ 64 - 1) = omega (arith, h) in
    ap (λ g. record { observer = t.observer; place = t.place; in_gap = g }) e
    ∙ ap (λ p. record { observer = t.observer; place = p; in_gap = false }) place
observer_text_more_idle zero (suc n) t h e =
    let sum : zero + suc n ≡ suc n = omega arith in
    ap (λ m. trace_observer_after (idle_items m) t) sum
observer_text_more_idle (suc i) n t h e =
    let sum : suc i + n ≡ suc (i + n) = omega arith in
    ap (λ m. trace_observer_after (idle_items m) t) sum
    ∙ ap (λ p. record { observer = t.observer; place = p; in_gap = false }) (joined t.place i n)
  where
    joined : (p i n : ℕ) → min (p + suc (i + n)) (2 ^ 64 - 1)
        ≡ min (min (p + suc i) (2 ^ 64 - 1) + n) (2 ^ 64 - 1)
    joined p i n = omega arith

-- two lists of items lead an observer alike, and show the same
pub record AreCaptureAlike (a b : List Item) (t : TraceObserver) : Type 0 where
  pub leads : trace_observer_after a t ≡ trace_observer_after b t
  pub shows : observer_text_of_items a t ≡ observer_text_of_items b t

-- equal lists do
pub capture_alike_same : (a b : List Item) (t : TraceObserver) → a ≡ b → AreCaptureAlike a b t
capture_alike_same a b t e = record {
  leads = ap (λ x. trace_observer_after x t) e;
  shows = ap (λ x. observer_text_of_items x t) e;
}

-- one after the other
pub capture_alike_joins : (a b c : List Item) (t : TraceObserver) → AreCaptureAlike a b t → AreCaptureAlike b c t
    → AreCaptureAlike a c t
capture_alike_joins a b c t p q = record { leads = p.leads ∙ q.leads; shows = p.shows ∙ q.shows }

-- behind the same items
pub capture_alike_behind : (front a b : List Item) (t : TraceObserver)
    → AreCaptureAlike a b (trace_observer_after front t)
    → AreCaptureAlike (front ++ a) (front ++ b) t
capture_alike_behind front a b t p = record {
  leads = observer_text_after_join front a t ∙ p.leads ∙ sym (observer_text_after_join front b t);
  shows = observer_text_joins front a t ∙ ap (λ x. observer_text_of_items front t ++ x) p.shows
      ∙ sym (observer_text_joins front b t);
}

-- before the same items
pub capture_alike_before : (a b back : List Item) (t : TraceObserver) → AreCaptureAlike a b t
    → AreCaptureAlike (a ++ back) (b ++ back) t
capture_alike_before a b back t p = record {
  leads = observer_text_after_join a back t ∙ ap (trace_observer_after back) p.leads
      ∙ sym (observer_text_after_join b back t);
  shows = observer_text_joins a back t ∙ ap (λ x. x ++ observer_text_of_items back (trace_observer_after a t)) p.shows
      ∙ ap (λ o. observer_text_of_items b t ++ observer_text_of_items back o) p.leads
      ∙ sym (observer_text_joins b back t);
}
