-- Laws of what is printed of parts, one after the other.
use Rattle.std.proofs.Common.{◌≡◌, ℕ, zero, suc, ◌+◌, ◌-◌, ◌^◌, ◌<◌, min, Bool, true, false, List, [], ◌∷◌, ◌++◌}
use Rattle.std.proofs.Common.{length, map, Option, None, replicate, refl, sym, ap, ◌∙◌, append_assoc, arith}
use Rattle.std.specs.Prelude.{◌==◌, if◌then◌else◌}
use Rattle.std.proofs.lemmas.List.{append-nil, length-append}
use Rattle.swd_trace.specs.declared.item.Item.{Item}
use Rattle.swd_trace.specs.declared.item.Item.TheVariants.{Junk}
use Rattle.swd_trace.specs.Texts.{bits_of_items}
use Rattle.swd_trace.proofs.SizeLemmas.{item_bits_append}
use Rattle.swd_resync.specs.declared.part.Part.{Part}
use Rattle.swd_resync.specs.AsItems.{resync_part_items, resync_items}
use Rattle.swd_resync.proofs.ItemLemmas.{resync_items_part_more}
use Rattle.swd_port.specs.declared.select.Select.{Select}
use Rattle.swd_observer.specs.declared.trace.TraceObserver.{TraceObserver}
use Rattle.swd_observer.specs.Traces.{trace_observer_step, trace_observer_after, trace_observer_from, observed_shown_at}
use Rattle.swd_observer.specs.declared.trace.TraceStart.{TraceStart}
use Rattle.swd_capture.specs.Accesses.{observer_text_of_items, observer_text_shown, observer_text_reported}
use Rattle.swd_observer.specs.Observing.{observed_last_accesses}
use Rattle.swd_capture.proofs.AccessLemmas.{observer_text_joins, observer_text_after_join}
use Rattle.swd_capture.specs.declared.printed.LineForm.{LineForm}
use Rattle.swd_capture.specs.declared.printed.Printed.{Printed}
use Rattle.swd_capture.specs.declared.printed.Printed.TheVariants.{Lines, Counts, Accesses}
use Rattle.swd_capture.specs.Places.{capture_place_behind}
use Rattle.swd_capture.specs.Gaps.{CaptureRun, capture_run_none, capture_run_items, capture_run_after, capture_due_at}
use Rattle.swd_capture.specs.Gaps.{capture_run_behind, capture_due, capture_due_items, capture_waiting}
use Rattle.swd_capture.specs.Names.{capture_select_after, capture_select_from, capture_select_behind}
use Rattle.swd_capture.specs.Tables.{capture_part_counted, capture_count_in_row}
use Rattle.swd_capture.specs.Printing.{capture_printed_entry, capture_junk_parts, capture_line_behind}
use Rattle.swd_capture.specs.Printing.{capture_lines_behind, capture_printed_parts}
use Rattle.swd_capture.specs.Printing.{capture_end_row_printed}

-- one more part, and the place behind it
pub capture_place_more : (parts : List Part) (part : Part)
    → capture_place_behind (resync_items (parts ++ part ∷ []))
    ≡ min (capture_place_behind (resync_items parts) + length (bits_of_items (resync_part_items part)))
    (2 ^ 64 - 1)
capture_place_more parts part =
    let e : length (bits_of_items (resync_items (parts ++ part ∷ [])))
    ≡ length (bits_of_items (resync_items parts)) + length (bits_of_items (resync_part_items part)) =
    ap (λ i. length (bits_of_items i)) (resync_items_part_more parts part)
    ∙ ap length (item_bits_append (resync_items parts) (resync_part_items part))
    ∙ length-append (bits_of_items (resync_items parts)) (bits_of_items (resync_part_items part)) in
    omega arith

select_join : (select : Option Select) (items others : List Item)
    → capture_select_from select (items ++ others) ≡ capture_select_from (capture_select_from select items) others
select_join select [] others = refl
select_join select (i ∷ items) others = select_join (capture_select_after select i) items others

-- and what is known of SELECT
pub capture_select_more : (parts : List Part) (part : Part)
    → capture_select_behind (resync_items (parts ++ part ∷ []))
    ≡ capture_select_from (capture_select_behind (resync_items parts)) (resync_part_items part)
capture_select_more parts part =
    ap capture_select_behind (resync_items_part_more parts part) ∙ select_join _ (resync_items parts)
    (resync_part_items part)

forgotten : (n : ℕ) → capture_select_from None (replicate n (Junk false)) ≡ None
forgotten zero = refl
forgotten (suc n) = forgotten n

-- behind a skip it is unknown
pub capture_select_at_skip : (n : ℕ) (select : Option Select) → 0 < n
    → capture_select_from select (replicate n (Junk false)) ≡ None
capture_select_at_skip zero select h = absurd (omega arith)
capture_select_at_skip (suc n) select h = forgotten n

-- and what is due
due_more : (run : CaptureRun) (parts : List Part) (part : Part)
    → capture_due run (parts ++ part ∷ []) ≡ capture_due run parts
    ++ capture_due_at (capture_run_behind run parts) part
due_more run [] part = append-nil (capture_due_at run part)
due_more run (p ∷ parts) part =
    ap (λ x. capture_due_at run p ++ x) (due_more (capture_run_after run p) parts part)
    ∙ sym (append_assoc (capture_due_at run p) (capture_due (capture_run_after run p) parts)
    (capture_due_at (capture_run_behind (capture_run_after run p) parts) part))

run_more : (run : CaptureRun) (parts : List Part) (part : Part)
    → capture_run_behind run (parts ++ part ∷ []) ≡ capture_run_after (capture_run_behind run parts) part
run_more run [] part = refl
run_more run (p ∷ parts) part = run_more (capture_run_after run p) parts part

-- of the first parts of a capture
pub capture_due_items_more : (parts : List Part) (part : Part) → capture_due_items (parts ++ part ∷ [])
    ≡ capture_due_items parts ++ capture_due_at (capture_waiting parts) part
capture_due_items_more parts part = due_more capture_run_none parts part

-- what waits after one part more
pub capture_waiting_more : (parts : List Part) (part : Part)
    → capture_waiting (parts ++ part ∷ []) ≡ capture_run_after (capture_waiting parts) part
capture_waiting_more parts part = run_more capture_run_none parts part

-- and the observer
pub capture_observer_more : (start : TraceStart) (parts : List Part) (part : Part)
    → trace_observer_after (capture_due_items (parts ++ part ∷ [])) (trace_observer_from start)
    ≡ trace_observer_after (capture_due_at (capture_waiting parts) part)
    (trace_observer_after (capture_due_items parts) (trace_observer_from start))
capture_observer_more start parts part =
    ap (λ i. trace_observer_after i (trace_observer_from start)) (due_more capture_run_none parts part)
    ∙ observer_text_after_join (capture_due_items parts) (capture_due_at (capture_waiting parts) part)
    (trace_observer_from start)

-- and what is counted in a row
pub capture_count_more : (row : ℕ) (parts : List Part) (part : Part)
    → capture_count_in_row row (parts ++ part ∷ []) ≡ capture_count_in_row row parts + capture_part_counted row part
capture_count_more row [] part = omega arith
capture_count_more row (p ∷ parts) part = let e = capture_count_more row parts part in omega arith

lines_more : (form : LineForm) (before parts : List Part) (part : Part)
    → capture_lines_behind form before (parts ++ part ∷ [])
    ≡ capture_lines_behind form before parts ++ capture_line_behind form (resync_items (before ++ parts)) part
lines_more form before [] part = append-nil (capture_line_behind form (resync_items before) part)
    ∙ ap (λ b. capture_line_behind form (resync_items b) part) (sym (append-nil before))
lines_more form before (p ∷ parts) part =
    ap (λ x. capture_line_behind form (resync_items before) p ++ x)
    (lines_more form (before ++ p ∷ []) parts part) ∙ ap
    (λ b. capture_line_behind form (resync_items before) p
    ++ (capture_lines_behind form (before ++ p ∷ []) parts ++ capture_line_behind form (resync_items b) part))
    (append_assoc before (p ∷ []) parts)
    ∙ sym (append_assoc (capture_line_behind form (resync_items before) p)
    (capture_lines_behind form (before ++ p ∷ []) parts)
    (capture_line_behind form (resync_items (before ++ p ∷ parts)) part))

-- and what is told
pub capture_printed_more : (printed : Printed) (parts : List Part) (part : Part)
    → capture_printed_parts printed (parts ++ part ∷ []) ≡ capture_printed_parts printed parts
    ++ capture_printed_entry printed parts part
capture_printed_more (Lines form) parts part = lines_more form [] parts part
capture_printed_more Counts parts part = refl
capture_printed_more (Accesses start) parts part =
    ap (λ i. observer_text_of_items i (trace_observer_from start)) (due_more capture_run_none parts part)
    ∙ observer_text_joins (capture_due_items parts) (capture_due_at (capture_waiting parts) part)
    (trace_observer_from start)

-- the output for no parts is empty
pub capture_printed_none : (printed : Printed) → capture_printed_parts printed [] ≡ []
capture_printed_none (Lines form) = refl
capture_printed_none Counts = refl
capture_printed_none (Accesses start) = refl

-- ---- junk bits at once

-- junk bits as items, whatever comes before
items_of_junk : (parts : List Part) (bits : List Bool)
    → resync_items (parts ++ capture_junk_parts bits) ≡ resync_items parts ++ map Junk bits
items_of_junk [] [] = refl
items_of_junk [] (b ∷ bits) = ap (λ x. Junk b ∷ x) (items_of_junk [] bits)
items_of_junk (p ∷ parts) bits =
    ap (λ x. resync_part_items p ++ x) (items_of_junk parts bits)
    ∙ sym (append_assoc (resync_part_items p) (resync_items parts) (map Junk bits))

any_junk_forgets : (bits : List Bool) (select : Option Select)
    → capture_select_from select (map Junk bits) ≡ capture_select_from select (replicate (length bits) (Junk false))
any_junk_forgets [] select = refl
any_junk_forgets (b ∷ bits) select = any_junk_forgets bits None

-- what is known of SELECT behind junk bits, as behind a skip
pub capture_select_at_junk : (parts : List Part) (bits : List Bool) (n : ℕ) → length bits ≡ n
    → capture_select_behind (resync_items (parts ++ capture_junk_parts bits))
    ≡ capture_select_from (capture_select_behind (resync_items parts)) (replicate n (Junk false))
capture_select_at_junk parts bits n e =
    let before = capture_select_behind (resync_items parts) in
    ap capture_select_behind (items_of_junk parts bits) ∙ select_join _ (resync_items parts) (map Junk bits)
    ∙ any_junk_forgets bits before ∙ ap (λ n. capture_select_from before (replicate n (Junk false))) e

-- an observer takes each junk bit alike
after_any_junk : (bits : List Bool) (t : TraceObserver)
    → trace_observer_after (map Junk bits) t ≡ trace_observer_after (replicate (length bits) (Junk false)) t
after_any_junk [] t = refl
after_any_junk (b ∷ bits) t = after_any_junk bits (trace_observer_step (Junk b) t)

any_junk_shows : (bits : List Bool) (t : TraceObserver)
    → observer_text_of_items (map Junk bits) t ≡ observer_text_of_items (replicate (length bits) (Junk false)) t
any_junk_shows [] t = refl
any_junk_shows (b ∷ bits) t =
    ap (λ x. observer_text_shown (observed_shown_at (Junk b) t) ++ x)
    (any_junk_shows bits (trace_observer_step (Junk b) t))

junk_alone : (bits : List Bool) → capture_due capture_run_none (capture_junk_parts bits) ≡ map Junk bits
junk_alone [] = refl
junk_alone (b ∷ bits) = ap (λ x. Junk b ∷ x) (junk_alone bits)

junk_waits : (bits : List Bool) → capture_run_behind capture_run_none (capture_junk_parts bits) ≡ capture_run_none
junk_waits [] = refl
junk_waits (b ∷ bits) = junk_waits bits

due_join : (run : CaptureRun) (parts others : List Part) → capture_due run (parts ++ others)
    ≡ capture_due run parts ++ capture_due (capture_run_behind run parts) others
due_join run [] others = refl
due_join run (p ∷ parts) others =
    ap (λ x. capture_due_at run p ++ x) (due_join (capture_run_after run p) parts others)
    ∙ sym (append_assoc (capture_due_at run p) (capture_due (capture_run_after run p) parts)
    (capture_due (capture_run_behind (capture_run_after run p) parts) others))

run_join : (run : CaptureRun) (parts others : List Part) → capture_run_behind run (parts ++ others)
    ≡ capture_run_behind (capture_run_behind run parts) others
run_join run [] others = refl
run_join run (p ∷ parts) others = run_join (capture_run_after run p) parts others

first_junk : (run : CaptureRun) (b : Bool) (bits : List Bool) → capture_due run (capture_junk_parts (b ∷ bits))
    ≡ capture_run_items run ++ map Junk (b ∷ bits)
first_junk run b bits =
    ap (λ x. (capture_run_items run ++ Junk b ∷ []) ++ x) (junk_alone bits)
    ∙ append_assoc (capture_run_items run) (Junk b ∷ []) (map Junk bits)

-- nothing waits behind junk bits
pub capture_waiting_at_junk : (parts : List Part) (bits : List Bool) → 0 < length bits
    → capture_waiting (parts ++ capture_junk_parts bits) ≡ capture_run_none
capture_waiting_at_junk parts [] h = absurd (omega arith)
capture_waiting_at_junk parts (b ∷ bits) h =
    run_join capture_run_none parts (capture_junk_parts (b ∷ bits)) ∙ junk_waits bits

due_at_junk : (parts : List Part) (bits : List Bool) → 0 < length bits
    → capture_due_items (parts ++ capture_junk_parts bits)
    ≡ capture_due_items parts ++ (capture_run_items (capture_waiting parts) ++ map Junk bits)
due_at_junk parts [] h = absurd (omega arith)
due_at_junk parts (b ∷ bits) h =
    due_join capture_run_none parts (capture_junk_parts (b ∷ bits))
    ∙ ap (λ x. capture_due_items parts ++ x) (first_junk (capture_waiting parts) b bits)

-- the observer behind junk bits, as behind a skip that nothing belongs to
pub capture_observer_at_junk : (start : TraceStart) (parts : List Part) (bits : List Bool) (n : ℕ) → length bits ≡ n
    → 0 < n → trace_observer_after (capture_due_items (parts ++ capture_junk_parts bits)) (trace_observer_from start)
    ≡ trace_observer_after (replicate n (Junk false))
    (trace_observer_after (capture_run_items (capture_waiting parts))
    (trace_observer_after (capture_due_items parts) (trace_observer_from start)))
capture_observer_at_junk start parts bits n e some =
    let before = trace_observer_after (capture_due_items parts) (trace_observer_from start) in
    let waited = trace_observer_after (capture_run_items (capture_waiting parts)) before in
    ap (λ i. trace_observer_after i (trace_observer_from start)) (due_at_junk parts bits (omega arith))
    ∙ observer_text_after_join (capture_due_items parts) (capture_run_items (capture_waiting parts) ++ map Junk bits)
    (trace_observer_from start)
    ∙ observer_text_after_join (capture_run_items (capture_waiting parts)) (map Junk bits) before
    ∙ after_any_junk bits waited ∙ ap (λ n. trace_observer_after (replicate n (Junk false)) waited) e

-- and what they show
pub capture_accesses_at_junk : (start : TraceStart) (parts : List Part) (bits : List Bool) (n : ℕ) → length bits ≡ n
    → 0 < n → observer_text_of_items (capture_due_items (parts ++ capture_junk_parts bits)) (trace_observer_from start)
    ≡ observer_text_of_items (capture_due_items parts) (trace_observer_from start)
    ++ (observer_text_of_items (capture_run_items (capture_waiting parts))
    (trace_observer_after (capture_due_items parts) (trace_observer_from start))
    ++ observer_text_of_items (replicate n (Junk false))
    (trace_observer_after (capture_run_items (capture_waiting parts))
    (trace_observer_after (capture_due_items parts) (trace_observer_from start))))
capture_accesses_at_junk start parts bits n e some =
    let before = trace_observer_after (capture_due_items parts) (trace_observer_from start) in
    let waits = capture_run_items (capture_waiting parts) in
    let waited = trace_observer_after waits before in
    ap (λ i. observer_text_of_items i (trace_observer_from start)) (due_at_junk parts bits (omega arith))
    ∙ observer_text_joins (capture_due_items parts) (waits ++ map Junk bits) (trace_observer_from start)
    ∙ ap (λ x. observer_text_of_items (capture_due_items parts) (trace_observer_from start) ++ x)
    (observer_text_joins waits (map Junk bits) before
    ∙ ap (λ x. observer_text_of_items waits before ++ x)
    (any_junk_shows bits waited ∙ ap (λ n. observer_text_of_items (replicate n (Junk false)) waited) e))

-- ---- the count of junk bits

count_join : (row : ℕ) (parts others : List Part)
    → capture_count_in_row row (parts ++ others) ≡ capture_count_in_row row parts + capture_count_in_row row others
count_join row [] others = omega arith
count_join row (p ∷ parts) others = let h = count_join row parts others in omega arith

abbrev one_if : Bool → ℕ → ℕ
one_if t n = if t then n else 0

none_or_none : (t : Bool) → one_if t 0 ≡ 0
none_or_none true = refl
none_or_none false = refl

one_more_if : (t : Bool) (n : ℕ) → one_if t 1 + one_if t n ≡ one_if t (suc n)
one_more_if true n = omega arith
one_more_if false n = omega arith

junk_count : (row : ℕ) (bits : List Bool) → capture_count_in_row row (capture_junk_parts bits)
    ≡ one_if (83 == row) (length bits)
junk_count row [] = sym (none_or_none (83 == row))
junk_count row (b ∷ bits) =
    ap (λ n. one_if (83 == row) 1 + n) (junk_count row bits) ∙ one_more_if (83 == row) (length bits)

-- junk bits more are counted in their row
pub capture_count_at_junk : (row : ℕ) (parts : List Part) (bits : List Bool) (n : ℕ) → length bits ≡ n
    → capture_count_in_row row (parts ++ capture_junk_parts bits) ≡ capture_count_in_row row parts
    + (if 83 == row then n else 0)
capture_count_at_junk row parts bits n e =
    count_join row parts (capture_junk_parts bits)
    ∙ ap (λ m. capture_count_in_row row parts + m) (junk_count row bits ∙ ap (one_if (83 == row)) e)

-- the row of the accesses that nothing confirms
pub capture_later_row : (start : TraceStart) (parts : List Part) (row : ℕ) → (row ≡ 0 → ⊥)
    → capture_end_row_printed (Accesses start) parts row
    ≡ observer_text_reported (observed_last_accesses (trace_observer_after (capture_run_items (capture_waiting parts))
    (trace_observer_after (capture_due_items parts) (trace_observer_from start))).observer)
capture_later_row start parts zero n = absurd (n refl)
capture_later_row start parts (suc row) n = refl
