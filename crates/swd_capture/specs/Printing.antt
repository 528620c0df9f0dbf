-- The output for the parts of a capture. A trace is a capture whose parts are its items. The text is this project's
-- choice.
use Rattle.std.specs.Prelude.{ℕ, zero, suc, Bool, true, false, List, [], ◌∷◌, ◌++◌, map, Option}
use Rattle.swd_bits.specs.Listing.{tx_line_port, tx_line_direction, tx_line_outcome}
use Rattle.swd_bits.specs.declared.tx.Tx.{Tx as Transaction}
use Rattle.swd_trace.specs.declared.item.Item.{Item}
use Rattle.swd_trace.specs.declared.item.Item.TheVariants.{Tx, Junk}
use Rattle.swd_trace.specs.Texts.{item_line}
use Rattle.swd_resync.specs.declared.part.Part.{Part}
use Rattle.swd_resync.specs.declared.part.Part.TheVariants.{Item as Told, Phased, Skip}
use Rattle.swd_resync.specs.PartTexts.{resync_part_line}
use Rattle.swd_resync.specs.AsItems.{resync_items}
use Rattle.swd_capture.specs.Gaps.{capture_due_at, capture_due_items, capture_run_items, capture_waiting}
use Rattle.swd_port.specs.declared.select.Select.{Select}
use Rattle.swd_observer.specs.Observing.{observed_last_accesses}
use Rattle.swd_observer.specs.Traces.{trace_observer_after, trace_observer_from}
use Rattle.swd_capture.specs.Accesses.{observer_text_of_items, observer_text_reported}
use Rattle.swd_capture.specs.declared.printed.Printed.{Printed}
use Rattle.swd_capture.specs.declared.printed.Printed.TheVariants.{Lines, Counts, Accesses}
use Rattle.swd_capture.specs.declared.printed.LineForm.{LineForm}
use Rattle.swd_capture.specs.Places.{capture_place_behind, capture_place_prefix}
use Rattle.swd_capture.specs.Names.{capture_register_name, capture_select_behind}
use Rattle.swd_capture.specs.Flags.{capture_flagged_register, capture_tx_flags}
use Rattle.swd_capture.specs.Tables.{capture_row_printed}

-- a transaction's line with the register's name, and the flags of its word
abbrev pub capture_named_tx : Option Select → Transaction → List ℕ
capture_named_tx select tx = tx_line_port tx.request.ap ++ capture_register_name select tx.request
    ++ (tx_line_direction tx.request.read ++ tx_line_outcome tx.result)
    ++ capture_tx_flags (capture_flagged_register select tx.request) tx.result

abbrev pub capture_named_line : Option Select → Item → List ℕ
capture_named_line select (Tx tx) = capture_named_tx select tx
capture_named_line select item = item_line item

-- the place, if lines begin with it
abbrev pub capture_place_if : Bool → ℕ → List ℕ
capture_place_if true place = capture_place_prefix place
capture_place_if false place = []

-- the line of the listing, or the one with the register's name
abbrev pub capture_line_if : Bool → Option Select → Item → List ℕ
capture_line_if true select item = capture_named_line select item
capture_line_if false select item = item_line item

-- a part's line without its place
abbrev pub capture_part_line : Bool → Option Select → Part → List ℕ
capture_part_line names select (Told item) = capture_line_if names select item
capture_part_line names select (Phased tx) = capture_line_if names select (Tx tx)
capture_part_line names select (Skip n) = resync_part_line (Skip n)

-- the line of a part after these items, and its line feed
abbrev pub capture_line_behind : LineForm → List Item → Part → List ℕ
capture_line_behind form before part = capture_place_if form.places (capture_place_behind before)
    ++ capture_part_line form.names (capture_select_behind before) part ++ 10 ∷ []

-- the lines of parts after others
abbrev pub capture_lines_behind : LineForm → List Part → List Part → List ℕ
capture_lines_behind form before [] = []
capture_lines_behind form before (part ∷ parts) =
    capture_line_behind form (resync_items before) part
    ++ capture_lines_behind form (before ++ part ∷ []) parts

-- the output for a part after others, which is due as soon as the part is decided
abbrev pub capture_printed_entry : Printed → List Part → Part → List ℕ
capture_printed_entry (Lines form) before part = capture_line_behind form (resync_items before) part
capture_printed_entry Counts before part = []
capture_printed_entry (Accesses start) before part =
    observer_text_of_items (capture_due_at (capture_waiting before) part)
    (trace_observer_after (capture_due_items before) (trace_observer_from start))

-- The output for the first parts of a capture, while more may follow. Places and SELECT are those of a trace with the
-- items that the parts are, accesses those of a trace with the items that they count as for accesses.
abbrev pub capture_printed_parts : Printed → List Part → List ℕ
capture_printed_parts (Lines form) parts = capture_lines_behind form [] parts
capture_printed_parts Counts parts = []
capture_printed_parts (Accesses start) parts =
    observer_text_of_items (capture_due_items parts) (trace_observer_from start)

-- junk bits as parts
abbrev pub capture_junk_parts : List Bool → List Part
capture_junk_parts bits = map Told (map Junk bits)

-- the number of rows at the end: those of a table, or one for what waits, and one for the lines of the accesses that
-- nothing confirms
abbrev pub capture_row_count : Printed → ℕ
capture_row_count (Lines form) = 0
capture_row_count Counts = 86
capture_row_count (Accesses start) = 2

abbrev pub capture_end_row_printed : Printed → List Part → ℕ → List ℕ
capture_end_row_printed (Lines form) parts row = []
capture_end_row_printed Counts parts row = capture_row_printed parts row
capture_end_row_printed (Accesses start) parts zero =
    observer_text_of_items (capture_run_items (capture_waiting parts))
    (trace_observer_after (capture_due_items parts) (trace_observer_from start))
capture_end_row_printed (Accesses start) parts (suc row) =
    observer_text_reported (observed_last_accesses (trace_observer_after (capture_run_items (capture_waiting parts))
    (trace_observer_after (capture_due_items parts) (trace_observer_from start))).observer)

-- the first `n` of these rows
abbrev pub capture_end_rows_printed : Printed → List Part → ℕ → List ℕ
capture_end_rows_printed printed parts zero = []
capture_end_rows_printed printed parts (suc n) =
    capture_end_rows_printed printed parts n ++ capture_end_row_printed printed parts n

-- the output for a whole capture
abbrev pub capture_printout : Printed → List Part → List ℕ
capture_printout printed parts = capture_printed_parts printed parts
    ++ capture_end_rows_printed printed parts (capture_row_count printed)
