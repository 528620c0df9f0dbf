-- What is written for a trace text that is to be printed.
use Rattle.std.specs.Prelude.{◌≡◌, ℕ, ◌^◌, ◌<◌, Bool, List, length, Option, Result, map, if◌then◌else◌}
use Rattle.swd_trace.specs.declared.item.Item.{Item}
use Rattle.swd_trace.specs.Reading.{reading_of}
use Rattle.swd_trace.specs.Texts.{bits_of_items, trace_text}
use Rattle.swd_resync.specs.declared.part.Part.{Part}
use Rattle.swd_resync.specs.declared.part.Part.TheVariants.{Item as Told}
use Rattle.swd_observer.specs.declared.trace.TraceStart.{TraceStart}
use Rattle.swd_observer.specs.declared.trace.TraceStart.TheVariants.{Any, Made}
use Rattle.swd_text.specs.Outputs.{TextWrites}
use Rattle.swd_text.specs.TextBits.{TextBitsAre, TextBitsBefore, TextBitsSoFar}
use Rattle.swd_text.specs.declared.fault.TextFault.{TextFault}
use Rattle.swd_text.specs.declared.fault.DecodeFault.{DecodeFault}
use Rattle.swd_capture.specs.declared.printed.Printed.{Printed}
use Rattle.swd_capture.specs.declared.printed.Printed.TheVariants.{Accesses}
use Rattle.swd_capture.specs.Printing.{capture_printed_parts, capture_printout}
use Rattle.swd_capture_text.specs.declared.accesses_printer.AccessesPrinter.{AccessesPrinter}
use Rattle.swd_capture_text.specs.declared.reading.Reading.{Reading}
use Rattle.swd_capture_text.specs.declared.reading.Reading.TheVariants.{Trace}
use Rattle.swd_capture_text.specs.Readings.{SourceDecides, SourceReadsAs}

-- the text has fewer than 2^64 bits, and they decide these parts
abbrev pub CaptureTextDecides : Reading → List ℕ → List Part → Type 0
CaptureTextDecides reading text parts = TextBitsAre (λ bits. SourceDecides reading bits parts) text

-- the text has fewer than 2^64 bits, and these are their parts
abbrev pub CaptureTextReadsAs : Reading → List ℕ → List Part → Type 0
CaptureTextReadsAs reading text parts = TextBitsAre (λ bits. SourceReadsAs reading bits parts) text

-- the text is invalid at some byte, and the parts are those decided before it
abbrev pub CaptureTextStopsWith : Reading → TextFault → List Part → List ℕ → Type 0
CaptureTextStopsWith reading fault parts text = TextBitsBefore (λ bits. SourceDecides reading bits parts) fault text

-- the parts of what was read of a text: those that it decides, or if it is invalid, those decided before its first
-- invalid byte
abbrev pub CaptureTextIsDue : Reading → List ℕ → List Part → Type 0
CaptureTextIsDue reading text parts = TextBitsSoFar (λ bits. SourceDecides reading bits parts) text

-- What a result says of the reader's text, if its bytes are known, and of what is left of it. Also what the writer
-- holds before and after: the output of the parts that the bits decide, or at the end of the text all output.
abbrev pub Prints : Reading → Printed → Result (Unit {0}) DecodeFault → Option (List ℕ) → Option (List ℕ)
    → Option (List ℕ) → Option (List ℕ) → Type 0
Prints reading printed =
    TextWrites (SourceDecides reading) (SourceReadsAs reading) (capture_printed_parts printed)
    (capture_printout printed)

-- the output for the items of a whole trace
abbrev pub print_items_output : Printed → List Item → List ℕ
print_items_output printed items = capture_printout printed (map Told items)

-- what is known of the target at first: its reset state, or nothing
abbrev pub accesses_start : Bool → TraceStart
accesses_start made = if made then Made else Any

-- the lines of the accesses that items show, as `swd decode --accesses` prints them; with `made` as with `--made`
abbrev pub accesses_text : Bool → List Item → List ℕ
accesses_text made items = print_items_output (Accesses (accesses_start made)) items

abbrev pub accesses_printed : AccessesPrinter → List Item → List ℕ
accesses_printed printer items = accesses_text printer.made items

-- The text of a trace is read as its items, if these are what their bits are read as. So what is printed of that text
-- is the output for the items.
abbrev pub CaptureTextsAreRead : Type 0
CaptureTextsAreRead = (items : List Item) → reading_of (bits_of_items items) ≡ items
    → length (bits_of_items items) < 2 ^ 64 → CaptureTextReadsAs Trace (trace_text items) (map Told items)
