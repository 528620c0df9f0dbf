-- What `swd one`, `swd encode`, `swd decode`, `swd draw` and `swd check` do with their input.
use Rattle.std.specs.Prelude.{◌≡◌, ◌≢◌, ◌⊎◌, ◌||◌, ℕ, Bool, List, [], Option, None, Some, Result, Ok, Err, is_ok}
use Rattle.std.specs.Prelude.{if◌then◌else◌}
use Rattle.swd_bits.specs.One.{AnswersOneTx}
use Rattle.swd_bits.specs.declared.one.OneFault.{OneFault}
use Rattle.swd_text.specs.Decoding.{Decodes}
use Rattle.swd_text.specs.Encoding.{Encodes}
use Rattle.swd_text.specs.declared.fault.DecodeFault.{DecodeFault}
use Rattle.swd_text.specs.declared.fault.EncodeFault.{EncodeFault}
use Rattle.swd_capture.specs.declared.printed.Printed.TheVariants.{Lines, Counts, Accesses}
use Rattle.swd_capture_text.specs.Captures.{Prints}
use Rattle.swd_capture_text.specs.declared.reading.Reading.{Reading}
use Rattle.swd_capture_text.specs.declared.reading.Reading.TheVariants.{Trace, Capture}
use Rattle.swd_draw.specs.Draws.{Draws}
use Rattle.swd_observer.specs.declared.trace.TraceStart.{TraceStart}
use Rattle.swd_observer.specs.declared.trace.TraceStart.TheVariants.{Any as FromAny, Rest as FromRest}
use Rattle.swd_observer.specs.declared.trace.TraceStart.TheVariants.{Made as FromReset}
use Rattle.swd_checker.specs.declared.checker.CheckStart.{CheckStart}
use Rattle.swd_checker.specs.declared.checker.CheckStart.TheVariants.{Made, Rest, Any}
use Rattle.swd_check.specs.Checks.{WritesChecked}
use Rattle.swd_check.specs.Watched.{CheckSays, check_index}
use Rattle.swd_check.specs.declared.checked.Checked.{Checked}
use Rattle.swd_check.specs.declared.checked.Checked.TheVariants.{Fits, Breaks, Crowded, Outside}
use Rattle.swd_conform.specs.declared.run.Stop.{Stop}
use Rattle.swd_command_line.specs.declared.command.CheckLine.{CheckLine}
use Rattle.swd_command_line.specs.declared.command.DecodeLine.{DecodeLine}
use Rattle.swd_command_line.specs.declared.command.DrawLine.{DrawLine}
use Rattle.swd_console.specs.Statuses.{CommandNotOpened, command_status_of}
use Rattle.swd_commands.specs.declared.conversion.Conversion.{Conversion}
use Rattle.swd_commands.specs.declared.conversion.Conversion.TheVariants.{One, Encode, Listing, Print, Draw, Check}

-- a capture by --resync, with data phases after WAIT and FAULT by --overrun
abbrev pub command_capture_reading : Bool → Bool → Reading
command_capture_reading resync over = if resync then Capture over else Trace

-- the state of the target before the first item, on which the accesses depend
abbrev pub decode_command_start : DecodeLine → TraceStart
decode_command_start decode = if decode.made then FromReset else if decode.rest then FromRest else FromAny

-- what is printed: accesses, counts, lines with places or names, or the lines of a capture; otherwise the listing of a
-- trace
abbrev pub decode_command_conversion : DecodeLine → Conversion
decode_command_conversion decode =
    let reading = command_capture_reading decode.resync decode.overrun in
    if decode.accesses then Print reading (Accesses (decode_command_start decode)) else
    if decode.count then Print reading Counts else
    if (decode.places || decode.names) || decode.resync
    then Print reading (Lines (record { places = decode.places; names = decode.names })) else Listing

-- a drawing of so many items, with names of registers or not
abbrev pub draw_command_conversion : DrawLine → Conversion
draw_command_conversion draw =
    Draw (command_capture_reading draw.resync draw.overrun) (record { items = draw.items; names = draw.names })

-- the status by a verdict: 0 if the trace fits, 1 if it breaks a rule, 2 if that isn't decided, or at an error
abbrev pub command_status_of_check : Result Checked DecodeFault → ℕ
command_status_of_check (Ok (Fits items from faults gaps)) = 0
command_status_of_check (Ok (Breaks broken)) = 1
command_status_of_check (Ok (Crowded place)) = 2
command_status_of_check (Ok (Outside place why)) = 2
command_status_of_check (Err fault) = 2

-- 0 if nothing stopped a conformance run, else 2
abbrev command_status_of_stop : Option Stop → ℕ
command_status_of_stop None = 0
command_status_of_stop (Some stop) = 2

-- The same of a conformance run: 2 if the port answered no request, so that nothing was checked, 1 if a transfer
-- without memory was no bus error, and 2 if the run ended early.
abbrev pub command_status_of_conform : Bool → Bool → Option Stop → Checked → ℕ
command_status_of_conform answered unrefused stop (Fits items from faults gaps) =
    if answered then (if unrefused then 1 else command_status_of_stop stop) else 2
command_status_of_conform answered unrefused stop checked = command_status_of_check (Ok checked)

-- the state of the target before the first item
abbrev pub command_check_start : CheckLine → CheckStart
command_check_start check = if check.made then Made else if check.rest then Rest else Any

-- The verdict on a trace, or on a capture, is written as the engine's contract says, and the status is the verdict's.
-- Where it is that a rule is broken, no run of the port model shows the items up to the one that the line names.
-- Or there is no memory for the words of plain memory: status 2, and nothing is read or written.
abbrev pub ChecksCommandInput : CheckLine → ℕ → Option (List ℕ) → Option (List ℕ) → Option (List ℕ) → Option (List ℕ)
    → Type 0
ChecksCommandInput check status text left old new =
    ((answer : Result Checked DecodeFault)
    × WritesChecked (command_capture_reading (check.resync || check.overrun) check.overrun)
    (CheckSays (check_index (command_check_start check) check.clean)) answer text left old new
    × (status ≡ command_status_of_check answer))
    ⊎ ((check.plain.items ≢ []) × CommandNotOpened status old new)

-- An input is read and an output written as the engine's contract says. The status is 0, or 2 at an error.
abbrev pub ConvertsCommandInput : Conversion → ℕ → Option (List ℕ) → Option (List ℕ) → Option (List ℕ) → Option (List ℕ)
    → Type 0
ConvertsCommandInput One status text left old new =
    (answer : Result (Unit {0}) OneFault) × AnswersOneTx answer text old new
    × (status ≡ command_status_of (is_ok answer))
ConvertsCommandInput Encode status text left old new =
    (answer : Result (Unit {0}) EncodeFault) × Encodes answer text old new × (status ≡ command_status_of (is_ok answer))
ConvertsCommandInput Listing status text left old new =
    (answer : Result (Unit {0}) DecodeFault) × Decodes answer text left old new
    × (status ≡ command_status_of (is_ok answer))
ConvertsCommandInput (Print reading printed) status text left old new =
    (answer : Result (Unit {0}) DecodeFault) × Prints reading printed answer text left old new
    × (status ≡ command_status_of (is_ok answer))
ConvertsCommandInput (Draw reading form) status text left old new =
    (answer : Result (Unit {0}) DecodeFault) × Draws reading form answer text left old new
    × (status ≡ command_status_of (is_ok answer))
ConvertsCommandInput (Check check) status text left old new = ChecksCommandInput check.now status text left old new
