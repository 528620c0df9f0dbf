-- What the page's numbers mean.
use Rattle.std.specs.Prelude.{ℕ, ◌==◌, true, false, List, take, if◌then◌else◌, Result, Ok, Err}
use Rattle.swd_text.specs.declared.fault.TextFault.TheVariants.{BadChar, TooLong}
use Rattle.swd_text.specs.declared.fault.DecodeFault.{DecodeFault}
use Rattle.swd_text.specs.declared.fault.DecodeFault.TheVariants.{Text, Read, Write}
use Rattle.swd_capture.specs.declared.printed.Printed.{Printed}
use Rattle.swd_capture.specs.declared.printed.Printed.TheVariants.{Lines, Accesses}
use Rattle.swd_observer.specs.declared.trace.TraceStart.TheVariants.{Any, Made}
use Rattle.swd_capture_text.specs.declared.reading.Reading.{Reading}
use Rattle.swd_capture_text.specs.declared.reading.Reading.TheVariants.{Trace, Capture}
use Rattle.swd_page.specs.declared.page.SwdPage.{SwdPage}

-- the text of a page
abbrev pub page_text : SwdPage → List ℕ
page_text page = take page.len page.bytes

-- how a trace file is read
abbrev pub page_reading : ℕ → Reading
page_reading number = if number == 0 then Trace else if number == 1 then Capture false else Capture true

-- what is printed of it
abbrev pub page_printed : ℕ → Printed
page_printed number = if number == 0 then Lines (record { places = true; names = false })
    else if number == 1 then Accesses Any else Accesses Made

-- how its text ended
abbrev pub page_outcome : ℕ → ℕ → Result (Unit {0}) DecodeFault
page_outcome kind number = if kind == 0 then Ok tt else if kind == 1 then Err (Text (BadChar number))
    else if kind == 2 then Err (Text TooLong) else if kind == 3 then Err (Write number) else Err Read
