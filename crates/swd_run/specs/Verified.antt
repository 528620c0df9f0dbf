-- Compares read words with those that a script expects, and finds bus errors.
use Rattle.std.specs.Prelude.{◌==◌, ◌||◌, nat_lt, Bool, true, false, List, [], ◌∷◌, length, get_or, Option, Some, None}
use Rattle.std.specs.Prelude.{if◌then◌else◌}
use Rattle.swd_port.specs.declared.access.Answer.{Answer}
use Rattle.swd_port.specs.declared.access.Answer.TheVariants.{Value, Written, BusFault}
use Rattle.swd_script.specs.declared.batch.Expected.{Expected}
use Rattle.swd_script.specs.Scripts.{ScriptListed}
use Rattle.swd_run.specs.declared.verified.Difference.{Difference}
use Rattle.swd_run.specs.Sessions.{ScriptRun}

-- the difference of a read with this answer
abbrev pub verify_difference : Expected → Answer → Difference
verify_difference read answer = record { line = read.line; addr = read.addr; expected = read.word; found = answer }

-- the difference, if the answer isn't the expected word
abbrev pub verify_read_differs : Expected → Answer → Option Difference
verify_read_differs read (Value word) = if word == read.word then None else Some (verify_difference read (Value word))
verify_read_differs read Written = Some (verify_difference read Written)
verify_read_differs read BusFault = Some (verify_difference read BusFault)

-- the same for a read that may not be answered: without an answer there is no difference
abbrev pub verify_read_differs_in : List Answer → Expected → Option Difference
verify_read_differs_in answers read =
    if nat_lt read.place (length answers) then verify_read_differs read (get_or answers read.place BusFault) else None

abbrev pub verify_or_else : Option Difference → Option Difference → Option Difference
verify_or_else (Some found) later = Some found
verify_or_else None later = later

-- the first difference of a call
abbrev pub verify_difference_in : List Expected → List Answer → Option Difference
verify_difference_in [] answers = None
verify_difference_in (read ∷ reads) answers =
    verify_or_else (verify_read_differs_in answers read) (verify_difference_in reads answers)

-- the first difference of all calls
abbrev pub first_difference : List ScriptListed → List ScriptRun → Option Difference
first_difference [] runs = None
first_difference (batch ∷ batches) [] = None
first_difference (batch ∷ batches) (run ∷ runs) =
    verify_or_else (verify_difference_in batch.expected run.told.answers) (first_difference batches runs)

-- BUS ERRORS
abbrev pub report_is_bus_fault : Answer → Bool
report_is_bus_fault BusFault = true
report_is_bus_fault answer = false

-- one of these answers is a bus error
abbrev pub report_has_bus_fault : List Answer → Bool
report_has_bus_fault [] = false
report_has_bus_fault (answer ∷ answers) = report_is_bus_fault answer || report_has_bus_fault answers

-- one of the answers of all calls is a bus error
abbrev pub runs_met_bus_fault : List ScriptRun → Bool
runs_met_bus_fault [] = false
runs_met_bus_fault (run ∷ runs) = report_has_bus_fault run.told.answers || runs_met_bus_fault runs
