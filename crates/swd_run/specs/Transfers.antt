-- The report of a run beside the accesses that an observer of the wire reports: the same transfers.
use Rattle.std.specs.Prelude.{◌≡◌, Bool, true, false, List, [], ◌∷◌, ◌++◌, map, if◌then◌else◌, is_some, unwrap_or}
use Rattle.swd_port.specs.declared.access.Access.{Access}
use Rattle.swd_port.specs.declared.access.Access.TheVariants.{Read, Write}
use Rattle.swd_port.specs.declared.access.Answer.{Answer}
use Rattle.swd_port.specs.declared.access.Answer.TheVariants.{Written, Value}
use Rattle.swd_port.specs.declared.access.Transfer.{Transfer}
use Rattle.swd_port.specs.Port.{Port}
use Rattle.swd_observer.specs.declared.told.ObservedAccess.{ObservedAccess}
use Rattle.swd_observer.specs.declared.told.How.{How}
use Rattle.swd_observer.specs.declared.told.How.TheVariants.{Took}
use Rattle.swd_observer.specs.Explained.{ObservedLog, ObservedMatches}
use Rattle.swd_observer.specs.Runs.{Accounted}
use Rattle.swd_observer.specs.Sure.{AreObservedSure}
use Rattle.swd_host.specs.declared.outcome.End.TheVariants.{All}
use Rattle.swd_host.specs.Reports.{IsAtRest}
use Rattle.swd_host.specs.Sessions.{HostSession}
use Rattle.swd_script.specs.Scripts.{ScriptListed}
use Rattle.swd_run.specs.Sessions.{ScriptRun}

-- THE REPORT'S TRANSFERS
-- the transfer of an access with this answer; a bus error is none
abbrev pub report_transfer_by : Access → Answer → List Transfer
report_transfer_by (Read at) (Value word) = record { read = true; addr = at; word = word } ∷ []
report_transfer_by (Write at word) Written = record { read = false; addr = at; word = word } ∷ []
report_transfer_by a answer = []

-- those of a list, in order
abbrev pub report_transfers_by : List Access → List Answer → List Transfer
report_transfers_by [] answers = []
report_transfers_by (a ∷ list) [] = []
report_transfers_by (a ∷ list) (answer ∷ answers) = report_transfer_by a answer ++ report_transfers_by list answers

-- all accesses of successive calls, and all answers to them
abbrev pub report_accesses_in : List ScriptListed → List Access
report_accesses_in [] = []
report_accesses_in (batch ∷ batches) = batch.accesses ++ report_accesses_in batches

abbrev pub report_answers_in : List ScriptRun → List Answer
report_answers_in [] = []
report_answers_in (run ∷ runs) = run.told.answers ++ report_answers_in runs

-- the transfers that their reports state
abbrev pub report_transfers_in : List ScriptListed → List ScriptRun → List Transfer
report_transfers_in batches runs = report_transfers_by (report_accesses_in batches) (report_answers_in runs)

-- each call ended `All`, and none was resumed
abbrev pub AreWholeRuns : List ScriptRun → Type 0
AreWholeRuns [] = Unit {0}
AreWholeRuns (run ∷ runs) = (run.stops ≡ []) × (run.told.ended ≡ All) × AreWholeRuns runs

-- THE OBSERVER'S
-- the reported accesses that took effect
abbrev pub report_is_took : How → Bool
report_is_took Took = true
report_is_took how = false

abbrev pub report_taken_in : List ObservedAccess → List ObservedAccess
report_taken_in [] = []
report_taken_in (t ∷ told) = if report_is_took t.how then t ∷ report_taken_in told else report_taken_in told

-- they are these transfers, one by one: each has this direction, and this address and word unless unknown
abbrev pub AreReportTransfers : List ObservedAccess → List Transfer → Type 0
AreReportTransfers [] [] = Unit {0}
AreReportTransfers (t ∷ told) (x ∷ log) = ObservedMatches t x × AreReportTransfers told log
AreReportTransfers told log = ⊥

-- if no access is reported as `May`, those that took effect are the transfers of the log that they explain
abbrev pub ReportSureIsExact : Type 0
ReportSureIsExact = (told : List ObservedAccess) (log : List Transfer) → AreObservedSure told → ObservedLog told log
    → AreReportTransfers (report_taken_in told) log

-- each address and each word is known
abbrev pub AreReportAccessesKnown : List ObservedAccess → Type 0
AreReportAccessesKnown [] = Unit {0}
AreReportAccessesKnown (t ∷ told) = (is_some t.addr ≡ true) × (is_some t.word ≡ true) × AreReportAccessesKnown told

-- what an access with this address and this word is
abbrev pub report_known_transfer : ObservedAccess → Transfer
report_known_transfer t = record { read = t.read; addr = unwrap_or t.addr 0; word = unwrap_or t.word 0 }

-- and if all is known of these, they are equal
abbrev pub ReportKnownIsExact : Type 0
ReportKnownIsExact = (told : List ObservedAccess) (log : List Transfer) → AreObservedSure told
    → AreReportAccessesKnown (report_taken_in told) → ObservedLog told log
    → map report_known_transfer (report_taken_in told) ≡ log

-- THE THEOREM. Let successive runs and blocks over a target at rest each have ended `All`. Then accesses that explain
-- what the memory logged in them explain the transfers of their answers.
abbrev pub ReportExplainsSession : Type 0
ReportExplainsSession = (s : Port) (list : List Access) (answers : List Answer) (t : Port) (told : List ObservedAccess)
    → IsAtRest s
    → HostSession s list answers t → Accounted s.target.memory.log told t
    → ObservedLog told (report_transfers_by list answers)
