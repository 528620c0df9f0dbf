-- The report of a run: a line for each answer, for each time that the run was resumed, and for the end. The format is
-- this project's choice.
use Rattle.std.specs.Prelude.{ℕ, ◌≡◌, ◌-◌, ◌^◌, min, Bool, true, false, List, [], ◌∷◌, ◌++◌, length, take, drop, codes}
use Rattle.std.specs.Prelude.{Option, None, Some, Result, Ok, Err}
use Rattle.std.specs.Io.KnownBytes.{Appends}
use Rattle.swd_io.specs.Blocks.{OutputStopped}
use Rattle.std.specs.Fmt.{decimal}
use Rattle.swd_bits.specs.Listing.{hex8}
use Rattle.swd_port.specs.declared.access.Access.{Access}
use Rattle.swd_port.specs.declared.access.Access.TheVariants.{Read, Write}
use Rattle.swd_port.specs.declared.access.Answer.{Answer}
use Rattle.swd_port.specs.declared.access.Answer.TheVariants.{Value, Written, BusFault}
use Rattle.swd_host.specs.declared.outcome.End.{End}
use Rattle.swd_host.specs.declared.outcome.End.TheVariants.{All, Lost, TriesOut, WrongId, Confused}
use Rattle.swd_host.specs.Reports.{HostReport}
use Rattle.swd_script.specs.declared.batch.Until.{Until}
use Rattle.swd_script.specs.Scripts.{ScriptListed}
use Rattle.swd_run.specs.declared.going_on.Stop.{Stop}
use Rattle.swd_run.specs.declared.limits.Limits.{Limits}
use Rattle.swd_run.specs.Sessions.{ScriptRun, RunsBatchFrom, batch_bursts}
use Rattle.swd_port.specs.declared.wire.Wire.{Ghosts}
use Rattle.swd_run.specs.Unfoldings.{BatchRuns, Performs, until_never_came, batch_reads_of}

abbrev pub report_access_text : Access → List ℕ
report_access_text (Read addr) = codes "r " ++ hex8 addr
report_access_text (Write addr value) = codes "w " ++ hex8 addr

abbrev pub report_answer_text : Answer → List ℕ
report_answer_text (Value word) = hex8 word
report_answer_text Written = codes "written"
report_answer_text BusFault = codes "busfault"

-- the line of an answered access, without its line feed
abbrev pub report_answer_line : Access → Answer → List ℕ
report_answer_line access answer = report_access_text access ++ codes " " ++ report_answer_text answer

-- the number of accesses answered, and of those begun and not answered
abbrev pub report_stop_text : ℕ → ℕ → List ℕ
report_stop_text answered begun = decimal answered ++ codes " begun " ++ decimal begun

-- the line for the end of a run, without its line feed
abbrev pub report_last_line : End → ℕ → ℕ → List ℕ
report_last_line All answered begun = codes "end all " ++ decimal answered
report_last_line Lost answered begun = codes "end lost " ++ report_stop_text answered begun
report_last_line TriesOut answered begun = codes "end tries " ++ report_stop_text answered begun
report_last_line (WrongId word) answered begun = codes "end id " ++ hex8 word
report_last_line Confused answered begun = codes "end confused " ++ report_stop_text answered begun

-- the line for the end of a run, or of the read of an `until` whose word never came, without its line feed
abbrev pub report_end_line : Bool → HostReport → List ℕ
report_end_line true told = codes "end until " ++ decimal (length told.answers)
report_end_line false told = report_last_line told.ended (length told.answers) told.begun

-- an answer's line of an `until`: how many reads there were
abbrev pub report_with_reads : Option ℕ → List ℕ → List ℕ
report_with_reads None line = line
report_with_reads (Some reads) line = line ++ (codes " reads " ++ decimal reads)

-- the texts of the pairs of items, up to the end of the shorter list
abbrev pub report_pair_texts : {X Y : Type 0} → (X → Y → List ℕ) → List X → List Y → List ℕ
report_pair_texts text [] ys = []
report_pair_texts text (x ∷ xs) [] = []
report_pair_texts text (x ∷ xs) (y ∷ ys) = text x y ++ report_pair_texts text xs ys

-- the line of an answered access, with its line feed; of an `until` with the number of reads
abbrev pub report_answer_fed : Option ℕ → Access → Answer → List ℕ
report_answer_fed reads access answer = report_with_reads reads (report_answer_line access answer) ++ 10 ∷ []

-- the lines of the accesses that have answers
abbrev pub report_answer_lines : Option ℕ → List Access → List Answer → List ℕ
report_answer_lines reads accesses answers = report_pair_texts (report_answer_fed reads) accesses answers

-- the line of a place where the run was resumed, without its line feed
abbrev pub report_resume_line : Stop → List ℕ
report_resume_line stop = codes "resume " ++ report_stop_text stop.answered stop.begun

-- the lines of the answers from one index to another
abbrev pub report_lines_between : Option ℕ → ℕ → ℕ → List Access → List Answer → List ℕ
report_lines_between reads i j accesses answers =
    report_answer_lines reads (drop i (take j accesses)) (drop i (take j answers))

-- the lines of the answers from an index on, with a line wherever the run was resumed
abbrev pub report_lines_from : Option ℕ → ℕ → List Stop → List Access → List Answer → List ℕ
report_lines_from reads i [] accesses answers = report_answer_lines reads (drop i accesses) (drop i answers)
report_lines_from reads i (stop ∷ stops) accesses answers =
    report_lines_between reads i stop.answered accesses answers
    ++ ((report_resume_line stop ++ 10 ∷ []) ++ report_lines_from reads stop.answered stops accesses answers)

-- The text of a report of these accesses. For an `until` it has the number of its reads, and whether its word never
-- came.
abbrev pub report_text : Option ℕ → Bool → List Access → List Stop → HostReport → List ℕ
report_text reads never accesses stops told =
    report_lines_from reads 0 stops accesses told.answers ++ (report_end_line never told ++ 10 ∷ [])

-- the number that the lines of a call show: that of the reads of an `until`
abbrev pub report_shown_reads : Option Until → ℕ → Option ℕ
report_shown_reads None reads = None
report_shown_reads (Some until) reads = Some reads

-- the report of one run of a script, which is the last of this many reads
abbrev pub script_run_report : ScriptListed → ℕ → ScriptRun → List ℕ
script_run_report batch reads run =
    report_text (report_shown_reads batch.until reads) (until_never_came batch.until run.told) batch.accesses run.stops
    run.told

-- the report of a batch: that of its last run
abbrev pub batch_report : ScriptListed → BatchRuns → List ℕ
batch_report batch runs = script_run_report batch (batch_reads_of runs) runs.last

-- the reports of a script's batches, one after the other
abbrev pub session_text : List ScriptListed → List BatchRuns → List ℕ
session_text batches made = report_pair_texts batch_report batches made

-- The writer began with `start`, and all of the output was written. `told` is its number of bytes, at most 2^64 - 1.
pub record HasReportWritten (start now : Option (List ℕ)) (all : List ℕ) (told : ℕ) : Type 0 where
  pub gone : Appends start now all
  pub count : told ≡ min (length all) (2 ^ 64 - 1)

-- all of the output was written, or exactly its first bytes and not all
abbrev pub ReportWritesOn : Result ℕ ℕ → Option (List ℕ) → Option (List ℕ) → List ℕ → Type 0
ReportWritesOn (Ok told) start now all = HasReportWritten start now all told
ReportWritesOn (Err told) start now all = OutputStopped told start now all

-- One run of a batch that is no `until`, from the wire s to the wire t, whose last call has this report. `opened` says
-- whether the target is open at s. A writer had the contents `old`, and has `new` now: all of the run's report was
-- written, or exactly its first bytes and not all.
pub record ReportsBatchRunFrom {W : Type 0} (wire : Ghosts W)
    (opened : Bool) (limits : Limits) (batch : ScriptListed) (s t : W) (old new : Option (List ℕ))
    (told : HostReport) (written : Result ℕ ℕ) : Type 0 where
  pub run : ScriptRun
  pub last : run.told ≡ told
  pub goes : RunsBatchFrom wire opened (batch_bursts limits.bursts batch) limits batch s run t
  pub writes : ReportWritesOn written old new (script_run_report batch 1 run)

-- the same for a run that opens the target
abbrev pub ReportsBatchRun : {W : Type 0} → Ghosts W → (limits : Limits)
    → ScriptListed → W → W → (old new : Option (List ℕ)) → HostReport → Result ℕ ℕ → Type 0
ReportsBatchRun wire limits batch s t old new told written =
    ReportsBatchRunFrom wire false limits batch s t old new told written

-- The runs of a batch, from the wire s to the wire t, of which the last one has this report. A writer had the contents
-- `old`, and has `new` now: all of the batch's report was written, or exactly its first bytes and not all.
pub record IsBatchReported {W : Type 0} (wire : Ghosts W)
    (opened : Bool) (limits : Limits) (batch : ScriptListed) (s t : W) (old new : Option (List ℕ))
    (told : HostReport) (written : Result ℕ ℕ) : Type 0 where
  pub runs : BatchRuns
  pub last : runs.last.told ≡ told
  pub performs : Performs wire opened limits batch s runs t
  pub writes : ReportWritesOn written old new (batch_report batch runs)
