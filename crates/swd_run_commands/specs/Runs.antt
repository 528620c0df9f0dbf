-- What `swd run` does at a simulated target, and the status that it ends with.
use Rattle.std.specs.Prelude.{◌≡◌, ◌⊎◌, ◌||◌, ℕ, Bool, false, true, not, List, [], Option, None, Some, Result, is_some}
use Rattle.swd_capture_text.specs.Captures.{accesses_text}
use Rattle.swd_port.specs.declared.mark.Mark.{Mark}
use Rattle.swd_script.specs.Scripts.{ScriptMeaning}
use Rattle.swd_run.specs.declared.engine.Finished.{Finished}
use Rattle.swd_run.specs.declared.fault.EngineFault.{EngineFault}
use Rattle.swd_run.specs.declared.fault.RunFault.{RunFault}
use Rattle.swd_run.specs.declared.limits.Limits.{Limits}
use Rattle.swd_run.specs.Records.{RunFiles}
use Rattle.swd_run.specs.Running.{RunsText, ScriptRunAnswers}
use Rattle.swd_command_line.specs.declared.command.RunLine.{RunLine}
use Rattle.swd_console.specs.Statuses.{CommandNotOpened, command_status_of_run}

-- what each call of a run may meet, and whether writes go in bursts: over a line only where that is asked for
abbrev pub run_command_limits : RunLine → Limits
run_command_limits run =
    record { tries = run.tries; resumes = run.resumes; bursts = not (is_some run.remote) || run.bursts }

-- whether a file is named that a run writes beside its report
abbrev pub run_command_names_file : RunLine → Bool
run_command_names_file run = is_some run.trace || is_some run.accesses

-- The files that a run writes beside its report are those that are named. Their accesses are printed as `swd decode
-- --accesses` prints them; `made` says that the target begins in its reset state.
pub record AreRunCommandFiles (run : RunLine) (made : Bool) (files : RunFiles) : Type 0 where
  pub trace : is_some files.trace ≡ is_some run.trace
  pub accesses : is_some files.accesses ≡ is_some run.accesses
  pub shown : files.shown ≡ accesses_text made

-- A script that was read is run under the marks of a plan, and the report is written. The status is that of its end.
-- The trace and the accesses are written to the files that are named for them.
abbrev pub RunsCommandScript : RunLine → ℕ → ScriptMeaning → List Mark → Option (List ℕ) → Option (List ℕ) → Type 0
RunsCommandScript run status script marks old new =
    (answer : Result Finished EngineFault) × (before : RunFiles) × (after : RunFiles)
    × AreRunCommandFiles run true before
    × ScriptRunAnswers (run_command_limits run) script marks answer old new before after
    × (status ≡ command_status_of_run run.strict answer)

-- A run reads a script and a plan, and writes a report. Its status is that of its end. The trace and the accesses are
-- written to the files that are named for them. Nothing else is known of these files.
abbrev pub PerformsRunCommandUnder : RunLine → ℕ → Option (List ℕ) → Option (List ℕ) → Option (List ℕ) → Option (List ℕ)
    → Type 0
PerformsRunCommandUnder run status script plan old new =
    ((run_command_names_file run ≡ true) × CommandNotOpened status old new)
    ⊎ ((answer : Result Finished RunFault) × (before : RunFiles) × (after : RunFiles)
    × AreRunCommandFiles run true before
    × RunsText (run_command_limits run) answer script plan old new before after
    × (status ≡ command_status_of_run run.strict answer))

-- Without a named plan the plan is empty. Otherwise it is some text: no contract knows the contents of a file.
abbrev pub PerformsRunCommand : {S : Type 0} → Option S → RunLine → ℕ → Option (List ℕ) → Option (List ℕ)
    → Option (List ℕ) → Type 0
PerformsRunCommand None run status script old new = PerformsRunCommandUnder run status script (Some []) old new
PerformsRunCommand (Some plan) run status script old new =
    CommandNotOpened status old new ⊎ ((text : Option (List ℕ))
    × PerformsRunCommandUnder run status script text old new)

-- a run at a remote target has its standard input for that target, so its script can't be standard input
abbrev pub PerformsRunCommandWhere : Bool → RunLine → ℕ → Option (List ℕ) → Option (List ℕ) → Option (List ℕ) → Type 0
PerformsRunCommandWhere false run status text old new = PerformsRunCommand run.plan run status text old new
PerformsRunCommandWhere true run status text old new = CommandNotOpened status old new
