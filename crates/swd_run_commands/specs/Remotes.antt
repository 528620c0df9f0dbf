-- A run at a remote target, and its status.
use Rattle.std.specs.Prelude.{◌≡◌, ◌⊎◌, ℕ, Bool, false, List, Option, Some, Result, Ok}
use Rattle.swd_io.specs.Pieces.{IsReaderText}
use Rattle.swd_port.specs.Port.{Port}
use Rattle.swd_remote.specs.declared.kept.RemoteStreams.{RemoteStreams}
use Rattle.swd_remote.specs.declared.remote.Fault.{Fault}
use Rattle.swd_remote.specs.WholeRuns.{IsUnusedRemote}
use Rattle.swd_check.specs.declared.checked.Checked.{Checked}
use Rattle.swd_script.specs.Scripts.{ScriptListed, ScriptMeaning, script_of}
use Rattle.swd_run.specs.declared.engine.Finished.{Finished}
use Rattle.swd_run.specs.declared.fault.EngineFault.{EngineFault}
use Rattle.swd_run.specs.Records.{RunFiles}
use Rattle.swd_ends.specs.RemoteRuns.{RanRemoteEndScript}
use Rattle.swd_command_line.specs.declared.command.RunLine.{RunLine}
use Rattle.swd_conform.specs.Sessions.{GoesOverChecked}
use Rattle.swd_console.specs.Connections.{command_way}
use Rattle.swd_console.specs.Statuses.{command_status_of_run}
use Rattle.swd_console.specs.Verdicts.{command_status_of_session}
use Rattle.swd_run_commands.specs.Runs.{AreRunCommandFiles, run_command_limits}

-- the status is 1 if the run has a report but the other end is gone, and otherwise that of the run
abbrev pub remote_command_status : Bool → Option Fault → Result Finished EngineFault → ℕ
remote_command_status strict (Some fault) (Ok finished) = 1
remote_command_status strict _ answer = command_status_of_run strict answer

-- A script that was read is run over a line. Its report is written to a file or to standard error, and its trace and
-- accesses to the files that are named for them. Nothing else is known of these files. If the session is checked, its
-- verdict is that on the items of its calls. Only tests show that the line is over the standard streams.
abbrev pub RunsRemoteScript : {R W : Type 0} → (ℕ → Port) → RunLine → ℕ → (R → Option (List ℕ)) → (W → Option (List ℕ))
    → Option (List ℕ) → Option (List ℕ) → RemoteStreams R W → List ScriptListed → Type 0
RunsRemoteScript story run status remaining contents sent left line batches =
    (answer : Result Finished EngineFault) × (before : Option (List ℕ)) × (after : Option (List ℕ))
    × (unwritten : RunFiles) × (written : RunFiles) × (verdict : Option Checked)
    × AreRunCommandFiles run false unwritten
    × RanRemoteEndScript story (run_command_limits run)
    (λ calls. ∥ GoesOverChecked run.check (command_way run.probe) remaining contents sent left line calls verdict ∥₁)
    batches answer before after unwritten written
    × (status ≡ command_status_of_session verdict (remote_command_status run.strict line.fault answer))

-- the reader's script was read, and run so
abbrev pub PerformsRemoteRun : {R W : Type 0} → (ℕ → Port) → RunLine → ℕ → (R → Option (List ℕ)) → (W → Option (List ℕ))
    → Option (List ℕ) → Option (List ℕ) → RemoteStreams R W → Option (List ℕ) → Type 0
PerformsRemoteRun story run status remaining contents sent left line script =
    (text : List ℕ) × IsReaderText script text × (meaning : ScriptMeaning) × (script_of text ≡ Ok meaning)
    × RunsRemoteScript story run status remaining contents sent left line meaning.batches

-- or the script wasn't read, or a file can't be opened: the status is 2, and nothing was sent or read
abbrev pub PerformsRemoteCommand : {R W : Type 0} → (ℕ → Port) → RunLine → ℕ → (R → Option (List ℕ))
    → (W → Option (List ℕ)) → Option (List ℕ) → Option (List ℕ) → RemoteStreams R W → Option (List ℕ) → Type 0
PerformsRemoteCommand story run status remaining contents sent left line script =
    ((status ≡ 2) × IsUnusedRemote remaining contents sent left line)
    ⊎ PerformsRemoteRun story run status remaining contents sent left line script
