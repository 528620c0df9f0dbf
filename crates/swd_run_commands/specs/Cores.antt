-- What `swd core` does at a remote target, and its status.
use Rattle.std.specs.Prelude.{◌≡◌, ◌⊎◌, ℕ, List, Option, Some}
use Rattle.std.specs.Io.KnownBytes.{Appends}
use Rattle.swd_port.specs.Port.{Port}
use Rattle.swd_remote.specs.declared.kept.RemoteStreams.{RemoteStreams}
use Rattle.swd_remote.specs.WholeRuns.{IsUnusedRemote}
use Rattle.swd_core.specs.declared.action.CoreAction.{CoreAction}
use Rattle.swd_core.specs.declared.action.CoreAction.TheVariants.{Id}
use Rattle.swd_core.specs.Actions.{core_action_steps}
use Rattle.swd_core.specs.Steps.{core_script_text}
use Rattle.swd_command_line.specs.declared.command.CoreLine.{CoreLine}
use Rattle.swd_run_commands.specs.Remotes.{PerformsRemoteRun}

-- the script of what the arguments have done
abbrev pub core_line_text : CoreLine → List ℕ
core_line_text core = core_script_text (core_action_steps core.halts core.action)

-- the status is that of the run, or 1 if all was done and the word of CPUID is no core's
abbrev pub CoreEndsAs : CoreAction → ℕ → ℕ → Type 0
CoreEndsAs action ran status = (status ≡ ran) ⊎ ((action ≡ Id) × (ran ≡ 0) × (status ≡ 1))

-- The script of what the arguments have done is run as `swd run --remote` runs it. Or memory ran out, or a file can't
-- be opened: the status is 2, and nothing was sent or read.
abbrev pub PerformsCore : {R W : Type 0} → (ℕ → Port) → CoreLine → ℕ → (R → Option (List ℕ)) → (W → Option (List ℕ))
    → Option (List ℕ) → Option (List ℕ) → RemoteStreams R W → Type 0
PerformsCore story core status remaining contents sent left line =
    ((status ≡ 2) × IsUnusedRemote remaining contents sent left line)
    ⊎ ((ran : ℕ) × PerformsRemoteRun story core.run ran remaining contents sent left line (Some (core_line_text core))
    × CoreEndsAs core.action ran status)

-- the text was written, or a write failed
abbrev pub PrintsText : List ℕ → ℕ → Option (List ℕ) → Option (List ℕ) → Type 0
PrintsText text status old new =
    (status ≡ 2) ⊎ ((status ≡ 0) × Appends old new text)

-- the script was written, or memory ran out, or a write failed
abbrev pub PrintsCore : CoreLine → ℕ → Option (List ℕ) → Option (List ℕ) → Type 0
PrintsCore core status old new = PrintsText (core_line_text core) status old new
