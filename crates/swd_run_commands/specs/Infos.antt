-- What `swd info` does at a remote target, and its status.
use Rattle.std.specs.Prelude.{◌≡◌, ℕ, List, [], Option, None, Some, Result, Ok, Err, false}
use Rattle.swd_port.specs.Port.{Port}
use Rattle.swd_host.specs.declared.outcome.End.{End}
use Rattle.swd_host.specs.declared.outcome.Refused.{Refused}
use Rattle.swd_host.specs.declared.outcome.Report.{Report}
use Rattle.swd_host.specs.Reports.{host_report_of}
use Rattle.swd_remote.specs.declared.kept.RemoteStreams.{RemoteStreams}
use Rattle.swd_remote.specs.declared.remote.Fault.{Fault}
use Rattle.swd_remote.specs.WholeRuns.{RanOver}
use Rattle.swd_command_line.specs.declared.command.InfoLine.{InfoLine}
use Rattle.swd_console.specs.Connections.{command_way}
use Rattle.swd_console.specs.Statuses.{command_status_of_end}

-- 0 if the target was opened, and 1 if not
abbrev pub info_command_status_of_end : End → ℕ
info_command_status_of_end ended = command_status_of_end false ended

-- 1 if the other end is gone, too; 2 where no request was made, since memory ran out
abbrev pub info_command_status : {A : Type 0} → Option Fault → Result (Report A) Refused → ℕ
info_command_status fault (Err refused) = 2
info_command_status (Some fault) (Ok report) = 1
info_command_status None (Ok report) = info_command_status_of_end (host_report_of report).ended

-- a run without accesses was made over a line
abbrev pub PerformsInfo : {R W : Type 0} → (A : Type 0) → (ℕ → Port) → InfoLine → ℕ → (R → Option (List ℕ))
    → (W → Option (List ℕ))
    → Option (List ℕ) → Option (List ℕ) → RemoteStreams R W → Type 0
PerformsInfo A story info status remaining contents sent left line =
    (answer : Result (Report A) Refused)
    × ∥ RanOver (command_way info.probe) story [] info.tries remaining contents sent left answer line ∥₁
    × (status ≡ info_command_status line.fault answer)
