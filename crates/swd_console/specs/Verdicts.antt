-- The status of a command over a remote target with the verdict on its session.
use Rattle.std.specs.Prelude.{◌==◌, ℕ, Option, None, Some, if◌then◌else◌}
use Rattle.swd_check.specs.declared.checked.Checked.{Checked}
use Rattle.swd_check.specs.declared.checked.Checked.TheVariants.{Breaks}

-- 1 in place of 0 if a rule is broken, and otherwise the status without a check
abbrev pub command_status_by : Checked → ℕ → ℕ
command_status_by (Breaks broken) status = if status == 0 then 1 else status
command_status_by checked status = status

-- the same if the session was checked
abbrev pub command_status_of_session : Option Checked → ℕ → ℕ
command_status_of_session None status = status
command_status_of_session (Some checked) status = command_status_by checked status
