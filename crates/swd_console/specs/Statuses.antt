-- The status that a command ends with.
use Rattle.std.specs.Prelude.{◌≡◌, ℕ, Bool, List, [], Option, Result, Ok, Err, ◌||◌, ◌&&◌, is_some, if◌then◌else◌}
use Rattle.std.specs.Io.KnownBytes.{Appends}
use Rattle.swd_host.specs.declared.outcome.End.{End}
use Rattle.swd_host.specs.declared.outcome.End.TheVariants.{All, Lost, TriesOut, WrongId, Confused}
use Rattle.swd_run.specs.declared.engine.Finished.{Finished}

-- 0 if all was done, 2 at an error
abbrev pub command_status_of : Bool → ℕ
command_status_of done = if done then 0 else 2

-- the status at the end of a run: 0 if it ended `All`, 1 if it ended otherwise or failed its script
abbrev pub command_status_of_end : Bool → End → ℕ
command_status_of_end failed All = if failed then 1 else 0
command_status_of_end failed Lost = 1
command_status_of_end failed TriesOut = 1
command_status_of_end failed (WrongId word) = 1
command_status_of_end failed Confused = 1

-- a run fails its script if a word differs from the script's, or the word of an `until` never came; a strict run also
-- if an access met a bus error
abbrev pub command_run_failed : Bool → Finished → Bool
command_run_failed strict finished = ((strict && finished.bus_fault) || is_some finished.differs) || finished.never_came

-- the status of a run, strict or not; 2 at an error
abbrev pub command_status_of_run : {F : Type 0} → Bool → Result Finished F → ℕ
command_status_of_run strict (Ok finished) = command_status_of_end (command_run_failed strict finished) finished.ended
command_status_of_run strict (Err fault) = 2

-- a file can't be opened or created: status 2, and nothing was written to the output
abbrev pub CommandNotOpened : ℕ → Option (List ℕ) → Option (List ℕ) → Type 0
CommandNotOpened status old new = (status ≡ 2) × Appends old new []
