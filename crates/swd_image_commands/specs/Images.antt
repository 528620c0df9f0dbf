-- The status of a load, a verification or a dump at a remote target.
use Rattle.std.specs.Prelude.{◌≡◌, ◌<◌, ◌⊎◌, ◌||◌, not, ℕ, List, [], length, take, Option, Some, None, Result, Ok}
use Rattle.std.specs.Prelude.{Err, Bool, false, is_some, if◌then◌else◌}
use Rattle.std.specs.Io.KnownBytes.{Appends}
use Rattle.swd_port.specs.declared.call.Call.{Call}
use Rattle.swd_port.specs.Port.{Port}
use Rattle.swd_remote.specs.declared.kept.RemoteStreams.{RemoteStreams}
use Rattle.swd_remote.specs.declared.remote.Fault.{Fault}
use Rattle.swd_remote.specs.WholeRuns.{IsUnusedRemote}
use Rattle.swd_run.specs.declared.limits.Limits.{Limits}
use Rattle.swd_image.specs.declared.fault.ImageFault.{ImageFault}
use Rattle.swd_image.specs.declared.fault.ImageFault.TheVariants.{Range, Memory, Stopped, Report, BusFault as FaultAt}
use Rattle.swd_image.specs.declared.verifying.ByteDifference.{ByteDifference}
use Rattle.swd_image_files.specs.declared.format.Format.{Format}
use Rattle.swd_image_files.specs.declared.elf.ElfChoice.{ElfChoice}
use Rattle.swd_image_files.specs.declared.elf.ElfChoice.TheVariants.{Auto, Always, Never}
use Rattle.swd_image_files.specs.Files.{IsImageOrElf}
use Rattle.swd_image_files.specs.Formats.{is_elf_image_name}
use Rattle.swd_image_files.specs.Images.{ImageFileBytes, ImageFileContents, image_file_pieces}
use Rattle.swd_image_files.specs.Texts.{image_file_of_piece}
use Rattle.swd_image_ends.specs.Came.{DumpCame}
use Rattle.swd_check.specs.declared.checked.Checked.{Checked}
use Rattle.swd_conform.specs.Sessions.{GoesOverChecked}
use Rattle.swd_console.specs.Connections.{command_way}
use Rattle.swd_command_line.specs.declared.command.ImageAction.{ImageAction}
use Rattle.swd_command_line.specs.declared.command.ImageAction.TheVariants.{Load, Verify, Dump}
use Rattle.swd_command_line.specs.declared.command.ImageLine.{ImageLine}
use Rattle.swd_console.specs.Verdicts.{command_status_of_session}
use Rattle.swd_image_commands.specs.declared.pieces.PiecesAction.{PiecesAction}
use Rattle.swd_image_commands.specs.declared.pieces.PiecesAction.TheVariants.{Load as Loads, Verify as Compares}
use Rattle.swd_image_commands.specs.Pieces.{PiecesCame}
use Rattle.swd_run.specs.Wires.{run_story_wire}

-- what each call may meet, and whether writes go in bursts: over a line only where that is asked for
abbrev pub command_limits : ImageLine → Limits
command_limits image =
    record { tries = image.tries; resumes = image.resumes; bursts = not (is_some image.remote) || image.bursts }

-- 1 if a call ended early or met a bus error, 2 if the image doesn't fit the addresses, memory ran out, or the report
-- couldn't be written
abbrev pub command_status_of_fault : ImageFault → ℕ
command_status_of_fault Range = 2
command_status_of_fault Memory = 2
command_status_of_fault (Stopped end) = 1
command_status_of_fault (FaultAt at) = 1
command_status_of_fault Report = 2

-- a result, or the status at an error; the status is 1 if the call succeeded but the other end is gone
abbrev pub command_result_reached : {V : Type 0} → Option Fault → Result V ImageFault → Result V ℕ
command_result_reached (Some gone) (Ok value) = Err 1
command_result_reached None (Ok value) = Ok value
command_result_reached _ (Err fault) = Err (command_status_of_fault fault)

-- the status of a call by its value, or by its error
abbrev pub command_status_in : {V : Type 0} → (V → ℕ) → Result V ℕ → ℕ
command_status_in of (Ok value) = of value
command_status_in of (Err status) = status

abbrev pub command_status_of_image : {V : Type 0} → (V → ℕ) → Option Fault → Result V ImageFault → ℕ
command_status_of_image of gone answer = command_status_in of (command_result_reached gone answer)

-- 0 if no byte differs, as after a load, and otherwise 1
abbrev pub command_status_compared : Option ByteDifference → ℕ
command_status_compared difference = if is_some difference then 1 else 0

-- the bytes were written with the status 0, or not all of them with the status 2
abbrev pub CommandWritesBytes : ℕ → Option (List ℕ) → Option (List ℕ) → List ℕ → Type 0
CommandWritesBytes status old new bytes =
    ((status ≡ 0) × Appends old new bytes)
    ⊎ ((status ≡ 2) × (sent : ℕ) × (sent < length bytes) × Appends old new (take sent bytes))

-- they were written to a file so, or the file couldn't be replaced
abbrev pub IsCommandWrittenTo : Option (List ℕ) → Option (List ℕ) → ℕ → List ℕ → Type 0
IsCommandWrittenTo old new status bytes = (status ≡ 2) ⊎ CommandWritesBytes status old new bytes

-- the same of some file, of which nothing else is known
abbrev pub IsCommandWritten : ℕ → List ℕ → Type 0
IsCommandWritten status bytes =
    (status ≡ 2) ⊎ ((old : Option (List ℕ)) × (new : Option (List ℕ)) × CommandWritesBytes status old new bytes)

-- a result with its bytes as a list
abbrev pub command_bytes_of : {V X : Type 0} → (V → List ℕ) → Result V X → Result (List ℕ) X
command_bytes_of list (Ok value) = Ok (list value)
command_bytes_of list (Err error) = Err error

-- what was read is written to a file in its format; at an error no file is changed
abbrev pub IsCommandDumped : Format → ℕ → Result (List ℕ) ℕ → ℕ → Type 0
IsCommandDumped format addr (Ok bytes) status = IsCommandWritten status (image_file_of_piece format addr bytes)
IsCommandDumped format addr (Err error) status = status ≡ error

-- the same of a file with these contents before and after
abbrev pub IsCommandDumpedTo : Option (List ℕ) → Option (List ℕ) → Format → ℕ → Result (List ℕ) ℕ → ℕ → Type 0
IsCommandDumpedTo old new format addr (Ok bytes) status =
    IsCommandWrittenTo old new status (image_file_of_piece format addr bytes)
IsCommandDumpedTo old new format addr (Err error) status = (status ≡ error) × (new ≡ old)

-- no format is named for a dump, whose name is one of ELF files
abbrev pub is_command_dump_named_elf : ElfChoice → List ℕ → Bool
is_command_dump_named_elf Auto name = is_elf_image_name name
is_command_dump_named_elf Always name = false
is_command_dump_named_elf Never name = false

-- The pieces of the image of a file, in its format or ELF, which has some. No contract knows the contents of a file.
pub record AreCommandPieces (image : ImageLine) (pieces : List ImageFileBytes) : Type 0 where
  pub file : List ℕ
  pub whole : ImageFileContents
  pub is : IsImageOrElf image.elf image.format image.addr file whole
  pub some : 0 < length whole.ranges
  pub are : pieces ≡ image_file_pieces whole.ranges whole.bytes

module _ {R W : Type 0} (story : ℕ → Port) (image : ImageLine) (status : ℕ) (remaining : R → Option (List ℕ))
    (contents : W → Option (List ℕ)) (sent left : Option (List ℕ)) (line : RemoteStreams R W) where
  -- a file can't be read or opened, or is no image: nothing was sent or read
  abbrev pub IsLeft : Type 0
  IsLeft = (status ≡ 2) × IsUnusedRemote remaining contents sent left line

  -- what went over the line, and the verdict on it if the session is checked
  abbrev pub WentOverChecked : List Call → Option Checked → Type 0
  WentOverChecked calls verdict = ∥ GoesOverChecked image.check (command_way image.probe) remaining contents sent
      left line calls verdict ∥₁

  -- The pieces of a file are loaded over a line, or compared with the memory. The reports of the calls are written if
  -- a file is named for them. Nothing else is known of this file. Only tests show that the line is over the standard
  -- streams.
  abbrev pub PerformsPieces : PiecesAction → Type 0
  PerformsPieces action =
      IsLeft
      ⊎ ((pieces : List ImageFileBytes) × (answer : Result (Option ByteDifference) ImageFault)
      × AreCommandPieces image pieces
      × (before : Option (Option (List ℕ))) × (after : Option (Option (List ℕ)))
      × (is_some before ≡ is_some image.report)
      × (calls : List Call) × (verdict : Option Checked)
      × PiecesCame (run_story_wire story) (command_limits image) action pieces answer [] calls before after
      × WentOverChecked calls verdict
      × (status ≡ command_status_of_session verdict
      (command_status_of_image command_status_compared line.fault answer)))

  -- `count` bytes of the memory are written to a file
  abbrev pub PerformsDump : ℕ → Type 0
  PerformsDump count =
      IsLeft
      ⊎ ((answer : Result (List ℕ) ImageFault)
      × (before : Option (Option (List ℕ))) × (after : Option (Option (List ℕ)))
      × (is_some before ≡ is_some image.report)
      × (calls : List Call) × (verdict : Option Checked)
      × DumpCame (run_story_wire story) (command_limits image) image.addr count answer (λ bytes. bytes) [] calls
      before after
      × WentOverChecked calls verdict
      × (unchecked : ℕ) × IsCommandDumped image.format image.addr (command_result_reached line.fault answer) unchecked
      × (status ≡ command_status_of_session verdict unchecked))

  -- what the arguments ask for
  abbrev pub PerformsAction : ImageAction → Type 0
  PerformsAction Load = PerformsPieces Loads
  PerformsAction Verify = PerformsPieces Compares
  PerformsAction (Dump count) = PerformsDump count
