-- What `swd target` and `swd probe` do with a memory that is in a file.
use Rattle.std.specs.Prelude.{ℕ, ◌≡◌, ◌⊎◌, ◌+◌, ◌-◌, ◌*◌, ◌/◌, ◌^◌, min, Bool, List, [], length}
use Rattle.std.specs.Prelude.{Option, None, Result, Ok, Err}
use Rattle.swd_io.specs.Pieces.{IsReaderText}
use Rattle.swd_port.specs.declared.mark.Mark.{Mark}
use Rattle.swd_port.specs.PlainMemory.{PlainMemory}
use Rattle.swd_port.specs.PlainBus.{bus_of, plain_of}
use Rattle.swd_target.specs.Marks.{IsLegalPlan}
use Rattle.swd_target.specs.MemoryWords.{target_words_from}
use Rattle.swd_clocked.specs.Marked.{marked_clocked_state}
use Rattle.swd_bitbang.specs.declared.serving.Served.{Served}
use Rattle.swd_bitbang.specs.declared.trace.Trace.{Trace}
use Rattle.swd_bitbang.specs.declared.pins.Pins.{Pins}
use Rattle.swd_ends.specs.Serving.{AreTargetEndPinsAtRest, IsTargetEndMade}
use Rattle.swd_image_ends.specs.Memories.{ImageEndHasRoom, AreImageEndWholeWords, image_end_words_in}
use Rattle.swd_command_line.specs.declared.command.MemoryLine.{MemoryLine}
use Rattle.swd_command_line.specs.declared.command.ServedMemory.{ServedMemory}
use Rattle.swd_command_line.specs.declared.command.ServedMemory.TheVariants.{Script, File}
use Rattle.swd_console.specs.MemoryFiles.{CommandWritesBack}
use Rattle.swd_console.specs.Statuses.{CommandNotOpened}
use Rattle.swd_run_commands.specs.Targets.{IsServedCommandStatus, IsSessionWhole, ServesHost, TargetCommandServesHost}

-- the room of a session at a memory of so many words: 16 transfers for each word, and 65,536 more. It is smaller only
-- where the log would have more than 2^32 - 1 transfers, with one for each word.
abbrev pub target_command_room : ℕ → ℕ
target_command_room words = min (16 * words + 65536) (2 ^ 32 - 1 - words)

-- The pins before the host moved any. Their target has the marks of a plan, this IDR or none, a write buffer or none,
-- and the words of these bytes from an address on, no other word, and the room of a session.
pub record TargetCommandHasBytes {A : Type 0} (base : ℕ) (bytes : List ℕ) (marks : List Mark) (idr : Option ℕ)
    (buffers : Bool) (trace : Trace A) (pins : Pins PlainMemory A) : Type 0 where
  pub memory : PlainMemory
  pub words : memory.words ≡ target_words_from base (image_end_words_in bytes)
  pub room : ImageEndHasRoom (length bytes / 4) (target_command_room (length bytes / 4)) memory
  pub made : IsTargetEndMade bus_of (bus_of memory) marks idr buffers pins.target
  pub rests : AreTargetEndPinsAtRest trace pins

-- the status of a session, or that of an error in writing the memory back
abbrev pub IsTargetCommandStatus : Served → Type 0 → Result (Unit {0}) ℕ → ℕ → Type 0
IsTargetCommandStatus served Whole (Ok done) status = IsServedCommandStatus served Whole status
IsTargetCommandStatus served Whole (Err error) status = status ≡ error

-- A host was served at these pins. Then `count` bytes of the target's memory were written to its file, whatever ended
-- the session.
pub record TargetCommandServes {A : Type 0} (packets : Option ℕ) (s : Pins PlainMemory A) (base count status : ℕ)
    (text left old new file_old file_new : Option (List ℕ)) : Type 0 where
  pub served : Served
  pub cut : Bool
  pub after : Pins PlainMemory A
  pub session : ServesHost bus_of packets served cut text left old new s after
  pub wrote : Result (Unit {0}) ℕ
  pub written : CommandWritesBack (plain_of (marked_clocked_state bus_of after.target).memory) base count wrote file_old
      file_new
  pub is : IsTargetCommandStatus served (IsSessionWhole cut after) wrote status

module _ (A : Type 0) (status : ℕ) (text left old new : Option (List ℕ)) (idr : Option ℕ) (buffers : Bool)
    (packets : Option ℕ)
  where
    -- Nothing was written, or a host was served at the target that has these bytes, and the memory written to a file.
    -- Only tests show that it is the memory's.
    abbrev pub ServesBytes : ℕ → List ℕ → List Mark → Type 0
    ServesBytes base bytes marks =
        CommandNotOpened status old new
        ⊎ ((s : Pins PlainMemory A) × (trace : Trace A) × TargetCommandHasBytes base bytes marks idr buffers trace s
        × (file_old : Option (List ℕ))
        × (file_new : Option (List ℕ))
        × TargetCommandServes packets s base (length bytes) status text left old new file_old file_new)

    -- Nothing was written, or the memory's file has these bytes, and the target has the marks of the plan. Without a
    -- plan it has none; no contract knows the contents of the plan's file.
    abbrev pub ServesMemory : MemoryLine → Option (List ℕ) → Type 0
    ServesMemory memory ram =
        CommandNotOpened status old new
        ⊎ ((bytes : List ℕ) × IsReaderText ram bytes × AreImageEndWholeWords memory.base bytes × (marks : List Mark)
        × IsLegalPlan marks
        × (memory.plan ≡ None → marks ≡ []) × ServesBytes memory.base bytes marks)

    -- what the arguments ask for. No contract knows the contents of the files.
    abbrev pub CommandServesTarget : ServedMemory → Type 0
    CommandServesTarget (Script texts) =
        (script : Option (List ℕ)) × (plan : Option (List ℕ))
        × TargetCommandServesHost A status script plan idr buffers packets text left old new
    CommandServesTarget (File memory) = (ram : Option (List ℕ)) × ServesMemory memory ram
