-- What a load, a verification or a dump at a simulated target does, whose memory is in a file.
use Rattle.std.specs.Prelude.{ℕ, ◌≡◌, ◌⊎◌, List, [], length, Option, None, Some, Result, Ok, Err, IfOk}
use Rattle.std.specs.Prelude.{is_some, true}
use Rattle.swd_io.specs.Pieces.{IsReaderText}
use Rattle.swd_port.specs.declared.mark.Mark.{Mark}
use Rattle.swd_port.specs.PlainMemory.{PlainMemory}
use Rattle.swd_port.specs.PlainBus.{bus_of, plain_of}
use Rattle.swd_target.specs.declared.bench.Bench.{Bench}
use Rattle.swd_target.specs.Benches.{bench_plan, bench_port}
use Rattle.swd_target.specs.MemoryWords.{target_words_from}
use Rattle.swd_host.specs.Reports.{IsAtRest}
use Rattle.swd_run.specs.Records.{ForRunFile, run_file_held}
use Rattle.swd_image.specs.declared.fault.ImageFault.{ImageFault}
use Rattle.swd_image.specs.declared.verifying.ByteDifference.{ByteDifference}
use Rattle.swd_image_files.specs.Images.{ImageFileBytes}
use Rattle.swd_image_ends.specs.Came.{DumpCame, image_bench_wire}
use Rattle.swd_image_ends.specs.Memories.{DumpsSimulatedMemory, AreImageEndWholeWords}
use Rattle.swd_image_ends.specs.Memories.{LoadsSimulatedMemory, VerifiesSimulatedMemory, image_end_words_in}
use Rattle.swd_command_line.specs.declared.command.ImageAction.{ImageAction}
use Rattle.swd_command_line.specs.declared.command.ImageAction.TheVariants.{Load, Verify, Dump}
use Rattle.swd_command_line.specs.declared.command.ImageLine.{ImageLine}
use Rattle.swd_command_line.specs.declared.command.MemoryLine.{MemoryLine}
use Rattle.swd_console.specs.declared.memory_file.MemoryFile.{MemoryFile}
use Rattle.swd_console.specs.MemoryFiles.{CommandWritesBack}
use Rattle.swd_image_commands.specs.Images.{AreCommandPieces, IsCommandDumped, command_limits, command_result_reached}
use Rattle.swd_image_commands.specs.Images.{command_status_compared, command_status_of_image}
use Rattle.swd_image_commands.specs.declared.pieces.PiecesAction.{PiecesAction}
use Rattle.swd_image_commands.specs.declared.pieces.PiecesAction.TheVariants.{Load as Loads, Verify as Compares}
use Rattle.swd_image_commands.specs.Pieces.{PiecesCame}

-- a target at rest with this plan, whose memory has the words of these bytes from an address on, and no other word
pub record SimulatesCommandTarget {A : Type 0} (base : ℕ) (bytes : List ℕ) (marks : List Mark)
    (s : Bench PlainMemory A) : Type 0 where
  pub words : (plain_of (bench_port bus_of s).target.memory).words ≡ target_words_from base (image_end_words_in bytes)
  pub rests : IsAtRest (bench_port bus_of s)
  pub plan : bench_plan s ≡ marks

-- the status of a call, or that of an error in writing the memory back
abbrev pub IsSimulatedCommandStatus : ℕ → Result (Unit {0}) ℕ → ℕ → Type 0
IsSimulatedCommandStatus status (Ok done) own = own ≡ status
IsSimulatedCommandStatus status (Err error) own = own ≡ error

-- what the calls for the pieces mean for the memory, if none failed
abbrev pub PiecesSimulated : PiecesAction → List ImageFileBytes → Result (Option ByteDifference) ImageFault
    → PlainMemory → PlainMemory → Type 0
PiecesSimulated Loads pieces answer before after = IfOk answer (λ _. LoadsSimulatedMemory pieces before after)
PiecesSimulated Compares pieces answer before after =
    IfOk answer (λ difference. VerifiesSimulatedMemory pieces difference before after)

-- a load has the memory's file, with the number of its bytes from an address on; a verification has none
abbrev pub IsBackFor : {M : Type 0} → PiecesAction → ℕ → ℕ → Option (MemoryFile M) → Type 0
IsBackFor Loads base count (Some to) = (to.memory.now.base ≡ base) × (to.count ≡ count)
IsBackFor Loads base count None = ⊥
IsBackFor Compares base count (Some to) = ⊥
IsBackFor Compares base count None = Unit {0}

-- the contents of the memory's file, if it is to be written back
abbrev pub simulated_back_held : {M : Type 0} → (M → Option (List ℕ)) → Option (MemoryFile M) → Option (Option (List ℕ))
simulated_back_held contents back = run_file_held (λ to. contents to.file) back

-- A load wrote the memory to its file, which had the contents `old` and has `new` now, or not all of it. A verification
-- writes nothing.
abbrev pub IsWrittenBackFor : PiecesAction → PlainMemory → ℕ → ℕ → Result (Unit {0}) ℕ → Option (Option (List ℕ))
    → Option (Option (List ℕ)) → Type 0
IsWrittenBackFor Loads memory base count wrote old new =
    (is_some old ≡ true) × ForRunFile (CommandWritesBack memory base count wrote) old new
IsWrittenBackFor Compares memory base count wrote old new = (wrote ≡ Ok tt) × (new ≡ old)

-- The pieces were loaded at a target s or compared with its memory, or a call failed. After a load the memory was
-- written to its file, whatever the answer is. If a file is named for the reports of the calls, it had the contents
-- `blank` and has `filled` now.
pub record PiecesCommandSimulated {A : Type 0} (image : ImageLine) (action : PiecesAction)
    (pieces : List ImageFileBytes) (s : Bench PlainMemory A) (base count status : ℕ)
    (old new : Option (Option (List ℕ))) : Type 0 where
  pub answer : Result (Option ByteDifference) ImageFault
  pub after : Bench PlainMemory A
  pub memory : PiecesSimulated action pieces answer (plain_of (bench_port bus_of s).target.memory)
      (plain_of (bench_port bus_of after).target.memory)
  pub blank : Option (Option (List ℕ))
  pub filled : Option (Option (List ℕ))
  pub named : is_some blank ≡ is_some image.report
  pub came : PiecesCame (image_bench_wire A) (command_limits image) action pieces answer s after blank filled
  pub wrote : Result (Unit {0}) ℕ
  pub written : IsWrittenBackFor action (plain_of (bench_port bus_of after).target.memory) base count wrote old new
  pub is : IsSimulatedCommandStatus (command_status_of_image command_status_compared None answer) wrote status

-- `count` bytes of the memory of a target s were read and written to a file, or a call failed
pub record DumpCommandSimulated {A : Type 0} (image : ImageLine) (count : ℕ) (s : Bench PlainMemory A)
    (status : ℕ) : Type 0 where
  pub answer : Result (List ℕ) ImageFault
  pub after : Bench PlainMemory A
  pub memory : IfOk answer (λ bytes. DumpsSimulatedMemory image.addr count bytes
      (plain_of (bench_port bus_of s).target.memory)
      (plain_of (bench_port bus_of after).target.memory))
  pub blank : Option (Option (List ℕ))
  pub filled : Option (Option (List ℕ))
  pub named : is_some blank ≡ is_some image.report
  pub came : DumpCame (image_bench_wire A) (command_limits image) image.addr count answer (λ bytes. bytes) s after
      blank filled
  pub dumped : IsCommandDumped image.format image.addr (command_result_reached None answer) status

module _ (A : Type 0) (image : ImageLine) where
  module _ (base : ℕ) (bytes : List ℕ) (marks : List Mark) (status : ℕ) where
    -- The status is 2, or the pieces of a file were loaded at the target with these bytes, and the memory written to a
    -- file, or they were compared with it. Only tests show that the file is the memory's.
    abbrev pub SimulatesPieces : PiecesAction → Type 0
    SimulatesPieces action =
        (status ≡ 2)
        ⊎ ((s : Bench PlainMemory A) × SimulatesCommandTarget base bytes marks s × (pieces : List ImageFileBytes)
        × AreCommandPieces image pieces
        × (old : Option (Option (List ℕ))) × (new : Option (Option (List ℕ)))
        × PiecesCommandSimulated image action pieces s base (length bytes) status old new)

  -- `count` bytes of the memory were written to a file
  abbrev pub SimulatesDump : ℕ → ℕ → List ℕ → List Mark → ℕ → Type 0
  SimulatesDump count base bytes marks status =
      (status ≡ 2) ⊎ ((s : Bench PlainMemory A) × SimulatesCommandTarget base bytes marks s
      × DumpCommandSimulated image count s status)

  -- what the arguments ask for
  abbrev pub SimulatesAction : ImageAction → ℕ → List ℕ → List Mark → ℕ → Type 0
  SimulatesAction Load base bytes marks status = SimulatesPieces base bytes marks status Loads
  SimulatesAction Verify base bytes marks status = SimulatesPieces base bytes marks status Compares
  SimulatesAction (Dump count) base bytes marks status = SimulatesDump count base bytes marks status

  -- The status is 2, or the memory's file has these bytes, and the target has the marks of the plan. Without a plan it
  -- has none; no contract knows the contents of the plan's file.
  abbrev pub SimulatesImage : MemoryLine → ℕ → Option (List ℕ) → Type 0
  SimulatesImage memory status text =
      (status ≡ 2)
      ⊎ ((bytes : List ℕ) × IsReaderText text bytes × AreImageEndWholeWords memory.base bytes × (marks : List Mark)
      × (memory.plan ≡ None → marks ≡ []) × SimulatesAction image.action memory.base bytes marks status)
