-- Which files a command may open, beside those that it has in use, and which it has in use then.
use Rattle.std.specs.Prelude.{◌≡◌, ◌≢◌, ℕ, List, Option, None, Some, codes}
use Rattle.swd_console.specs.declared.open_files.Identity.{Identity}
use Rattle.swd_console.specs.declared.open_files.Opened.{Opened}
use Rattle.swd_console.specs.declared.in_use.InUse.{InUse}
use Rattle.swd_console.specs.declared.in_use.StreamsInUse.{StreamsInUse}
use Rattle.swd_console.specs.declared.in_use.ReadRole.{ReadRole}
use Rattle.swd_console.specs.declared.in_use.ReadRole.TheVariants.{Script, Plan, Memory, Image}
use Rattle.swd_console.specs.declared.in_use.WriteRole.{WriteRole}
use Rattle.swd_console.specs.declared.in_use.WriteRole.TheVariants.{Report, Trace, Accesses, Calls, Dump}
use Rattle.swd_console.specs.declared.in_use.WriteRole.TheVariants.{Memory as Back}

-- A file to read. A plan is neither the script nor the memory; an image is neither the memory nor its plan.
abbrev pub MayReadFile : ReadRole → Identity → InUse → Type 0
MayReadFile Script file used = Unit {0}
MayReadFile Memory file used = Unit {0}
MayReadFile Plan file used = (used.script ≢ Some file) × (used.memory ≢ Some file)
MayReadFile Image file used = (used.memory ≢ Some file) × (used.plan ≢ Some file)

-- its name: that of a memory isn't `-`
abbrev pub MayReadName : ReadRole → List ℕ → Type 0
MayReadName Memory name = name ≢ codes "-"
MayReadName role name = Unit {0}

-- a file that a run or a session writes is none of those that it reads, and none that it writes already
pub record IsConsoleFileBeside (file : Identity) (used : InUse) : Type 0 where
  pub script : used.script ≢ Some file
  pub plan : used.plan ≢ Some file
  pub memory : used.memory ≢ Some file
  pub report : used.report ≢ Some file
  pub trace : used.trace ≢ Some file

-- A file to write. The report of an image's calls is neither the image's file, nor the memory's, nor its plan's; a
-- dump's is neither of these two. A memory is written to the file that it was read from.
abbrev pub MayWriteFile : WriteRole → Identity → InUse → Type 0
MayWriteFile Report file used = IsConsoleFileBeside file used
MayWriteFile Trace file used = IsConsoleFileBeside file used
MayWriteFile Accesses file used = IsConsoleFileBeside file used
MayWriteFile Calls file used = (used.image ≢ Some file) × (used.memory ≢ Some file) × (used.plan ≢ Some file)
MayWriteFile Dump file used = (used.memory ≢ Some file) × (used.plan ≢ Some file)
MayWriteFile Back file used = used.memory ≡ Some file

-- no file is in use, but for these streams
abbrev pub no_console_files : StreamsInUse → InUse
no_console_files streams =
    record { script = None; plan = None; memory = None; image = None; report = None; trace = None; streams = streams }

-- a file that is read is in use in its role, beside the others
abbrev pub console_files_read : ReadRole → Identity → InUse → InUse
console_files_read Script file used = record used { script = Some file }
console_files_read Plan file used = record used { plan = Some file }
console_files_read Memory file used = record used { memory = Some file }
console_files_read Image file used = record used { image = Some file }

-- A file that is written is in use in its role, a dump's as the image. The accesses and the report of an image's calls
-- are the last file that a command opens, and a memory is in use since it was read.
abbrev pub console_files_written : WriteRole → Identity → InUse → InUse
console_files_written Report file used = record used { report = Some file }
console_files_written Trace file used = record used { trace = Some file }
console_files_written Dump file used = record used { image = Some file }
console_files_written Accesses file used = used
console_files_written Calls file used = used
console_files_written Back file used = used

-- a file that was opened so may be written in this role, and is in use in it
abbrev pub WritesConsoleFile : {M : Type 0} → (Opened M → Type 0) → WriteRole → M → InUse → InUse → Type 0
WritesConsoleFile Makes role file old new =
    (identity : Identity) × Makes (record { file = file; identity = identity }) × MayWriteFile role identity old
    × (new ≡ console_files_written role identity old)

-- the file of a plan is in use, if one is named, and may be read as one
abbrev pub ReadsConsolePlan : {S : Type 0} → Option S → InUse → InUse → Type 0
ReadsConsolePlan None old new = new ≡ old
ReadsConsolePlan (Some name) old new =
    (file : Identity) × MayReadFile Plan file old × (new ≡ console_files_read Plan file old)

-- the file of a memory is in use, and that of its plan, if one is named, which is another one
abbrev pub ReadsConsoleMemory : {S : Type 0} → Option S → InUse → InUse → Type 0
ReadsConsoleMemory plan old new = (file : Identity) × ReadsConsolePlan plan (console_files_read Memory file old) new
