-- The error of a stream's last failed call, and the status where the reader of standard output is gone.
use Rattle.std.specs.Prelude.{◌≡◌, ◌⊎◌, ◌==◌, ◌||◌, not, ℕ, Bool, true, false, List, length, Option, None, Some}
use Rattle.std.specs.Prelude.{Result, Ok}
use Rattle.std.specs.Prelude.{Err}
use Rattle.std.specs.Prelude.{if◌then◌else◌}
use Rattle.std.specs.Option.{option_map}
use Rattle.std.specs.IoError.{error_kind}
use Rattle.std_io.specs.declared.io.error.Error.{Error}
use Rattle.std_io.specs.declared.io.kind.ErrorKind.{ErrorKind}
use Rattle.std_io.specs.declared.io.kind.ErrorKind.TheVariants.{BrokenPipe, WriteZero}
use Rattle.swd_console.specs.declared.open_files.Opened.{Opened}
use Rattle.swd_console.specs.declared.watched.Watched.{Watched}
use Rattle.swd_console.specs.Statuses.{CommandNotOpened}

-- the bytes of a watched stream are those of the stream itself
abbrev pub stream_watched : {S : Type 0} → (S → Option (List ℕ)) → Watched S → Option (List ℕ)
stream_watched bytes stream = bytes stream.stream

-- the kind of an error, if there is one
abbrev pub stream_error_kind : Option Error → Option ErrorKind
stream_error_kind error = option_map error_kind error

-- the kind that is kept after a call: that of its error, and without one the kind before
abbrev pub stream_kind_after_call : {V : Type 0} → Option ErrorKind → Result V Error → Option ErrorKind
stream_kind_after_call before (Ok value) = before
stream_kind_after_call before (Err error) = Some (error_kind error)

-- the same after a write, which fails with `WriteZero` if it takes none of some bytes
abbrev pub stream_kind_after_write : Option ErrorKind → Result ℕ Error → List ℕ → Option ErrorKind
stream_kind_after_write before (Ok count) bytes =
    if (length bytes == 0) || not (count == 0) then before else Some WriteZero
stream_kind_after_write before (Err error) bytes = Some (error_kind error)

-- the reader of what was written is gone
abbrev pub is_closed_stream_kind : ErrorKind → Bool
is_closed_stream_kind BrokenPipe = true
is_closed_stream_kind _ = false

abbrev pub is_command_stream_closed : Option Error → Bool
is_command_stream_closed None = false
is_command_stream_closed (Some error) = is_closed_stream_kind (error_kind error)

-- The status of a command by the error of standard output: 141 if its reader is gone, which is what a shell shows of a
-- program that was ended by SIGPIPE, signal 13. Otherwise the command's own.
abbrev pub command_status_over : Option Error → ℕ → ℕ
command_status_over error status = if is_command_stream_closed error then 141 else status

-- a command ends with the status that it has by P, or with 141
abbrev pub CommandEndsOver : Option Error → (ℕ → Type 0) → ℕ → Type 0
CommandEndsOver error P result = (status : ℕ) × P status × (result ≡ command_status_over error status)

-- The input of a command is in a file. It can't be opened, or it was opened so, and P holds of its text, of what is
-- left of that, and of what standard output held before and after. `remaining` is the text of a file, if it is known.
abbrev pub CommandReadsFile : {F : Type 0} → (Opened F → Type 0) → (F → Option (List ℕ)) → Option Error
    → (ℕ → Option (List ℕ) → Option (List ℕ) → Option (List ℕ) → Option (List ℕ) → Type 0) → ℕ → Option (List ℕ)
    → Option (List ℕ) → Type 0
CommandReadsFile {F} Opens remaining error P result old new =
    CommandNotOpened result old new
    ⊎ ((opened : Opened F) × Opens opened × (left : Option (List ℕ))
    × CommandEndsOver error (λ status. P status (remaining opened.file) left old new) result)
