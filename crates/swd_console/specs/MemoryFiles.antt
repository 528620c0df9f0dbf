-- The file of a simulated target's memory.
use Rattle.std.specs.Prelude.{ℕ, ◌≡◌, List, take, Option, Result, Ok, Err}
use Rattle.std.specs.Io.KnownBytes.{Appends}
use Rattle.swd_port.specs.PlainMemory.{PlainMemory}
use Rattle.swd_image.specs.Bytes.{image_bytes_at}

-- `count` bytes of a memory were written to its file, or only the first of them with the status 2
abbrev pub CommandWritesBack : PlainMemory → ℕ → ℕ → Result (Unit {0}) ℕ → Option (List ℕ) → Option (List ℕ) → Type 0
CommandWritesBack after base count (Ok done) old new = Appends old new (image_bytes_at after base count)
CommandWritesBack after base count (Err status) old new =
    (status ≡ 2) × (sent : ℕ) × Appends old new (take sent (image_bytes_at after base count))
