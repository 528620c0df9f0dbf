-- A buffer of bytes.
use Rattle.std.specs.Prelude.{ℕ, List, take}
use Rattle.swd_io.specs.declared.held.HeldOutput.{HeldOutput}

-- the buffered bytes, and their number
abbrev pub block_buffer_bytes : HeldOutput → List ℕ
block_buffer_bytes held = take held.len held.bytes

abbrev pub block_buffer_count : HeldOutput → ℕ
block_buffer_count held = held.len
