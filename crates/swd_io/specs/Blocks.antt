-- Output that is written in blocks.
use Rattle.std.specs.Prelude.{◌≡◌, ℕ, ◌-◌, ◌^◌, ◌<◌, min, Bool, true, false, List, ◌++◌, length, take, Option, Result}
use Rattle.std.specs.Prelude.{Ok, Err}
use Rattle.std.specs.Io.KnownBytes.{Appends}
use Rattle.swd_io.specs.Helds.{block_buffer_bytes, block_buffer_count}
use Rattle.swd_io.specs.declared.block.Block.{Block}

-- how many bytes are buffered
abbrev pub block_buffer_len : {W : Type 0} → Block W → ℕ
block_buffer_len block = block_buffer_count block.held

-- whether the writer failed
abbrev pub block_writer_failed : {W : Type 0} → Block W → Bool
block_writer_failed block = block.failed

-- The writer began with `start`, and holds the output except for the buffered bytes. The count is that of the
-- written bytes, at most 2^64 - 1.
pub record BlockBufferCarries {W : Type 0} (contents : W → Option (List ℕ)) (start : Option (List ℕ)) (block : Block W)
    (all : List ℕ) : Type 0 where
  pub sent : List ℕ
  pub gone : Appends start (contents block.writer.now) sent
  pub whole : all ≡ sent ++ block_buffer_bytes block.held
  pub count : block.written ≡ min (length sent) (2 ^ 64 - 1)

-- The writer began with `start`, and exactly the first bytes of the output were written, not all of them.
-- `told` is how many, at most 2^64 - 1.
pub record OutputStopped (told : ℕ) (start now : Option (List ℕ)) (all : List ℕ) : Type 0 where
  pub sent : ℕ
  pub short : sent < length all
  pub gone : Appends start now (take sent all)
  pub count : told ≡ min sent (2 ^ 64 - 1)

abbrev pub BlockBufferSendsBy : {W : Type 0} → Bool → (W → Option (List ℕ)) → Option (List ℕ) → Block W → List ℕ
    → Type 0
BlockBufferSendsBy false contents start block all = BlockBufferCarries contents start block all
BlockBufferSendsBy true contents start block all = OutputStopped block.written start (contents block.writer.now) all

-- a writer that began with `start` holds the output except for the buffered bytes, or the writer failed
abbrev pub BlockBufferSends : {W : Type 0} → (W → Option (List ℕ)) → Option (List ℕ) → Block W → List ℕ → Type 0
BlockBufferSends contents start block all = BlockBufferSendsBy block.failed contents start block all

-- the output of a block buffer has this text more, whatever its writer began with and whatever the output was
abbrev pub BlockQueues : {W : Type 0} → (W → Option (List ℕ)) → List ℕ → Block W → Block W → Type 0
BlockQueues contents text old new = (start : Option (List ℕ)) (all : List ℕ)
    → BlockBufferSends contents start old all → BlockBufferSends contents start new (all ++ text)

-- the whole output was written, or exactly its first bytes, as many as `told` says
abbrev pub WritesOutput : Result (Unit {0}) ℕ → Option (List ℕ) → Option (List ℕ) → List ℕ → Type 0
WritesOutput (Ok u) old new text = Appends old new text
WritesOutput (Err told) old new text = OutputStopped told old new text
