-- What holds of images of which no two pieces have an address, and what calls mean for the memory of a simulated
-- target.
use Rattle.std.specs.Prelude.{ℕ, ◌≡◌, ◌+◌, ◌<◌, List, ◌∷◌, ◌++◌, length, slice_index, Option}
use Rattle.swd_port.specs.PlainMemory.{PlainMemory}
use Rattle.swd_port.specs.PlainBus.{bus_of, plain_of}
use Rattle.swd_host.specs.Reports.{IsAtRest}
use Rattle.swd_target.specs.declared.bench.Bench.{Bench}
use Rattle.swd_target.specs.Benches.{bench_port}
use Rattle.swd_run.specs.declared.limits.Limits.{Limits}
use Rattle.swd_image.specs.declared.verifying.ByteDifference.{ByteDifference}
use Rattle.swd_image.specs.Bytes.{image_byte_at}
use Rattle.swd_image.specs.Dumps.{Dumps}
use Rattle.swd_image_files.specs.declared.image.Range.{Range}
use Rattle.swd_image_files.specs.Images.{ImageFileBytes, image_file_pieces}
use Rattle.swd_image_files.specs.Overlaps.{AreImageRangesApart}
use Rattle.swd_image_ends.specs.Came.{image_bench_wire}
use Rattle.swd_image_ends.specs.Memories.{DumpsSimulatedMemory, LoadsSimulatedMemory, VerifiesSimulatedMemory}
use Rattle.swd_image_ends.specs.Pieces.{ArePiecesLoaded, LoadsAll, VerifiesAll}

-- a memory into which such an image was loaded has each byte of each piece
abbrev pub LoadKeepsEachPiece : Type 0
LoadKeepsEachPiece =
    (ranges : List Range) (bytes : List ℕ) (m n : PlainMemory) → AreImageRangesApart ranges
    → ArePiecesLoaded (image_file_pieces ranges bytes) m n
    → (before after : List ImageFileBytes) (piece : ImageFileBytes)
    → image_file_pieces ranges bytes ≡ before ++ (piece ∷ after)
    → (k : ℕ) → k < length piece.bytes → image_byte_at n (piece.addr + k) ≡ slice_index piece.bytes k

-- WORDS STAY. At a simulated target at rest, an image that was loaded is in the memory, and no word appears or goes; a
-- verification and a dump say what its bytes are, and change no word.
pub record ImageWordsStay (A : Type 0) (limits : Limits) (s t : Bench PlainMemory A) : Type 0 where
  pub loads : (pieces : List ImageFileBytes) → LoadsAll (image_bench_wire A) limits pieces s t
      → LoadsSimulatedMemory pieces (plain_of (bench_port bus_of s).target.memory)
      (plain_of (bench_port bus_of t).target.memory)
  pub verifies : (pieces : List ImageFileBytes) (difference : Option ByteDifference)
      → VerifiesAll (image_bench_wire A) limits pieces difference s t
      → VerifiesSimulatedMemory pieces difference (plain_of (bench_port bus_of s).target.memory)
      (plain_of (bench_port bus_of t).target.memory)
  pub dumps : (addr count : ℕ) (bytes : List ℕ) → Dumps (image_bench_wire A) limits addr count bytes s t
      → DumpsSimulatedMemory addr count bytes (plain_of (bench_port bus_of s).target.memory)
      (plain_of (bench_port bus_of t).target.memory)

abbrev pub WordsStay : Type 0 → Type 0
WordsStay A =
    (limits : Limits) (s t : Bench PlainMemory A) → IsAtRest (bench_port bus_of s) → ImageWordsStay A limits s t
