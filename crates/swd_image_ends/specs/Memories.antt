-- The memory of a simulated target as bytes, and what a load, a verification and a dump mean for it.
use Rattle.std.specs.Prelude.{ℕ, ◌≡◌, ◌+◌, ◌<◌, ◌≤◌, ◌%◌, ◌^◌, List, [], ◌∷◌, length, Option, is_some}
use Rattle.std.specs.FinMap.{get}
use Rattle.std.specs.Int.{w32, from_le_bytes}
use Rattle.swd_port.specs.PlainMemory.{PlainMemory}
use Rattle.swd_image.specs.declared.verifying.ByteDifference.{ByteDifference}
use Rattle.swd_image.specs.Bytes.{image_bytes_at}
use Rattle.swd_image_files.specs.Images.{ImageFileBytes}
use Rattle.swd_image_ends.specs.Pieces.{ArePiecesLoaded, ComparesEachPiece}

-- the words of bytes, the least significant byte first; there are none of bytes after the last whole word
abbrev pub image_end_words_in : List ℕ → List ℕ
image_end_words_in [] = []
image_end_words_in (a ∷ []) = []
image_end_words_in (a ∷ b ∷ []) = []
image_end_words_in (a ∷ b ∷ c ∷ []) = []
image_end_words_in (a ∷ b ∷ c ∷ d ∷ rest) = from_le_bytes w32 (a ∷ b ∷ c ∷ d ∷ []) ∷ image_end_words_in rest

-- bytes from an address on that are whole words below 2^32
pub record AreImageEndWholeWords (base : ℕ) (bytes : List ℕ) : Type 0 where
  pub aligned : base % 4 ≡ 0
  pub words : length bytes % 4 ≡ 0
  pub fits : base + length bytes ≤ 2 ^ 32

-- a memory of so many words has room for this many transfers, if a log may have as many and the words
abbrev pub ImageEndHasRoom : ℕ → ℕ → PlainMemory → Type 0
ImageEndHasRoom words spare memory = 0 < words → words + spare < 2 ^ 32 → length memory.log + spare ≤ memory.room

-- no word appears or goes
abbrev pub ImageEndSameAddresses : PlainMemory → PlainMemory → Type 0
ImageEndSameAddresses before after = (q : ℕ) → is_some (get after.words q) ≡ is_some (get before.words q)

-- no word changes, appears or goes
abbrev pub ImageEndSameWords : PlainMemory → PlainMemory → Type 0
ImageEndSameWords before after = (q : ℕ) → get after.words q ≡ get before.words q

-- The pieces were loaded: each byte of a piece is that of the last piece that has its address, every other byte is
-- unchanged, and so are the addresses of the words.
pub record LoadsSimulatedMemory (pieces : List ImageFileBytes) (before after : PlainMemory) : Type 0 where
  pub loaded : ArePiecesLoaded pieces before after
  pub addresses : ImageEndSameAddresses before after

-- the pieces were compared with the memory, up to the first one that differs
pub record VerifiesSimulatedMemory (pieces : List ImageFileBytes) (difference : Option ByteDifference)
    (before after : PlainMemory) : Type 0 where
  pub compared : ComparesEachPiece before pieces difference
  pub words : ImageEndSameWords before after

-- `count` bytes of the memory were read
pub record DumpsSimulatedMemory (addr count : ℕ) (bytes : List ℕ) (before after : PlainMemory) : Type 0 where
  pub fits : addr + count ≤ 2 ^ 32
  pub are : bytes ≡ image_bytes_at before addr count
  pub words : ImageEndSameWords before after
