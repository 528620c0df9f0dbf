-- Images of several pieces, which are loaded into a memory or compared with it in their order.
use Rattle.std.specs.Prelude.{ℕ, ◌≡◌, ◌+◌, ◌-◌, ◌≤◌, ◌⊎◌, ◌&&◌, nat_le, nat_lt, List, [], ◌∷◌, length, All, slice_index}
use Rattle.std.specs.Prelude.{Option, None, Some, if◌then◌else◌}
use Rattle.std.specs.FinMap.{get}
use Rattle.swd_port.specs.declared.wire.Wire.{Ghosts}
use Rattle.swd_port.specs.PlainMemory.{PlainMemory}
use Rattle.swd_port.specs.PlainBus.{plain_of}
use Rattle.swd_port.specs.PlainBus.{IsPlain}
use Rattle.swd_host.specs.Reports.{IsAtRest}
use Rattle.swd_run.specs.declared.limits.Limits.{Limits}
use Rattle.swd_image.specs.declared.fault.ImageFault.{ImageFault}
use Rattle.swd_image.specs.declared.verifying.ByteDifference.{ByteDifference}
use Rattle.swd_image.specs.Bytes.{image_byte_at, image_bytes_at}
use Rattle.swd_image.specs.Dumps.{ComparesImage, DumpFails, VerifiesImage}
use Rattle.swd_image.specs.Loads.{LoadFails, Loads}
use Rattle.swd_image_files.specs.declared.image.Image.{Image}
use Rattle.swd_image_files.specs.Images.{ImageFileBytes, image_file_pieces}

-- the pieces of an image, in their order
abbrev pub pieces_to_load : {A : Type 0} → Image A → List ImageFileBytes
pieces_to_load image = image_file_pieces image.ranges.items image.bytes.items

-- the byte at an address after a piece is loaded: the piece's byte, and outside the piece the byte before
abbrev pub loaded_piece_byte : ImageFileBytes → ℕ → ℕ → ℕ
loaded_piece_byte piece old at =
    if nat_le piece.addr at && nat_lt at (piece.addr + length piece.bytes) then slice_index piece.bytes
    (at - piece.addr) else old

-- the byte at an address after pieces are loaded in this order: that of the last piece that has the address, if any
abbrev pub loaded_pieces_byte : List ImageFileBytes → ℕ → ℕ → ℕ
loaded_pieces_byte [] old at = old
loaded_pieces_byte (piece ∷ rest) old at = loaded_pieces_byte rest (loaded_piece_byte piece old at) at

-- no byte of a piece is in the word at an address
abbrev pub IsBesideLoadedPiece : ℕ → ImageFileBytes → Type 0
IsBesideLoadedPiece at piece = (at + 4 ≤ piece.addr) ⊎ (piece.addr + length piece.bytes ≤ at)

-- The postcondition of a load of pieces: each byte of a piece is the piece's, and every other byte is unchanged. So is
-- each word without a byte of a piece, whether or not the memory has it.
pub record ArePiecesLoaded (pieces : List ImageFileBytes) (before after : PlainMemory) : Type 0 where
  pub bytes_are : (at : ℕ) → image_byte_at after at ≡ loaded_pieces_byte pieces (image_byte_at before at) at
  pub others : (at : ℕ) → All (IsBesideLoadedPiece at) pieces → get after.words at ≡ get before.words at

-- a memory has the bytes of all pieces; or this is the first byte that differs, of the first piece with such a byte
abbrev pub ComparesEachPiece : PlainMemory → List ImageFileBytes → Option ByteDifference → Type 0
ComparesEachPiece memory [] difference = difference ≡ None
ComparesEachPiece memory (piece ∷ rest) difference =
    ((found : ByteDifference) × (difference ≡ Some found)
    × ComparesImage piece.addr piece.bytes (image_bytes_at memory piece.addr (length piece.bytes)) (Some found))
    ⊎ (ComparesImage piece.addr piece.bytes (image_bytes_at memory piece.addr (length piece.bytes)) None
    × ComparesEachPiece memory rest difference)

module _ {W : Type 0} (wire : Ghosts W) (limits : Limits) where
  -- each piece was loaded, from one state of the wire to the next
  abbrev pub LoadsEach : List ImageFileBytes → W → W → Type 0
  LoadsEach [] s u = u ≡ s
  LoadsEach (piece ∷ rest) s u =
      (t : W) × Loads wire limits piece.addr piece.bytes s t × LoadsEach rest t u

  -- The pieces were loaded. If the wire was lawful, the target at rest and the bus a plain memory, this contains them,
  -- and nothing else of it changed. The target is then at rest again.
  pub record LoadsAll (pieces : List ImageFileBytes) (s u : W) : Type 0 where
    pub each : LoadsEach pieces s u
    pub memory : wire.lawful u → IsAtRest (wire.port s) → IsPlain (wire.port s).target.memory
        → ArePiecesLoaded pieces (plain_of (wire.port s).target.memory) (plain_of (wire.port u).target.memory)
        × IsAtRest (wire.port u) × IsPlain (wire.port u).target.memory

  -- the error of such a load: that of the first piece that failed, after those before it were loaded
  abbrev pub LoadFailsAt : List ImageFileBytes → W → W → ImageFault → Type 0
  LoadFailsAt [] s u fault = ⊥
  LoadFailsAt (piece ∷ rest) s u fault =
      LoadFails wire limits piece.addr piece.bytes s u fault
      ⊎ ((t : W) × Loads wire limits piece.addr piece.bytes s t × LoadFailsAt rest t u fault)

  -- each piece was read and compared, from one state of the wire to the next, up to the first one that differs
  abbrev pub VerifiesEach : List ImageFileBytes → Option ByteDifference → W → W → Type 0
  VerifiesEach [] difference s u = (difference ≡ None) × (u ≡ s)
  VerifiesEach (piece ∷ rest) difference s u =
      ((found : ByteDifference) × (difference ≡ Some found)
      × VerifiesImage wire limits piece.addr piece.bytes (Some found) s u)
      ⊎ ((t : W) × VerifiesImage wire limits piece.addr piece.bytes None s t
      × VerifiesEach rest difference t u)

  -- The pieces were read and compared. If the wire was lawful and the target at rest, the result holds for the memory.
  pub record VerifiesAll (pieces : List ImageFileBytes) (difference : Option ByteDifference) (s u : W) : Type 0 where
    pub each : VerifiesEach pieces difference s u
    pub memory : wire.lawful u → IsAtRest (wire.port s) → IsPlain (wire.port s).target.memory
        → ComparesEachPiece (plain_of (wire.port s).target.memory) pieces difference

  -- the error of such a verification: that of the first piece that failed, after those before it had no difference
  abbrev pub VerifyFailsAt : List ImageFileBytes → W → W → ImageFault → Type 0
  VerifyFailsAt [] s u fault = ⊥
  VerifyFailsAt (piece ∷ rest) s u fault =
      DumpFails wire limits piece.addr (length piece.bytes) s u fault
      ⊎ ((t : W) × VerifiesImage wire limits piece.addr piece.bytes None s t
      × VerifyFailsAt rest t u fault)
