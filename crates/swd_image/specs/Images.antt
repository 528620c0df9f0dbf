-- An image, which is bytes at an address, and a memory that contains it.
use Rattle.std.specs.Prelude.{ℕ, ◌≡◌, ◌+◌, ◌-◌, ◌<◌, ◌≤◌, ◌⊎◌, ◌&&◌, nat_le, nat_lt, List, [], ◌∷◌, length, slice_index}
use Rattle.std.specs.Prelude.{if◌then◌else◌}
use Rattle.std.specs.FinMap.{get}
use Rattle.std.specs.Int.{w32, from_le_bytes}
use Rattle.swd_port.specs.PlainMemory.{PlainMemory}
use Rattle.swd_image.specs.Bytes.{image_byte_at, image_byte_in, image_word_in, image_word_of}

-- the byte at an address after an image is loaded over a word: the image's byte, and outside the image the word's
abbrev pub image_byte : ℕ → List ℕ → ℕ → ℕ → ℕ
image_byte addr bytes word at =
    if nat_le addr at && nat_lt at (addr + length bytes) then slice_index bytes (at - addr) else image_byte_in word at

-- the word of four such bytes
abbrev pub image_word : ℕ → List ℕ → ℕ → ℕ → ℕ
image_word addr bytes word at =
    from_le_bytes w32 (image_byte addr bytes word at ∷ image_byte addr bytes word (at + 1)
    ∷ image_byte addr bytes word (at + 2) ∷ image_byte addr bytes word (at + 3) ∷ [])

-- The postcondition of a load: each byte of the image's range is the image's, and every other byte is unchanged. So is
-- each word without a byte of the range, whether or not the memory has it.
pub record IsImageLoaded (addr : ℕ) (bytes : List ℕ) (before after : PlainMemory) : Type 0 where
  pub bytes_are : (at : ℕ) → image_byte_at after at
      ≡ image_byte addr bytes (image_word_in before.words (image_word_of at)) at
  pub others : (at : ℕ) → (at + 4 ≤ addr) ⊎ (addr + length bytes ≤ at) → get after.words at ≡ get before.words at

-- the first byte that differs from the image: its address, and both bytes
pub record ImageDiffersAt (addr : ℕ) (bytes found : List ℕ) (at was wanted : ℕ) : Type 0 where
  pub place : ℕ
  pub below : place < length bytes
  pub address : at ≡ addr + place
  pub is_found : was ≡ slice_index found place
  pub is_wanted : wanted ≡ slice_index bytes place
  pub differs : was ≡ wanted → ⊥
  pub first : (i : ℕ) → i < place → slice_index found i ≡ slice_index bytes i
