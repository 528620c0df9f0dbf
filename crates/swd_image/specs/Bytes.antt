-- The bytes of a memory of words, little-endian (this project's choice).
use Rattle.std.specs.Prelude.{ℕ, zero, suc, ◌+◌, ◌-◌, ◌/◌, ◌%◌, List, [], ◌∷◌, slice_index, unwrap_or}
use Rattle.std.specs.FinMap.{FinMap, get}
use Rattle.std.specs.Int.{w32, to_le_bytes}
use Rattle.std.specs.Ordering.{nat_cmp}
use Rattle.swd_port.specs.PlainMemory.{PlainMemory}

-- the byte at an address, in the word that contains it
abbrev pub image_byte_in : ℕ → ℕ → ℕ
image_byte_in word at = slice_index (to_le_bytes w32 word) (at % 4)

-- the address of the word that contains the byte at an address
abbrev pub image_word_of : ℕ → ℕ
image_word_of at = at - at % 4

-- the word at an address, 0 if the memory has no such word
abbrev pub image_word_in : FinMap nat_cmp ℕ → ℕ → ℕ
image_word_in words at = unwrap_or (get words at) 0

-- the byte at an address of a memory
abbrev pub image_byte_at : PlainMemory → ℕ → ℕ
image_byte_at m at = image_byte_in (image_word_in m.words (image_word_of at)) at

-- `count` bytes of a memory from an address on
abbrev pub image_bytes_at : PlainMemory → ℕ → ℕ → List ℕ
image_bytes_at m at zero = []
image_bytes_at m at (suc count) = image_byte_at m at ∷ image_bytes_at m (at + 1) count

-- `count` words of a memory from an address on
abbrev pub image_words_at : FinMap nat_cmp ℕ → ℕ → ℕ → List ℕ
image_words_at words at zero = []
image_words_at words at (suc count) = image_word_in words at ∷ image_words_at words (at + 4) count

-- `count` bytes of consecutive words, from byte `place` on
abbrev pub image_bytes_of : List ℕ → ℕ → ℕ → List ℕ
image_bytes_of words place zero = []
image_bytes_of words place (suc count) =
    image_byte_in (slice_index words (place / 4)) place ∷ image_bytes_of words (place + 1) count
