-- The accesses of a load and of a dump.
use Rattle.std.specs.Prelude.{ℕ, zero, suc, ◌+◌, ◌-◌, ◌/◌, ◌%◌, ◌==◌, ◌&&◌, ◌||◌, nat_lt, Bool, List, [], ◌∷◌}
use Rattle.std.specs.Prelude.{◌++◌, length, if◌then◌else◌}
use Rattle.swd_port.specs.declared.access.Access.{Access}
use Rattle.swd_port.specs.declared.access.Access.TheVariants.{Read, Write}
use Rattle.swd_port.specs.PlainAnswers.{plain_reads}
use Rattle.swd_image.specs.Bytes.{image_word_of}
use Rattle.swd_image.specs.Images.{image_word}

-- how many words contain a byte of a range
abbrev pub image_word_count : ℕ → ℕ → ℕ
image_word_count addr len = if len == 0 then 0 else (addr % 4 + len + 3) / 4

-- the address of the last one
abbrev pub image_last_word : ℕ → ℕ → ℕ
image_last_word addr len = image_word_of (addr + len - 1)

-- the word at an address has a byte outside the range
abbrev pub is_partial_image_word : ℕ → ℕ → ℕ → Bool
is_partial_image_word addr len at = nat_lt at addr || nat_lt (addr + len) (at + 4)

-- a load reads the first word if there is one and it is partial, and the last word if it is another one and partial
abbrev pub image_needs_head : ℕ → ℕ → Bool
image_needs_head addr len = nat_lt 0 len && is_partial_image_word addr len (image_word_of addr)

abbrev pub image_needs_tail : ℕ → ℕ → Bool
image_needs_tail addr len = nat_lt (image_word_of addr) (image_last_word addr len) && is_partial_image_word addr len
    (image_last_word addr len)

-- the read of a word if it is needed
abbrev pub image_read_if : Bool → ℕ → List Access
image_read_if needed at = if needed then Read at ∷ [] else []

-- the partial word at an address, of the first and the last one as they were read
abbrev pub image_edge_word : ℕ → ℕ → ℕ → ℕ → ℕ
image_edge_word addr head tail at = if nat_lt addr at then tail else head

-- writes of consecutive words, each word by its address
abbrev pub image_writes : (ℕ → ℕ) → ℕ → ℕ → List Access
image_writes word at zero = []
image_writes word at (suc count) = Write at (word at) ∷ image_writes word (at + 4) count

-- the word that is written at an address, over these partial words
abbrev pub image_loaded_word : ℕ → List ℕ → ℕ → ℕ → ℕ → ℕ
image_loaded_word addr bytes head tail at = image_word addr bytes (image_edge_word addr head tail at) at

-- the reads of a load: its partial words
abbrev pub image_edge_list : ℕ → ℕ → List Access
image_edge_list addr len = image_read_if (image_needs_head addr len) (image_word_of addr)
    ++ image_read_if (image_needs_tail addr len) (image_last_word addr len)

-- the words that they returned
abbrev pub image_word_if : Bool → ℕ → List ℕ
image_word_if needed word = if needed then word ∷ [] else []

abbrev pub image_edge_words : ℕ → ℕ → ℕ → ℕ → List ℕ
image_edge_words addr len head tail = image_word_if (image_needs_head addr len) head
    ++ image_word_if (image_needs_tail addr len) tail

-- and then its writes: each word once
abbrev pub image_load_list : ℕ → List ℕ → ℕ → ℕ → List Access
image_load_list addr bytes head tail =
    image_writes (image_loaded_word addr bytes head tail) (image_word_of addr) (image_word_count addr (length bytes))

-- the accesses of a dump
abbrev pub image_dump_list : ℕ → ℕ → List Access
image_dump_list addr len = plain_reads (image_word_of addr) (image_word_count addr len)
