-- Successive words as the words of a plain memory (this project's choice).
use Rattle.std.specs.Prelude.{ℕ, ◌+◌, Option, Some, None, List, [], ◌∷◌, replicate}
use Rattle.std.specs.Ordering.{nat_cmp}
use Rattle.std.specs.FinMap.{FinMap, from_entries}
use Rattle.swd_port.specs.declared.access.Transfer.{Transfer}
use Rattle.swd_port.specs.PlainMemory.{PlainMemory}

-- words with their addresses, each 4 higher than the one before
abbrev pub target_words_addressed : ℕ → List ℕ → List (ℕ × ℕ)
target_words_addressed at [] = []
target_words_addressed at (word ∷ words) = (at, word) ∷ target_words_addressed (at + 4) words

-- the map of them
abbrev pub target_words_from : ℕ → List ℕ → FinMap nat_cmp ℕ
target_words_from base words = from_entries (target_words_addressed base words)

-- zero words from an address on, an empty log, and its capacity
abbrev pub target_zero_memory : ℕ → ℕ → ℕ → PlainMemory
target_zero_memory base words room = record
    { words = target_words_from base (replicate words 0); log = []; room = room }

-- an optional word as a list
abbrev pub target_word_list : Option ℕ → List ℕ
target_word_list None = []
target_word_list (Some word) = word ∷ []

-- an optional transfer as a log
abbrev pub target_transfer_list : Option Transfer → List Transfer
target_transfer_list None = []
target_transfer_list (Some transfer) = transfer ∷ []

-- at most one word, at an address, in place of a memory elsewhere, with the transfer that succeeded there, if any
abbrev pub target_window_after : ℕ → Option ℕ → Option Transfer → PlainMemory
target_window_after at word made = record {
  words = target_words_from at (target_word_list word);
  log = target_transfer_list made;
  room = 1;
}

-- the same before any transfer
abbrev pub target_window : ℕ → Option ℕ → PlainMemory
target_window at word = target_window_after at word None
