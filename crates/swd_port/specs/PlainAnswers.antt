-- How a plain memory answers accesses.
use Rattle.std.specs.Prelude.{ℕ, zero, suc, ◌+◌, ◌&&◌, Bool, true, false, if◌then◌else◌, List, [], ◌∷◌, ◌++◌, length}
use Rattle.std.specs.Prelude.{nat_lt, unwrap_or}
use Rattle.std.specs.Ordering.{nat_cmp}
use Rattle.std.specs.FinMap.{FinMap, insert, contains_key, get}
use Rattle.swd_port.specs.declared.access.Access.{Access}
use Rattle.swd_port.specs.declared.access.Access.TheVariants.{Read, Write}
use Rattle.swd_port.specs.declared.access.Answer.{Answer}
use Rattle.swd_port.specs.declared.access.Answer.TheVariants.{Value, Written, BusFault}
use Rattle.swd_port.specs.declared.access.Transfer.{Transfer}
use Rattle.swd_port.specs.PlainMemory.{PlainMemory, plain_address}

-- a transfer at this address succeeds: the address has a word, and the log has fewer entries than `room`
abbrev pub succeeds_at : ℕ → PlainMemory → Bool
succeeds_at at m = contains_key m.words at && nat_lt (length m.log) m.room

-- the word at an address
abbrev pub plain_word_at : ℕ → PlainMemory → ℕ
plain_word_at at m = unwrap_or (get m.words at) 0

-- the reads of `count` words, at an address, at that address plus 4, and so on
abbrev pub plain_reads : ℕ → ℕ → List Access
plain_reads at zero = []
plain_reads at (suc count) = Read at ∷ plain_reads (at + 4) count

-- the answer to an access that succeeds
abbrev pub plain_done_answer : Access → PlainMemory → Answer
plain_done_answer (Read at) m = Value (plain_word_at at m)
plain_done_answer (Write at word) m = Written

-- the words after an access that succeeds
abbrev pub plain_words_after : Access → FinMap nat_cmp ℕ → FinMap nat_cmp ℕ
plain_words_after (Read at) words = words
plain_words_after (Write at word) words = insert words at word

-- the log entry of an access that succeeds
abbrev pub plain_transfer_of : Access → PlainMemory → Transfer
plain_transfer_of (Read at) m = record { read = true; addr = at; word = plain_word_at at m }
plain_transfer_of (Write at word) m = record { read = false; addr = at; word = word }

-- the memory after an access that succeeds
abbrev pub plain_done : Access → PlainMemory → PlainMemory
plain_done a m = record m { words = plain_words_after a m.words; log = m.log ++ plain_transfer_of a m ∷ [] }

-- the answer to an access of the plain memory
abbrev pub plain_answer : Access → PlainMemory → Answer
plain_answer a m = if succeeds_at (plain_address a) m then plain_done_answer a m else BusFault

-- the memory after an access, which a bus error leaves unchanged
abbrev pub plain_after : Access → PlainMemory → PlainMemory
plain_after a m = if succeeds_at (plain_address a) m then plain_done a m else m
