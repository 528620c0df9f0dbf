-- Buses that are plain memories.
use Rattle.std.specs.Prelude.{ℕ, ◌≡◌, length, Option, Some, None, if◌then◌else◌, List, [], ◌∷◌}
use Rattle.std.specs.FinMap.{FinMap}
use Rattle.std.specs.Ordering.{nat_cmp}
use Rattle.swd_port.specs.Bus.{Bus}
use Rattle.swd_port.specs.declared.access.Access.{Access}
use Rattle.swd_port.specs.PlainMemory.{PlainMemory, plain_address}
use Rattle.swd_port.specs.PlainAnswers.{succeeds_at, plain_word_at, plain_after}

-- the memory after these accesses, the oldest first
abbrev pub plain_after_all : List Access → PlainMemory → PlainMemory
plain_after_all [] m = m
plain_after_all (a ∷ made) m = plain_after_all made (plain_after a m)

-- what a plain memory answers: the word at the address, if an access there succeeds
abbrev pub plain_result : Access → PlainMemory → Option ℕ
plain_result a m = if succeeds_at (plain_address a) m then Some (plain_word_at (plain_address a) m) else None

-- the bus that is this memory
abbrev pub bus_of : PlainMemory → Bus
bus_of m = record {
  answers = λ made a. plain_result a (plain_after_all made m);
  content = λ made. plain_after_all made m;
  log = m.log;
}

-- the memory that a bus is, if it is one
abbrev pub plain_of : Bus → PlainMemory
plain_of b = b.content []

-- the bus is a plain memory
abbrev pub IsPlain : Bus → Type 0
IsPlain b = b ≡ bus_of (plain_of b)

-- its words, and the number of transfers in its log
abbrev pub plain_words_of : Bus → FinMap nat_cmp ℕ
plain_words_of b = (plain_of b).words

abbrev pub plain_logged : Bus → ℕ
plain_logged b = length (plain_of b).log
