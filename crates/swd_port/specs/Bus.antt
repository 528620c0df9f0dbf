-- The bus behind the access port: whatever answers accesses, memory or registers. All of it is this project's choice;
-- the standard leaves the memory system open.
use Rattle.std.specs.Prelude.{ℕ, true, false, Bool, Option, if◌then◌else◌, List, [], ◌∷◌, ◌++◌, is_some, unwrap_or}
use Rattle.swd_port.specs.declared.access.Access.{Access}
use Rattle.swd_port.specs.declared.access.Access.TheVariants.{Read, Write}
use Rattle.swd_port.specs.declared.access.Answer.{Answer}
use Rattle.swd_port.specs.declared.access.Answer.TheVariants.{Value, Written, BusFault}
use Rattle.swd_port.specs.declared.access.Transfer.{Transfer}
use Rattle.swd_port.specs.PlainMemory.{PlainMemory}

-- What a bus does from now on, and the transfers that succeeded so far, the oldest first. How it answers an access may
-- depend in any way on the accesses that it got: a status flag may change by itself, a read may have side effects, a
-- write may be ignored. A device that changes with time is covered too: in one run each access comes after another
-- list of accesses.
pub record Bus : Type 0 where
  -- After these further accesses, the oldest first, the answer to the next one: a bus error, or the word that a read
  -- returns. The word is of no meaning for a write.
  pub answers : List Access → Access → Option ℕ
  -- The simulated memory that this bus is, after these further accesses. Of any other bus it is arbitrary: no rule of
  -- the model looks at it.
  pub content : List Access → PlainMemory
  pub log : List Transfer

-- the access succeeds
abbrev pub bus_succeeds : Access → Bus → Bool
bus_succeeds a b = is_some (b.answers [] a)

-- the word that a read of this address returns
abbrev pub bus_word_at : ℕ → Bus → ℕ
bus_word_at at b = unwrap_or (b.answers [] (Read at)) 0

-- the answer to an access that succeeds
abbrev pub bus_done_answer : Access → Bus → Answer
bus_done_answer (Read at) b = Value (bus_word_at at b)
bus_done_answer (Write at word) b = Written

-- the log entry of an access that succeeds
abbrev pub bus_transfer_of : Access → Bus → Transfer
bus_transfer_of (Read at) b = record { read = true; addr = at; word = bus_word_at at b }
bus_transfer_of (Write at word) b = record { read = false; addr = at; word = word }

-- the answer to an access
abbrev pub bus_answer : Access → Bus → Answer
bus_answer a b = if bus_succeeds a b then bus_done_answer a b else BusFault

-- the log after an access: a bus error isn't logged
abbrev pub bus_log_after : Access → Bus → List Transfer
bus_log_after a b = if bus_succeeds a b then b.log ++ bus_transfer_of a b ∷ [] else b.log

-- the bus after an access, which a bus error may change too
abbrev pub bus_after : Access → Bus → Bus
bus_after a b = record {
  answers = λ made. b.answers (a ∷ made);
  content = λ made. b.content (a ∷ made);
  log = bus_log_after a b;
}
