-- Input that is read piece by piece.
use Rattle.std.specs.Prelude.{◌≡◌, ℕ, List, ◌++◌, Option, Result, Ok, Err, IfSome}
use Rattle.std.specs.Io.KnownBytes.{Consumes, IsAtEnd}
use Rattle.swd_io.specs.declared.pieces.Unread.{Unread}
use Rattle.swd_io.specs.declared.pieces.Unread.TheVariants.{Reader, Consumer}

-- the consumer's fault, or another one if the reader failed
abbrev pub consumer_fault_or : {F : Type 0} → Unread F → F → F
consumer_fault_or Reader other = other
consumer_fault_or (Consumer fault) other = fault

-- the reader's input is `text`, if it is known
abbrev pub IsReaderText : Option (List ℕ) → List ℕ → Type 0
IsReaderText known text = IfSome known (λ all. all ≡ text)

-- what the consumer's fault says of an input; a reader that failed says nothing of it
abbrev pub IsUnreadByConsumer : {F : Type 0} → (F → List ℕ → Type 0) → Unread F → List ℕ → Type 0
IsUnreadByConsumer Refuses Reader text = Unit {0}
IsUnreadByConsumer Refuses (Consumer fault) text = Refuses fault text

-- The bytes that were read, all of them or not, took a consumer from one state to another, or made it stop.
abbrev pub ConsumerReads : {C F : Type 0} → (C → List ℕ → C → Type 0) → (C → List ℕ → F → C → Type 0) →
    Result (Unit {0}) (Unread F) → Option (List ℕ) → Option (List ℕ) → C → C → Type 0
ConsumerReads takes stops (Ok u) old new before after =
    (text : List ℕ) × Consumes old new text × IsAtEnd new × takes before text after
ConsumerReads takes stops (Err Reader) old new before after = (text : List ℕ) × Consumes old new text
    × takes before text after
ConsumerReads takes stops (Err (Consumer fault)) old new before after =
    (text : List ℕ) × Consumes old new text × stops before text fault after

-- A consumer that has read any bytes has now read these bytes too. The index is what the bytes are read
-- against, such as what a writer began with.
abbrev pub LeadsConsumerOn : {I C : Type 0} → (I → C → List ℕ → Type 0) → C → List ℕ → C → Type 0
LeadsConsumerOn {I} HasRead before bytes after =
    (i : I) (seen : List ℕ) → HasRead i before seen → HasRead i after (seen ++ bytes)

-- A consumer that has read any bytes ends with a fault at these bytes.
abbrev pub LeadsConsumerToEnd : {I C F : Type 0} → (I → C → List ℕ → Type 0) → (I → C → F → List ℕ → Type 0) →
    C → List ℕ → F → C → Type 0
LeadsConsumerToEnd {I} HasRead Ends before bytes fault after =
    (i : I) (seen : List ℕ) → HasRead i before seen → Ends i after fault (seen ++ bytes)
