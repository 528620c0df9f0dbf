-- What is written for a trace text as it is read.
use Rattle.std.specs.Prelude.{◌≡◌, ℕ, ◌⊎◌, Bool, List, ◌++◌, Option, Result, Ok, Err, IfSome}
use Rattle.std.specs.Io.KnownBytes.{Appends, Consumes, IsAtEnd}
use Rattle.swd_io.specs.Blocks.{BlockBufferSends, OutputStopped}
use Rattle.swd_io.specs.declared.block.Block.{Block}
use Rattle.swd_text.specs.TextBits.{TextBitsAre, TextBitsBefore, TextBitsSoFar}
use Rattle.swd_text.specs.declared.fault.DecodeFault.{DecodeFault}
use Rattle.swd_text.specs.declared.fault.DecodeFault.TheVariants.{Text, Read, Write}

-- what a writer began with, and the name of its borrow
pub record OutputStart : Type 0 where
  pub from : Option (List ℕ)
  pub name : ℕ

-- the bits of a text decide things, such as items, and at its end they are read as things; the output for the former
-- is `out`, and that for the latter is `whole`
module _ {A : Type 0} (Decides ReadsAs : List Bool → A → Type 0) (out whole : A → List ℕ) where
  -- What a result says of the reader's text, if its bytes are known, of what the reader has left, and of what the
  -- writer holds before and after.
  abbrev pub TextWrites : Result (Unit {0}) DecodeFault → Option (List ℕ) → Option (List ℕ) → Option (List ℕ)
      → Option (List ℕ) → Type 0
  TextWrites (Ok u) text left old new =
      (x : A) × IsAtEnd left × IfSome text (TextBitsAre (λ bits. ReadsAs bits x)) × Appends old new (whole x)
  TextWrites (Err (Text fault)) text left old new =
      (x : A) × IfSome text (TextBitsBefore (λ bits. Decides bits x) fault) × Appends old new (out x)
  TextWrites (Err Read) text left old new =
      (read : List ℕ) × (x : A) × Consumes text left read × TextBitsAre (λ bits. Decides bits x) read
      × Appends old new (out x)
  TextWrites (Err (Write told)) text left old new =
      (read : List ℕ) × (x : A) × Consumes text left read
      × ((TextBitsSoFar (λ bits. Decides bits x) read × OutputStopped told old new (out x))
      ⊎ (IsAtEnd left × TextBitsAre (λ bits. ReadsAs bits x) read × OutputStopped told old new (whole x)))

  -- the same before the end of the output, of which a writer that began with `start` holds all but what is buffered
  abbrev pub TextQueues : {W : Type 0} → (W → Option (List ℕ)) → Result (Unit {0}) DecodeFault → Option (List ℕ)
      → Option (List ℕ) → Option (List ℕ) → Block W → Type 0
  TextQueues contents (Ok u) text left start block =
      (read : List ℕ) × (x : A) × Consumes text left read × IsAtEnd left × TextBitsAre (λ bits. ReadsAs bits x) read
      × BlockBufferSends contents start block (whole x)
  TextQueues contents (Err (Text fault)) text left start block =
      (read : List ℕ) × (x : A) × Consumes text left read
      × ((more : List ℕ) → TextBitsBefore (λ bits. Decides bits x) fault (read ++ more))
      × BlockBufferSends contents start block (out x)
  TextQueues contents (Err Read) text left start block =
      (read : List ℕ) × (x : A) × Consumes text left read × TextBitsAre (λ bits. Decides bits x) read
      × BlockBufferSends contents start block (out x)
  TextQueues contents (Err (Write told)) text left start block =
      (read : List ℕ) × (x : A) × Consumes text left read × TextBitsSoFar (λ bits. Decides bits x) read
      × OutputStopped told start (contents block.writer.now) (out x)

-- the output so far, whatever it is, was written: all of it, or exactly its first bytes
abbrev pub BlockEnds : {W : Type 0} → (W → Option (List ℕ)) → Result (Unit {0}) DecodeFault → Block W
    → Result (Unit {0}) DecodeFault → Block W → Type 0
BlockEnds contents read old result new =
    ((result ≡ read) × ((start : Option (List ℕ)) (all : List ℕ) → BlockBufferSends contents start old all
    → Appends start (contents new.writer.now) all))
    ⊎ ((told : ℕ) × (result ≡ Err (Write told)) × ((start : Option (List ℕ)) (all : List ℕ)
    → BlockBufferSends contents start old all → OutputStopped told start (contents new.writer.now) all))

-- the same, unless the writer failed before
abbrev pub TextOutputEnds : {W : Type 0} → (W → Option (List ℕ)) → Result (Unit {0}) DecodeFault → Block W
    → Result (Unit {0}) DecodeFault → Block W → Type 0
TextOutputEnds contents (Ok u) old result new = BlockEnds contents (Ok u) old result new
TextOutputEnds contents (Err (Text fault)) old result new = BlockEnds contents (Err (Text fault)) old result new
TextOutputEnds contents (Err Read) old result new = BlockEnds contents (Err Read) old result new
TextOutputEnds contents (Err (Write told)) old result new = (result ≡ Err (Write told)) × (new ≡ old)
