-- What is written for a trace text that is to be listed.
use Rattle.std.specs.Prelude.{◌≡◌, ℕ, Bool, List, Option, Result}
use Rattle.swd_trace.specs.declared.item.Item.{Item}
use Rattle.swd_trace.specs.Reading.{reading_of}
use Rattle.swd_trace.specs.Decided.{IsDecided}
use Rattle.swd_trace.specs.Texts.{listing}
use Rattle.swd_text.specs.Outputs.{TextWrites}
use Rattle.swd_text.specs.TextBits.{TextBitsAre}
use Rattle.swd_text.specs.declared.fault.DecodeFault.{DecodeFault}
use Rattle.swd_text.specs.declared.fault.DecodeFault.TheVariants.{Text, Read, Write}
use Rattle.swd_text.specs.declared.fault.TakeFault.{TakeFault}
use Rattle.swd_text.specs.declared.fault.TakeFault.TheVariants.{Text as NoText, Write as NoWrite}
use Rattle.swd_io.specs.declared.pieces.Unread.{Unread}
use Rattle.swd_io.specs.declared.pieces.Unread.TheVariants.{Reader, Consumer}

-- their reading is these items
abbrev pub BitsReadAs : List Bool → List Item → Type 0
BitsReadAs bits items = items ≡ reading_of bits

-- the text has fewer than 2^64 bits, and their reading is these items
abbrev pub DecodeTextReadsAs : List ℕ → List Item → Type 0
DecodeTextReadsAs text items = TextBitsAre (λ bits. BitsReadAs bits items) text

-- What a result says of the reader's text, if its bytes are known, of what the reader has left, and of what the writer
-- holds before and after: the listing of the items that the bits decide, or at the end of the text are read as.
abbrev pub Decodes : Result (Unit {0}) DecodeFault → Option (List ℕ) → Option (List ℕ) → Option (List ℕ)
    → Option (List ℕ) → Type 0
Decodes = TextWrites IsDecided BitsReadAs listing listing

-- why a text was not read to its end
abbrev pub decode_text_fault : Unread TakeFault → DecodeFault
decode_text_fault Reader = Read
decode_text_fault (Consumer (NoText fault)) = Text fault
decode_text_fault (Consumer (NoWrite told)) = Write told
