-- What is written for a trace text that is to be drawn.
use Rattle.std.specs.Prelude.{ℕ, List, [], Option, Result}
use Rattle.swd_resync.specs.declared.part.Part.{Part}
use Rattle.swd_text.specs.Outputs.{TextWrites}
use Rattle.swd_text.specs.declared.fault.DecodeFault.{DecodeFault}
use Rattle.swd_capture_text.specs.declared.reading.Reading.{Reading}
use Rattle.swd_capture_text.specs.Readings.{SourceDecides, SourceReadsAs}
use Rattle.swd_draw.specs.Drawings.{drawing}
use Rattle.swd_draw.specs.declared.drawing.DrawnForm.{DrawnForm}

-- what is written before the end of a text
abbrev pub no_drawing : List Part → List ℕ
no_drawing parts = []

-- What a result says of the reader's text, if its bytes are known, and of what is left of it. Also what the writer
-- holds before and after: at an error of the text or of the reader, nothing was written.
abbrev pub Draws : Reading → DrawnForm → Result (Unit {0}) DecodeFault → Option (List ℕ) → Option (List ℕ)
    → Option (List ℕ) → Option (List ℕ) → Type 0
Draws reading form = TextWrites (SourceDecides reading) (SourceReadsAs reading) no_drawing (drawing form)
