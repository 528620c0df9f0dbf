-- A decoder as numbers. The bound below which nothing is decided isn't among them: it is computed again.
use Rattle.std.specs.Prelude.{◌≡◌, ◌==◌, Bool, List, ◌++◌, replicate}
use Rattle.swd_bits.specs.Bits.{bit, low_bits}
use Rattle.swd_trace.specs.declared.decoder.Decoder.{Decoder}
use Rattle.swd_trace.specs.declared.decoder.fields.DecoderFields.{DecoderFields}
use Rattle.swd_trace.specs.declared.item.Item.{Item}
use Rattle.swd_trace.specs.Modes.{decoder_mode_at, decoder_mode_number}
use Rattle.swd_trace.specs.Reading.{reading, reading_of}

abbrev pub decoder_fields : Decoder → DecoderFields
decoder_fields d = record {
  fed = d.fed;
  run = d.run;
  bits = d.bits;
  mode = decoder_mode_number d.mode;
  one = bit d.one;
  len = d.len;
}

-- some decoder has these numbers
abbrev pub IsDecoder : DecoderFields → Type 0
IsDecoder fields = (d : Decoder) × (decoder_fields d ≡ fields)

-- the reading of what the decoder with these numbers holds, and of later bits
unfoldable pub rest_in : DecoderFields → List Bool → List Item
rest_in f more = reading (decoder_mode_at f.mode) (replicate f.run (f.one == 1) ++ (low_bits f.len f.bits ++ more))

-- it was fed these bits and returned these items: with any later bits, the items and the reading of what it
-- holds are the reading of the bits
abbrev pub DecoderFieldsHaveRead : DecoderFields → List Bool → List Item → Type 0
DecoderFieldsHaveRead fields bits items = (more : List Bool) → items ++ rest_in fields more ≡ reading_of (bits ++ more)
