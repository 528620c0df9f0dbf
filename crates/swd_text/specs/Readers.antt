-- What is known of a reader of trace text.
use Rattle.std.specs.Prelude.{◌≡◌, false}
use Rattle.swd_text.specs.declared.reader.TextReader.{TextReader}

-- the sink that it gives bits to
abbrev pub text_reader_sink : {S : Type 0} → TextReader S → S
text_reader_sink reader = reader.sink

-- it has this sink, and took no bytes
pub record IsFreshTextReader {S : Type 0} (sink : S) (reader : TextReader S) : Type 0 where
  pub is : reader.sink ≡ sink
  pub outside : reader.scan ≡ false
  pub place : reader.place ≡ 0
