-- Laws of the parts of a trace text that are given to a sink.
use Rattle.std.proofs.Common.{◌≡◌, ℕ, ◌+◌, ◌^◌, ◌<◌, Bool, List, [], ◌++◌, length, ◌∙◌, arith, subst, sym}
use Rattle.std.proofs.lemmas.List.{length-append}
use Rattle.swd_resync.specs.declared.part.Part.{Part}
use Rattle.swd_capture_text.specs.PartSinks.{IsFreshPartReader, PartReaderHasTaken, PartStart, PartsGather}
use Rattle.swd_capture_text.specs.declared.parts.PartReader.{PartReader}
use Rattle.swd_capture_text.specs.declared.reading.Reading.{Reading}
use Rattle.swd_capture_text.specs.declared.source.Source.{Source}
use Rattle.swd_capture_text.specs.Sources.{SourceHas, source_fed}

module _ {K W : Type 0} (led : K × W → List Part → K × W → Type 0) where
  -- more parts are returned, and given to the sink
  pub parts_gather_more : ((a b c : K × W) (first next : List Part) → led a first b → led b next c
      → led a (first ++ next) c) → (start : PartStart (K × W)) (before after : Source) (old new : K × W)
      (bits : List Bool) (parts next : List Part)
      → (SourceHas start.reading before bits parts → SourceHas start.reading after bits (parts ++ next))
      → source_fed after ≡ source_fed before → led old next new → PartsGather led start before old bits parts
      → PartsGather led start after new bits (parts ++ next)
  parts_gather_more led_on start before after old new bits parts next gives fed goes h = record {
    has = gives h.has;
    count = fed ∙ h.count;
    counted = h.counted;
    goes = led_on start.from old new parts next h.goes goes;
  }

  -- more bits are taken
  pub parts_gather_bits : (start : PartStart (K × W)) (before after : Source) (now : K × W) (bits next : List Bool)
      (parts : List Part) (n : ℕ)
      → (SourceHas start.reading before bits parts → SourceHas start.reading after (bits ++ next) parts)
      → source_fed after ≡ source_fed before + n → length next ≡ n → source_fed before + n < 2 ^ 64
      → PartsGather led start before now bits parts → PartsGather led start after now (bits ++ next) parts
  parts_gather_bits start before after now bits next parts n takes fed same few h =
      let count = h.count in
      let len : length (bits ++ next) ≡ length bits + length next = length-append bits next in
      record {
        has = takes h.has;
        count = omega arith;
        counted = omega arith;
        goes = h.goes;
      }

  -- more bits are taken, and a part is returned and given to the sink
  pub parts_gather_followed : ((a b c : K × W) (first next : List Part) → led a first b → led b next c
      → led a (first ++ next) c) → (start : PartStart (K × W)) (before after : Source) (old new : K × W)
      (bits next : List Bool) (parts more : List Part) (n : ℕ)
      → (SourceHas start.reading before bits parts → SourceHas start.reading after (bits ++ next) (parts ++ more))
      → source_fed after ≡ source_fed before + n → length next ≡ n → source_fed before + n < 2 ^ 64
      → led old more new → PartsGather led start before old bits parts
      → PartsGather led start after new (bits ++ next) (parts ++ more)
  parts_gather_followed led_on start before after old new bits next parts more n gives fed same few goes h =
      let count = h.count in
      let len : length (bits ++ next) ≡ length bits + length next = length-append bits next in
      record {
        has = gives h.has;
        count = omega arith;
        counted = omega arith;
        goes = led_on start.from old new parts more h.goes goes;
      }

  -- a reader of parts that took no bits
  pub part_reader_begins : (reading : Reading) (sink : K) (reader : PartReader K) (writer : W)
      → ((a : K × W) → led a [] a) → IsFreshPartReader reading sink reader
      → PartReaderHasTaken led (record { reading = reading; from = (sink, writer) }) (reader, writer) []
  part_reader_begins reading sink reader writer nowhere fresh = record {
    parts = [];
    gathers = record {
      has = fresh.has;
      count = fresh.count;
      counted = omega arith;
      goes = subst (λ s. led (sink, writer) [] (s, writer)) (sym fresh.is) (nowhere (sink, writer));
    };
    decides = fresh.decides;
  }
