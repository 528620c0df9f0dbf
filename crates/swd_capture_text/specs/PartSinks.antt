-- The parts of a trace text that are given to a sink as the text is read.
use Rattle.std.specs.Prelude.{◌≡◌, ℕ, ◌^◌, ◌<◌, Bool, List, [], ◌++◌, length, Option, Result, Ok, Err}
use Rattle.std.specs.Io.KnownBytes.{Consumes, IsAtEnd}
use Rattle.swd_resync.specs.declared.part.Part.{Part}
use Rattle.swd_text.specs.Sinks.{SinkStopsAfter}
use Rattle.swd_text.specs.declared.fault.DecodeFault.{DecodeFault}
use Rattle.swd_text.specs.declared.fault.DecodeFault.TheVariants.{Text, Read, Write}
use Rattle.swd_capture_text.specs.declared.parts.PartReader.{PartReader}
use Rattle.swd_capture_text.specs.declared.reading.Reading.{Reading}
use Rattle.swd_capture_text.specs.declared.source.Source.{Source}
use Rattle.swd_capture_text.specs.Captures.{CaptureTextDecides, CaptureTextReadsAs, CaptureTextStopsWith}
use Rattle.swd_capture_text.specs.Captures.{CaptureTextIsDue}
use Rattle.swd_capture_text.specs.Readings.{SourceDecides}
use Rattle.swd_capture_text.specs.Sources.{SourceHas, IsSourceReady, source_fed}

-- how the bits are read, and the state of a sink, and of what it writes to, before the first part
pub record PartStart (C : Type 0) : Type 0 where
  pub reading : Reading
  pub from : C

-- it has this sink, and took no bits
pub record IsFreshPartReader {K : Type 0} (reading : Reading) (sink : K) (reader : PartReader K) : Type 0 where
  pub is : reader.sink ≡ sink
  pub has : SourceHas reading reader.source [] []
  pub decides : SourceDecides reading [] []
  pub ready : IsSourceReady reader.source
  pub count : source_fed reader.source ≡ 0

module _ {K W : Type 0} (led : K × W → List Part → K × W → Type 0) where
  -- a source was fed these bits and returned these parts, and they led the sink, and what it writes to, here
  pub record PartsGather (start : PartStart (K × W)) (source : Source) (now : K × W) (bits : List Bool)
      (parts : List Part) : Type 0 where
    pub has : SourceHas start.reading source bits parts
    pub count : source_fed source ≡ length bits
    pub counted : length bits < 2 ^ 64
    pub goes : led start.from parts now

  -- a reader of parts was given these bits, and the parts that they decide led its sink here
  pub record PartReaderHasTaken (start : PartStart (K × W)) (state : PartReader K × W) (bits : List Bool) :
      Type 0 where
    pub parts : List Part
    pub gathers : PartsGather start state.0.source (state.0.sink, state.1) bits parts
    pub decides : SourceDecides start.reading bits parts

module _ {K W : Type 0} (led : K × W → List Part → K × W → Type 0) (stops : K × W → ℕ → K × W → Type 0) where
  -- the sink stopped after the parts that these bits decide
  pub record PartReaderStops (start : PartStart (K × W)) (state : PartReader K × W) (told : ℕ) (bits : List Bool) :
      Type 0 where
    pub parts : List Part
    pub decides : SourceDecides start.reading bits parts
    pub last : K × W
    pub goes : led start.from parts last
    pub stopped : stops last told (state.0.sink, state.1)

  -- What a result says of the reader's text, if its bytes are known, of what the reader has left, and of the sink and
  -- what it writes to.
  abbrev pub PartsGoTo : Reading → Result K DecodeFault → Option (List ℕ) → Option (List ℕ) → K × W → W → Type 0
  PartsGoTo reading (Ok sink) text left start now =
      (read : List ℕ) × (parts : List Part) × Consumes text left read × IsAtEnd left
      × CaptureTextReadsAs reading read parts × led start parts (sink, now)
  PartsGoTo reading (Err (Text fault)) text left start now =
      (read : List ℕ) × (parts : List Part) × (sink : K) × Consumes text left read
      × ((more : List ℕ) → CaptureTextStopsWith reading fault parts (read ++ more)) × led start parts (sink, now)
  PartsGoTo reading (Err Read) text left start now =
      (read : List ℕ) × (parts : List Part) × (sink : K) × Consumes text left read
      × CaptureTextDecides reading read parts × led start parts (sink, now)
  PartsGoTo reading (Err (Write told)) text left start now =
      (read : List ℕ) × (parts : List Part) × (sink : K) × Consumes text left read
      × CaptureTextIsDue reading read parts × SinkStopsAfter led stops start told (sink, now) parts
