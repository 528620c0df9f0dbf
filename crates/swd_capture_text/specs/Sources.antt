-- What a decoder for either reading has read.
use Rattle.std.specs.Prelude.{◌≡◌, ℕ, Bool, List, [], ◌++◌, map}
use Rattle.swd_trace.specs.declared.item.Item.{Item}
use Rattle.swd_trace.specs.Held as trace
use Rattle.swd_resync.specs.declared.part.Part.{Part}
use Rattle.swd_resync.specs.declared.part.Part.TheVariants.{Item as Told}
use Rattle.swd_resync.specs.Decoding as capture
use Rattle.swd_capture_text.specs.declared.reading.Reading.{Reading}
use Rattle.swd_capture_text.specs.declared.reading.Reading.TheVariants.{Trace, Capture}
use Rattle.swd_capture_text.specs.declared.source.Source.{Source}
use Rattle.swd_capture_text.specs.declared.source.Source.TheVariants.{Trace as OfTrace, Capture as OfCapture}
use Rattle.swd_capture_text.specs.Readings.{source_reading_parts}

-- it has this reading, was fed these bits and returned these parts
abbrev pub SourceHas : Reading → Source → List Bool → List Part → Type 0
SourceHas Trace (OfTrace d) bits parts = (items : List Item) × (parts ≡ map Told items)
    × trace.DecoderHasRead d bits items
SourceHas Trace (OfCapture d) bits parts = ⊥
SourceHas (Capture over) (OfTrace d) bits parts = ⊥
SourceHas (Capture over) (OfCapture d) bits parts = capture.ResyncHasRead over d bits parts

-- how many bits it was fed
abbrev pub source_fed : Source → ℕ
source_fed (OfTrace d) = trace.decoder_fed d
source_fed (OfCapture d) = capture.resync_fed d

-- no part is due
abbrev pub IsSourceReady : Source → Type 0
IsSourceReady (OfTrace d) = trace.IsDecoderSettled d
IsSourceReady (OfCapture d) = capture.ResyncSettled d

-- an upper bound on the number of parts returned before the next bit is taken
abbrev pub source_steps_left : Source → ℕ
source_steps_left (OfTrace d) = trace.decoder_places d
source_steps_left (OfCapture d) = capture.resync_steps_left d

-- the parts that it returns if the bits end here
abbrev pub source_last_parts : Source → List Part
source_last_parts (OfTrace d) = map Told (trace.decoder_rest d [])
source_last_parts (OfCapture d) = capture.resync_rest d []

-- with those, the parts that it returned are the reading of all the bits
abbrev pub SourceEndsAt : Reading → Source → List Bool → List Part → Type 0
SourceEndsAt reading source bits parts = parts ++ source_last_parts source ≡ source_reading_parts reading bits
