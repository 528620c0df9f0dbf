-- How the bits of a text are read, and which parts they decide.
use Rattle.std.specs.Prelude.{◌≡◌, ◌<◌, Bool, List, map}
use Rattle.swd_trace.specs.declared.item.Item.{Item}
use Rattle.swd_trace.specs.Reading.{reading_of}
use Rattle.swd_trace.specs.Decided.{IsDecided}
use Rattle.swd_resync.specs.declared.part.Part.{Part}
use Rattle.swd_resync.specs.declared.part.Part.TheVariants.{Item as Told}
use Rattle.swd_resync.specs.declared.decoder.CaptureDecoder.{CaptureDecoder}
use Rattle.swd_resync.specs.Parts.{resync_parts_of}
use Rattle.swd_resync.specs.Decoding.{ResyncHasRead, resync_held_len}
use Rattle.swd_capture_text.specs.declared.reading.Reading.{Reading}
use Rattle.swd_capture_text.specs.declared.reading.Reading.TheVariants.{Trace, Capture}

-- the parts of bits: the items of a trace, or a capture's
abbrev pub source_reading_parts : Reading → List Bool → List Part
source_reading_parts Trace bits = map Told (reading_of bits)
source_reading_parts (Capture over) bits = resync_parts_of over bits

-- Parts that bits decide: no later bits can change them. For a trace these are all such items. For a capture they are
-- the parts before the bits that a decoder holds: fewer than 142, apart from a count of zeros and a count of the bits
-- of an unfinished part.
abbrev pub SourceDecides : Reading → List Bool → List Part → Type 0
SourceDecides Trace bits parts = (items : List Item) × (parts ≡ map Told items) × IsDecided bits items
SourceDecides (Capture over) bits parts =
    (decoder : CaptureDecoder) × ResyncHasRead over decoder bits parts × (resync_held_len decoder < 142)

-- these are the parts of the bits
abbrev pub SourceReadsAs : Reading → List Bool → List Part → Type 0
SourceReadsAs reading bits parts = parts ≡ source_reading_parts reading bits
