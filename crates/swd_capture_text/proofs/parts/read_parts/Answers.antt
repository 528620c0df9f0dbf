use Rattle.std.proofs.Common.{ℕ, List, [], Option, Err, inl, inr, refl}
use Rattle.swd_resync.specs.declared.part.Part.{Part}
use Rattle.swd_text.specs.Sinks.{LeadsSinkOn, LeadsSinkToStop, SinkStopsAfter, TextGoesTo}
use Rattle.swd_text.specs.TextBits.{TextBitsSoFar}
use Rattle.swd_text.specs.declared.fault.DecodeFault.{DecodeFault}
use Rattle.swd_text.specs.declared.fault.DecodeFault.TheVariants.{Text, Read, Write}
use Rattle.swd_capture_text.specs.PartSinks.{PartStart, PartReaderHasTaken, PartReaderStops, PartsGoTo}
use Rattle.swd_capture_text.specs.Readings.{source_reading_parts}
use Rattle.swd_capture_text.specs.declared.parts.PartReader.{PartReader}
use Rattle.swd_capture_text.proofs.PartLemmas.{part_reader_begins}
use Rattle.swd_capture_text.proofs.parts.read_parts.Goals as goal

module _ {K W : Type 0} (led : K × W → List Part → K × W → Type 0) (stops : K × W → ℕ → K × W → Type 0) where
  unread : (start : PartStart (K × W)) (fault : DecodeFault) (text left : Option (List ℕ)) (before : PartReader K × W)
      (now : W) → PartReaderHasTaken led start before []
      → TextGoesTo (LeadsSinkOn (PartReaderHasTaken led))
      (LeadsSinkToStop (PartReaderHasTaken led) (PartReaderStops led stops)) (Err fault) text left before now
      → PartsGoTo led stops start.reading (Err fault) text left start.from now
  unread start (Text fault) text left before now h r =
      let x = r.3.goes start [] h in
      (r.0, x.parts, r.1.sink, r.2, (λ more. (r.3.bits, r.3.stops more, x.decides)), x.gathers.goes)
  unread start Read text left before now h r =
      let x = r.3.2 start [] h in
      (r.0, x.parts, r.1.sink, r.2, (r.3.0, r.3.1, x.decides), x.gathers.goes)
  unread start (Write told) text left before now h r = stopped r.3
    where
      stopped : TextBitsSoFar (SinkStopsAfter (LeadsSinkOn (PartReaderHasTaken led))
          (LeadsSinkToStop (PartReaderHasTaken led) (PartReaderStops led stops)) before told (r.1, now)) r.0
          → PartsGoTo led stops start.reading (Err (Write told)) text left start.from now
      stopped (inl s) =
          let x = s.2.2 start s.0 (s.2.1 start [] h) in
          (r.0, x.parts, r.1.sink, r.2, inl (s.0, s.1, x.decides), (x.last, x.goes, x.stopped))
      stopped (inr s) =
          let x = s.1.2.2 start s.1.0 (s.1.2.1 start [] h) in
          (r.0, x.parts, r.1.sink, r.2, inr (s.0, (s.1.0, s.1.1, x.decides)), (x.last, x.goes, x.stopped))

pub returns-in-Ok : goal.returns-in-Ok
returns-in-Ok g c =
    let reading = c.args.reading in
    let from : g.row.K.Denot × g.row.W.Denot = (c.args.sink, c.args.writer.now) in
    let r = c.in-Ok.ensures in
    let bits = r.3.0 in
    let start : PartStart _ = record { reading = reading; from = from } in
    let h = r.3.2 start [] (part_reader_begins g.K.PartSink.led reading c.args.sink _ c.args.writer.now
    g.met.K.PartSink.led_nowhere c.new-parts.ensures) in (
      r.0,
      source_reading_parts reading bits,
      r.1,
      r.2,
      (bits, r.3.1, refl),
      c.finish.ensures start bits h,
    )

pub returns-in-Err : goal.returns-in-Err
returns-in-Err g c =
    let reading = c.args.reading in
    let from : g.row.K.Denot × g.row.W.Denot = (c.args.sink, c.args.writer.now) in
    let text = g.R.Read.remaining c.args.reader.now in
    let left = g.R.Read.remaining c.read_text.new.reader in
    unread g.K.PartSink.led g.K.PartSink.stops (record { reading = reading; from = from }) c.in-Err.fault text left _
    c.read_text.new.writer (part_reader_begins g.K.PartSink.led reading c.args.sink _ c.args.writer.now
    g.met.K.PartSink.led_nowhere c.new-parts.ensures) c.in-Err.ensures
