use Rattle.std.proofs.Common.{List, Bool, ◌≡◌}
use Rattle.swd_resync.specs.declared.part.Part.{Part}
use Rattle.swd_capture_text.specs.PartSinks.{PartStart, PartsGather}
use Rattle.swd_capture_text.specs.Sources.{source_fed, source_steps_left}
use Rattle.swd_capture_text.proofs.parts.give_due.Given as goal

abbrev pub invariant-loop-part : goal.invariant-loop-part
invariant-loop-part g l = record {
  gathers : (start : PartStart (g.row.K.Denot × g.row.W.Denot)) (bits : List Bool) (parts : List Part)
      → PartsGather g.K.PartSink.led start l.fn.reader.source (l.fn.reader.sink, l.fn.writer) bits parts
      → (more : List Part)
      × PartsGather g.K.PartSink.led start l.reader.source (l.reader.sink, l.writer) bits more;
  fed : source_fed l.reader.source ≡ source_fed l.fn.reader.source;
}

abbrev pub decreases-loop-part : goal.decreases-loop-part
decreases-loop-part g l = source_steps_left l.reader.source
