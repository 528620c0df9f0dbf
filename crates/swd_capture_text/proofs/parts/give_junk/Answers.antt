use Rattle.std.proofs.Common.{◌++◌}
use Rattle.swd_bits.specs.BitLists.{tx_bits_of}
use Rattle.swd_capture.specs.Printing.{capture_junk_parts}
use Rattle.swd_capture_text.proofs.PartLemmas.{parts_gather_more}
use Rattle.swd_capture_text.proofs.parts.give_junk.Goals as goal

pub returns-in-Some-clause-gathers : goal.returns-in-Some-clause-gathers
returns-in-Some-clause-gathers g c = λ start bits parts h.
    let more = capture_junk_parts (tx_bits_of c.in-Some.junk) in (
      parts ++ more,
      parts_gather_more g.K.PartSink.led g.met.K.PartSink.led_on start c.args.reader.now.source c.due_junk.new.self
          (c.args.reader.now.sink, c.args.writer.now) (c.take_junk.new.self, c.take_junk.new.writer) bits parts more
          (c.in-Some.ensures.junk start.reading bits parts) c.due_junk.ensures.fed c.take_junk.ensures h,
    )
