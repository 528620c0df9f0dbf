use Rattle.std.proofs.Common.{[], ◌∷◌, ◌++◌, ◌∙◌}
use Rattle.swd_capture_text.proofs.PartLemmas.{parts_gather_more}
use Rattle.swd_capture_text.proofs.parts.give_due.Goals as goal

pub loop-part-preserved : goal.loop-part-preserved
loop-part-preserved g c = record {
  gathers = λ start bits parts h.
      let i = c.loop-part.invariant.gathers start bits parts h in (
        i.0 ++ c.in-Some.part ∷ [],
        parts_gather_more g.K.PartSink.led g.met.K.PartSink.led_on start c.loop-part.reader.source c.due.new.self
            (c.loop-part.reader.sink, c.loop-part.writer) (c.take_part.new.self, c.take_part.new.writer) bits i.0
            (c.in-Some.part ∷ []) (c.in-Some.ensures.part start.reading bits i.0) c.in-Some.ensures.fed
            c.take_part.ensures i.1,
      );
  fed = c.in-Some.ensures.fed ∙ c.loop-part.invariant.fed;
}
