use Rattle.std.proofs.Common.{[], ◌∷◌, ◌++◌, subst}
use Rattle.swd_capture_text.proofs.SourceLemmas.{source_ends_at}
use Rattle.swd_capture_text.proofs.parts.give_last.Goals as goal

pub loop-part-init : goal.loop-part-init
loop-part-init g c = λ start bits parts h.
    (parts, source_ends_at start.reading c.args.reader.now.source bits parts h.has, h.goes)

pub loop-part-preserved : goal.loop-part-preserved
loop-part-preserved g c = λ start bits parts h.
    let i = c.loop-part.invariant start bits parts h in (
      i.0 ++ c.in-Some.part ∷ [],
      c.in-Some.ensures.part start.reading bits i.0 i.1,
      g.met.K.PartSink.led_on start.from (c.loop-part.reader.sink, c.loop-part.writer)
          (c.take_part.new.self, c.take_part.new.writer) i.0 (c.in-Some.part ∷ []) i.2 c.take_part.ensures,
    )

pub returns : goal.returns
returns g c = λ start bits parts h.
    let i = c.loop-part.invariant start bits parts h in
    subst (λ p. g.K.PartSink.led start.from p (c.loop-part.reader.sink, c.loop-part.writer))
    (c.in_default.ensures.none start.reading bits i.0 i.1) i.2
