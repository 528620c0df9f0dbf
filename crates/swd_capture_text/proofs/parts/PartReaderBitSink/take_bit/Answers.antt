use Rattle.std.proofs.Common.{[], ◌∷◌, ◌++◌, refl, arith}
use Rattle.swd_capture_text.proofs.PartLemmas.{parts_gather_bits}
use Rattle.swd_capture_text.proofs.parts.PartReaderBitSink.take_bit.Goals as goal

pub returns-clause-led : goal.returns-clause-led
returns-clause-led g c = λ start before h.
    let m = c.give_due.ensures.gathers start (before ++ c.args.bit ∷ []) h.parts
    (parts_gather_bits g.K.PartSink.led start c.args.self.now.source c.take.new.self
    (c.args.self.now.sink, c.args.writer.now) before (c.args.bit ∷ []) h.parts 1
    (c.take.ensures.has start.reading before h.parts) c.take.ensures.fed refl (omega arith) h.gathers) in
    record { parts = m.0; gathers = m.1; decides = m.2 }
