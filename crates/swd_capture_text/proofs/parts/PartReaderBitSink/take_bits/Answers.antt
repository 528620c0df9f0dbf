use Rattle.std.proofs.Common.{◌≡◌, [], ◌∷◌, ◌++◌, arith, ap, subst, sym}
use Rattle.std.specs.Prelude.{IfNone}
use Rattle.swd_bits.specs.Bits.{low_bits}
use Rattle.swd_bits.proofs.BitsLemmas.{length-low_bits}
use Rattle.swd_capture_text.specs.PartSinks.{PartsGather}
use Rattle.swd_capture_text.specs.Sources.{source_fed}
use Rattle.swd_capture_text.proofs.PartLemmas.{parts_gather_bits, parts_gather_followed}
use Rattle.swd_capture_text.proofs.parts.PartReaderBitSink.take_bits.Goals as goal

pub returns-in-Some-clause-led : goal.returns-in-Some-clause-led
returns-in-Some-clause-led g c = λ start before h.
    let n = c.in-Some.found.taken in
    let next = low_bits n c.args.bits in
    let most = c.in-Some.ensures.most in
    let has = c.in-Some.ensures.has start.reading before h.parts in
    record {
      parts = h.parts ++ c.in-Some.found.part ∷ [];
      gathers = parts_gather_followed g.K.PartSink.led g.met.K.PartSink.led_on start c.args.self.now.source
          c.take_tx.new.self (c.args.self.now.sink, c.args.writer.now) (c.take_part.new.self, c.take_part.new.writer)
          before next h.parts (c.in-Some.found.part ∷ []) n (λ x. (has x).0) c.in-Some.ensures.fed
          (length-low_bits n c.args.bits) (omega arith) c.take_part.ensures h.gathers;
      decides = (has h.gathers.has).1;
    }

pub returns-in-None-clause-led : goal.returns-in-None-clause-led
returns-in-None-clause-led g c = λ start before h.
    let n = c.take_bits-taken.result in
    let next = low_bits n c.args.bits in
    let same : c.take_tx.new.self ≡ c.args.self.now.source =
    subst (λ o. IfNone o (c.take_tx.new.self ≡ c.args.self.now.source)) c.in-None.is c.take_tx.ensures.none in
    let kept = subst (λ s. PartsGather g.K.PartSink.led start s (c.args.self.now.sink, c.args.writer.now) before
    h.parts) (sym same) h.gathers in
    let fed = ap source_fed same in
    let m = c.give_due.ensures.gathers start (before ++ next) h.parts
    (parts_gather_bits g.K.PartSink.led start c.take_tx.new.self c.take_bits-taken.new.self
    (c.args.self.now.sink, c.args.writer.now) before next h.parts n
    (c.take_bits-taken.ensures.has start.reading before h.parts) c.take_bits-taken.ensures.fed
    (length-low_bits n c.args.bits) (omega arith) kept) in
    record { parts = m.0; gathers = m.1; decides = m.2 }
