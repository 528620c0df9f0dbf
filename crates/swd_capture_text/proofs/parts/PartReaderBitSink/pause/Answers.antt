use Rattle.std.proofs.Common.{[], sym, subst, append-nil}
use Rattle.swd_text.proofs.SinkLemmas.{text_result_ok, text_result_err}
use Rattle.swd_capture_text.specs.PartSinks.{PartReaderHasTaken}
use Rattle.swd_capture_text.specs.declared.parts.PartReader.{PartReader}
use Rattle.swd_capture_text.proofs.parts.PartReaderBitSink.pause.Goals as goal

pub returns-clause-led : goal.returns-clause-led
returns-clause-led g c = text_result_ok c.pause.result
    (λ led start before h.
    let old : g.row.K.Denot × g.row.W.Denot = (c.args.self.now.sink, c.args.writer.now) in
    let new : g.row.K.Denot × g.row.W.Denot = (c.pause.new.self, c.pause.new.writer) in
    let reader : PartReader g.row.K.Denot = record { source = c.args.self.now.source; sink = c.pause.new.self } in
    subst (PartReaderHasTaken g.K.PartSink.led start (reader, c.pause.new.writer)) (sym (append-nil before)) (record {
      parts = h.parts;
      gathers = record {
        has = h.gathers.has;
        count = h.gathers.count;
        counted = h.gathers.counted;
        goes = subst (λ parts. g.K.PartSink.led start.from parts new) (append-nil h.parts)
            (g.met.K.PartSink.led_on start.from old new h.parts [] h.gathers.goes led);
      };
      decides = h.decides;
    }))
    c.pause.ensures.led

pub returns-clause-stops : goal.returns-clause-stops
returns-clause-stops g c = text_result_err c.pause.result
    (λ told stops start before h. record {
      parts = h.parts;
      decides = h.decides;
      last = (c.args.self.now.sink, c.args.writer.now);
      goes = h.gathers.goes;
      stopped = stops;
    })
    c.pause.ensures.stops
