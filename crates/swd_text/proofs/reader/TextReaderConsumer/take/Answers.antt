use Rattle.std.proofs.Common.{◌≡◌, ℕ, ◌+◌, ◌-◌, ◌^◌, min, List, Bool, [], ◌++◌, length, ◌∙◌, subst, arith}
use Rattle.std.proofs.Common.{Result, Ok, Err, inl, inr, append-nil}
use Rattle.std.specs.Prelude.{OnOk, IfErr}
use Rattle.std.proofs.lemmas.List.{length-append}
use Rattle.swd_bits.proofs.ScanLemmas.{scan_bits_read_all}
use Rattle.swd_text.specs.Sinks.{TextFeeds, TextFeedStopsIn}
use Rattle.swd_text.specs.TextBits.{TextBitsSoFar, TextStopsWith}
use Rattle.swd_text.specs.declared.fault.TextFault.{TextFault}
use Rattle.swd_text.specs.declared.reader.TextReader.{TextReader}
use Rattle.swd_text.proofs.SinkLemmas.{text_result_ok, text_result_err}
use Rattle.swd_text.proofs.reader.TextReaderConsumer.take.Goals as goal

further : (seen piece : List ℕ) (place told : ℕ) → place ≡ min (length seen) (2 ^ 64 - 1)
    → told ≡ min (place + length piece) (2 ^ 64 - 1) → told ≡ min (length (seen ++ piece)) (2 ^ 64 - 1)
further seen piece place told p q =
    let e : length (seen ++ piece) ≡ length seen + length piece = length-append seen piece in
    omega arith

-- the bits so far led the sink to where it paused, whether the text is valid or not
so_far : {S W : Type 0} (led : S × W → List Bool → S × W → Type 0) (fed : S → ℕ) (start : S × W) (reader : TextReader S)
    (writer : W) (text : List ℕ) (r : Result (Unit {0}) TextFault) (Q : List Bool → Type 0)
    → ((bits : List Bool) → led start bits (reader.sink, writer) → Q bits)
    → OnOk r (TextFeeds led fed start reader writer text)
    → IfErr r (λ fault. TextFeedStopsIn led start (reader.sink, writer) fault text) → TextBitsSoFar Q text
so_far led fed start reader writer text (Ok u) Q f goes stops = inl (
  goes.bits,
  record { has = scan_bits_read_all text goes.bits reader.scan goes.reads; counted = goes.counted },
  f goes.bits goes.goes,
)
so_far led fed start reader writer text (Err fault) Q f goes stops = inr (
  fault,
  (
    stops.bits,
    subst (TextStopsWith fault stops.bits) (append-nil text) (stops.stops []),
    f stops.bits stops.goes,
  ),
)

pub returns-in-Err-clause-err : goal.returns-in-Err-clause-err
returns-in-Err-clause-err g c = λ start seen h.
    so_far g.S.BitSink.led g.S.BitSink.fed start c.take_piece-taken.new.reader c.take_piece-taken.new.writer
    (seen ++ c.args.piece.now) c.take_piece-taken.result _
    (λ bits goes. ((c.take_piece-taken.new.reader.sink, c.take_piece-taken.new.writer), goes, c.in-Err.ensures.stops))
    (text_result_ok c.take_piece-taken.result (λ f. f start seen h.feeds) c.take_piece-taken.ensures.ok)
    (text_result_err c.take_piece-taken.result (λ fault f. f start seen h.feeds h.place)
    c.take_piece-taken.ensures.err)

pub returns-in-Ok-taken-clause-ok : goal.returns-in-Ok-taken-clause-ok
returns-in-Ok-taken-clause-ok g c = λ start seen h.
    let feeds = c.in-Ok-taken.ensures.ok start seen h.feeds in
    record {
      feeds = record {
        bits = feeds.bits;
        reads = feeds.reads;
        goes = subst (λ bits. g.S.BitSink.led start bits (c.pause.new.self, c.pause.new.writer)) (append-nil feeds.bits)
            (g.met.S.BitSink.led_on start _ _ feeds.bits [] feeds.goes c.in-Ok.ensures.led);
        count = c.in-Ok.ensures.fed ∙ feeds.count;
        counted = feeds.counted;
      };
      place = further seen c.args.piece.now c.args.self.now.place c.take_piece-taken.new.reader.place h.place
          c.in-Ok-taken.ensures.place;
    }

pub returns-in-Err-taken-clause-err : goal.returns-in-Err-taken-clause-err
returns-in-Err-taken-clause-err g c = λ start seen h.
    let stops = c.in-Err-taken.ensures.err start seen h.feeds h.place in
    record {
      bits = stops.bits;
      stops = stops.stops;
      goes = subst (λ bits. g.S.BitSink.led start bits (c.pause.new.self, c.pause.new.writer)) (append-nil stops.bits)
          (g.met.S.BitSink.led_on start _ _ stops.bits [] stops.goes c.in-Ok.ensures.led);
    }
