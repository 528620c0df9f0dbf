use Rattle.std.proofs.Common.{◌≡◌, suc, ◌+◌, ◌-◌, ◌^◌, ◌<◌, min, ◌++◌, length, take, drop, get_or}
use Rattle.std.proofs.Common.{refl, ◌∙◌, subst, take_all, arith}
use Rattle.std.proofs.lemmas.List.{length-append, length-drop, length-take-le}
use Rattle.swd_bits.proofs.ScanLemmas.{scan_bits_parted}
use Rattle.swd_text.specs.Sinks.{TextStopsAt}
use Rattle.swd_text.proofs.PieceLemmas.{decode_text_piece_place, decode_text_piece_byte, decode_text_piece_front}
use Rattle.swd_text.specs.Sinks.{TextFeeds}
use Rattle.swd_text.specs.TextBits.{TextStopsWith}
use Rattle.swd_text.proofs.SinkLemmas.{text_stops_with}
use Rattle.swd_text.proofs.reader.take_piece.Goals as goal

pub returns-in-Err-clause-err : goal.returns-in-Err-clause-err
returns-in-Err-clause-err g c = λ start seen h place.
    let fault = c.in-Err.fault in
    let piece = c.args.piece.now in
    let index = c.loop-index.index in
    let within : index < length piece = c.loop-index-test.true in
    let byte = get_or piece index 0 in
    let so_far = seen ++ take index piece in
    let front : length (take index piece) ≡ index = length-take-le index piece (omega arith) in
    let len : length so_far ≡ length seen + length (take index piece) = length-append seen (take index piece) in
    let far : length so_far ≡ length seen + index = omega arith in
    let here : c.take_many-taken.new.reader.place ≡ c.args.reader.now.place =
    c.take_many-taken.ensures.place ∙ c.loop-index.invariant.place in
    let at : min (c.take_many-taken.new.reader.place + index) (2 ^ 64 - 1) ≡ min (length so_far) (2 ^ 64 - 1) =
    decode_text_piece_place c.take_many-taken.new.reader.place index (length seen) (length so_far) (here ∙ place) far
    in
    let none : index ≡ index + c.take_many-taken.result = omega arith in
    let unmoved = subst (TextFeeds g.S.BitSink.led g.S.BitSink.fed start c.take_many-taken.new.reader
    c.take_many-taken.new.writer) (decode_text_piece_front seen piece index c.take_many-taken.result index none)
    (c.take_many-taken.ensures.taken start so_far (c.loop-index.invariant.goes start seen h)) in
    let s = c.in-Err.ensures.err start so_far unmoved in
    record {
      bits = s.1.0;
      stops = λ more.
          subst (TextStopsWith fault s.1.0) (scan_bits_parted seen piece more index within)
          (text_stops_with fault so_far (drop (suc index) piece ++ more) byte s.1.0
          (subst (λ p. TextStopsAt fault p so_far byte) at s.0) s.1.1);
      goes = s.1.2;
    }

pub loop-index-preserved-then-taken-gt0 : goal.loop-index-preserved-then-taken-gt0
loop-index-preserved-then-taken-gt0 g c = record {
  within = omega (arith, c.take_many-taken.ensures.within, length-drop c.loop-index.index c.args.piece.now);
  ready = c.take_many-taken.ensures.ready;
  place = c.take_many-taken.ensures.place ∙ c.loop-index.invariant.place;
  goes = λ start seen h.
      subst (TextFeeds g.S.BitSink.led g.S.BitSink.fed start c.take_many-taken.new.reader
      c.take_many-taken.new.writer)
      (decode_text_piece_front seen c.args.piece.now c.loop-index.index c.take_many-taken.result _ refl)
      (c.take_many-taken.ensures.taken start (seen ++ take c.loop-index.index c.args.piece.now)
      (c.loop-index.invariant.goes start seen h));
}

pub loop-index-preserved : goal.loop-index-preserved
loop-index-preserved g c = record {
  within = omega arith;
  ready = c.take_byte.ensures.ready;
  place = c.take_byte.ensures.place ∙ c.take_many-taken.ensures.place ∙ c.loop-index.invariant.place;
  goes = λ start seen h.
      let none : c.loop-index.index ≡ c.loop-index.index + c.take_many-taken.result = omega arith in
      let unmoved = subst (TextFeeds g.S.BitSink.led g.S.BitSink.fed start c.take_many-taken.new.reader
      c.take_many-taken.new.writer)
      (decode_text_piece_front seen c.args.piece.now c.loop-index.index c.take_many-taken.result c.loop-index.index
      none)
      (c.take_many-taken.ensures.taken start (seen ++ take c.loop-index.index c.args.piece.now)
      (c.loop-index.invariant.goes start seen h)) in
      subst (TextFeeds g.S.BitSink.led g.S.BitSink.fed start c.take_byte.new.reader c.take_byte.new.writer)
      (decode_text_piece_byte seen c.args.piece.now c.loop-index.index c.loop-index-test.true)
      (c.in_default.ensures.ok start (seen ++ take c.loop-index.index c.args.piece.now) unmoved);
}

pub returns-clause-ok : goal.returns-clause-ok
returns-clause-ok g c = λ start seen h.
    let all : take c.loop-index.index c.args.piece.now ≡ c.args.piece.now = take_all c.loop-index.index c.args.piece.now
    (omega arith) in
    let goes = subst (λ x. TextFeeds g.S.BitSink.led g.S.BitSink.fed start c.loop-index.reader c.loop-index.writer
    (seen ++ x)) all (c.loop-index.invariant.goes start seen h) in
    record {
      bits = goes.bits;
      reads = goes.reads;
      goes = goes.goes;
      count = goes.count;
      counted = goes.counted;
    }
