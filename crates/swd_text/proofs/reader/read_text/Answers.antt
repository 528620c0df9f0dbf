use Rattle.std.proofs.Common.{ℕ, List, Bool, [], Option, Err, sym, subst}
use Rattle.swd_io.specs.Pieces.{ConsumerReads, LeadsConsumerOn, LeadsConsumerToEnd}
use Rattle.swd_io.specs.declared.pieces.Unread.{Unread}
use Rattle.swd_io.specs.declared.pieces.Unread.TheVariants.{Reader, Consumer}
use Rattle.swd_bits.proofs.ScanLemmas.{scan_bits_read_all}
use Rattle.swd_text.specs.Decoding.{decode_text_fault}
use Rattle.swd_text.specs.Sinks.{TextHasFed, TextFeedEnds, TextGoesTo}
use Rattle.swd_text.specs.declared.fault.TakeFault.{TakeFault}
use Rattle.swd_text.specs.declared.fault.TakeFault.TheVariants.{Text, Write}
use Rattle.swd_text.specs.declared.reader.TextReader.{TextReader}
use Rattle.swd_text.proofs.SinkLemmas.{text_reader_begins}
use Rattle.swd_text.proofs.reader.read_text.Goals as goal

unread : {S W : Type 0} (led : S × W → List Bool → S × W → Type 0) (fed : S → ℕ) (stops : S × W → ℕ → S × W → Type 0)
    (fault : Unread TakeFault) (text left : Option (List ℕ)) (start : S × W) (before after : TextReader S × W)
    → TextHasFed led fed start before [] → ConsumerReads (LeadsConsumerOn (TextHasFed led fed))
    (LeadsConsumerToEnd (TextHasFed led fed) (TextFeedEnds led stops)) (Err fault) text left before after
    → TextGoesTo led stops (Err (decode_text_fault fault)) text left start after.1
unread led fed stops Reader text left start before after h r =
    let feeds = (r.2 start [] h).feeds in (
      r.0,
      after.0.sink,
      r.1,
      (
        feeds.bits,
        record { has = scan_bits_read_all r.0 feeds.bits after.0.scan feeds.reads; counted = feeds.counted },
        feeds.goes,
      ),
    )
unread led fed stops (Consumer (Text fault)) text left start before after h r =
    (r.0, after.0.sink, r.1, r.2 start [] h)
unread led fed stops (Consumer (Write told)) text left start before after h r =
    (r.0, after.0.sink, r.1, r.2 start [] h)

pub returns-in-Err : goal.returns-in-Err
returns-in-Err g c =
    let text = g.R.Read.remaining c.args.reader.now in
    let left = g.R.Read.remaining c.read_pieces.new.reader in
    subst (λ f. TextGoesTo g.S.BitSink.led g.S.BitSink.stops (Err f) text left (c.args.sink, c.args.writer.now)
    c.read_pieces.new.writer) (sym c.of.ensures)
    (unread g.S.BitSink.led g.S.BitSink.fed g.S.BitSink.stops c.in-Err.unread text left
    (c.args.sink, c.args.writer.now) _
    (c.read_pieces.new.consumer, c.read_pieces.new.writer)
    (text_reader_begins g.S.BitSink.led g.S.BitSink.fed c.args.sink _ c.args.writer.now g.met.S.BitSink.led_nowhere
    c.new-text.ensures c.requires.fresh) c.in-Err.ensures)

pub returns-in-Ok : goal.returns-in-Ok
returns-in-Ok g c =
    let r = c.in-Ok.ensures in
    let feeds = (r.3 (c.args.sink, c.args.writer.now) []
    (text_reader_begins g.S.BitSink.led g.S.BitSink.fed c.args.sink _ c.args.writer.now g.met.S.BitSink.led_nowhere
    c.new-text.ensures c.requires.fresh)).feeds in (
      r.0,
      r.1,
      r.2,
      (
        feeds.bits,
        record {
          has = scan_bits_read_all r.0 feeds.bits c.read_pieces.new.consumer.scan feeds.reads;
          counted = feeds.counted;
        },
        subst (λ s. g.S.BitSink.led (c.args.sink, c.args.writer.now) feeds.bits (s, c.read_pieces.new.writer))
            (sym c.into_sink.ensures) feeds.goes,
      ),
    )
