use Rattle.std.proofs.Common.{◌≡◌, ℕ, List, [], Option, Err, refl, sym, subst, ◌∙◌}
use Rattle.swd_io.specs.Blocks.{BlockBufferSends}
use Rattle.swd_io.specs.declared.block.Block.{Block}
use Rattle.swd_text.specs.Outputs.{TextQueues}
use Rattle.swd_text.specs.Sinks.{LeadsSinkOn, LeadsSinkToStop}
use Rattle.swd_text.specs.declared.fault.DecodeFault.{DecodeFault}
use Rattle.swd_text.specs.declared.fault.DecodeFault.TheVariants.{Text, Read, Write}
use Rattle.swd_capture.specs.declared.printed.Printed.{Printed}
use Rattle.swd_capture.specs.Printing.{capture_printed_parts, capture_printout}
use Rattle.swd_capture.specs.Tellers.{IsCaptureTellerAfter}
use Rattle.swd_capture.proofs.TellerLemmas.{capture_printed_none}
use Rattle.swd_capture_text.specs.declared.printer.Printer.{Printer}
use Rattle.swd_capture_text.specs.declared.reading.Reading.{Reading}
use Rattle.swd_capture_text.specs.PartSinks.{PartsGoTo}
use Rattle.swd_capture_text.specs.Printers.{PrintStart, PrinterHasTaken, PrinterStops}
use Rattle.swd_capture_text.specs.Readings.{SourceDecides, SourceReadsAs}
use Rattle.swd_capture_text.proofs.printing.print_text.Goals as goal

-- how a text is printed to a block
abbrev start_of : {W : Type 0} → Option (List ℕ) → Reading → Printed → Block W → PrintStart
start_of from reading printed block = record {
  from = from;
  name = block.writer.ghost_name;
  printed = printed;
}

-- a printer that was given no parts
begins_in : {W : Type 0} (contents : W → Option (List ℕ)) (from : Option (List ℕ)) (reading : Reading)
    (printed : Printed) (printer : Printer) (block : Block W)
    → IsCaptureTellerAfter printed [] printer.teller → BlockBufferSends contents from block []
    → PrinterHasTaken contents (start_of from reading printed block) (printer, block) []
begins_in contents from reading printed printer block after sends = record {
  after = after;
  sends = subst (BlockBufferSends contents from block) (sym (capture_printed_none printed)) sends;
  same = refl;
}

unread : {W : Type 0} (contents : W → Option (List ℕ)) (reading : Reading) (start : PrintStart) (fault : DecodeFault)
    (text left : Option (List ℕ)) (before : Printer × Block W) (block : Block W)
    → PrinterHasTaken contents start before []
    → PartsGoTo (LeadsSinkOn (PrinterHasTaken contents))
    (LeadsSinkToStop (PrinterHasTaken contents) (PrinterStops contents)) reading (Err fault) text left before block
    → TextQueues (SourceDecides reading) (SourceReadsAs reading) (capture_printed_parts start.printed)
    (capture_printout start.printed) contents (Err fault) text left start.from block
    × (block.writer.ghost_name ≡ start.name)
unread contents reading start (Text fault) text left before block none r =
    let x = r.5 start [] none in
    ((r.0, r.1, r.3, r.4, x.sends), x.same)
unread contents reading start Read text left before block none r =
    let x = r.5 start [] none in
    ((r.0, r.1, r.3, r.4, x.sends), x.same)
unread contents reading start (Write told) text left before block none r =
    let x = r.5.2 start r.1 (r.5.1 start [] none) in
    ((r.0, r.1, r.3, r.4, x.cut), x.same)

pub returns-in-Ok : goal.returns-in-Ok
returns-in-Ok g c = λ from empty.
    let start = start_of from c.args.reading c.args.printed c.args.block.now in
    let r = c.in-Ok.ensures in
    let x = r.5 start [] (begins_in g.W.Write.contents from c.args.reading c.args.printed c.new.result
    c.args.block.now c.new.ensures empty) in (
      (r.0, r.1, r.2, r.3, r.4, c.put_rows.ensures.sends from start.printed r.1 x.after x.sends),
      c.put_rows.ensures.writer ∙ x.same,
    )

pub returns-in-Err : goal.returns-in-Err
returns-in-Err g c = λ from empty.
    let text = g.R.Read.remaining c.args.reader.now in
    let left = g.R.Read.remaining c.read_parts.new.reader in
    unread g.W.Write.contents c.args.reading (start_of from c.args.reading c.args.printed c.args.block.now)
    c.in-Err.fault
    text left (c.new.result, c.args.block.now) c.read_parts.new.writer
    (begins_in g.W.Write.contents from c.args.reading c.args.printed c.new.result c.args.block.now
    c.new.ensures empty) c.in-Err.ensures
