use Rattle.std.proofs.Common.{sym, subst, ◌∙◌}
use Rattle.swd_io.specs.Blocks.{BlockBufferSends}
use Rattle.swd_capture.proofs.TellerLemmas.{capture_printed_more}
use Rattle.swd_capture_text.specs.Printers.{print_output}
use Rattle.swd_capture_text.proofs.printer.PrinterPartSinkBlock.take_part.Goals as goal

pub returns : goal.returns
returns g c = λ start parts h. record {
  after = c.put_part.ensures.after start.printed parts h.after;
  sends = subst (λ all. BlockBufferSends g.W.Write.contents start.from c.put_part.new.block all)
      (sym (capture_printed_more start.printed parts c.args.part.now))
      (c.put_part.ensures.sends start.printed parts h.after start.from (print_output start parts) h.sends);
  same = c.put_part.ensures.writer ∙ h.same;
}
