use Rattle.std.proofs.Common.{◌∙◌, sym, subst, append-nil}
use Rattle.swd_capture_text.specs.Printers.{PrinterHasTaken, print_output}
use Rattle.swd_capture_text.proofs.printer.PrinterPartSinkBlock.pause.Goals as goal

pub returns-in-Ok-clause-led : goal.returns-in-Ok-clause-led
returns-in-Ok-clause-led g c = λ start parts h.
    subst (PrinterHasTaken g.W.Write.contents start (c.args.self.now, c.flush.new.self)) (sym (append-nil parts))
    (record {
      after = h.after;
      sends = c.flush.ensures.sends start.from (print_output start parts) h.sends;
      same = c.flush.ensures.writer ∙ h.same;
    })

pub returns-in-Err-clause-stops : goal.returns-in-Err-clause-stops
returns-in-Err-clause-stops g c = λ start parts h. record {
  cut = c.in-Err.ensures.err start.from (print_output start parts) h.sends;
  same = c.flush.ensures.writer ∙ h.same;
}
