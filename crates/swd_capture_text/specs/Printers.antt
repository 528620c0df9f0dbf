-- Parts that are printed.
use Rattle.std.specs.Prelude.{◌≡◌, ℕ, List, Option}
use Rattle.swd_io.specs.Blocks.{BlockBufferSends, OutputStopped}
use Rattle.swd_io.specs.declared.block.Block.{Block}
use Rattle.swd_resync.specs.declared.part.Part.{Part}
use Rattle.swd_capture.specs.declared.printed.Printed.{Printed}
use Rattle.swd_capture.specs.declared.teller.Teller.{Teller}
use Rattle.swd_capture.specs.Printing.{capture_printed_parts}
use Rattle.swd_capture.specs.Tellers.{IsCaptureTellerAfter}
use Rattle.swd_capture_text.specs.declared.printer.Printer.{Printer}

-- what a writer began with, the name of its borrow, and what is printed
pub record PrintStart : Type 0 where
  pub from : Option (List ℕ)
  pub name : ℕ
  pub printed : Printed

-- the output for some parts
abbrev pub print_output : PrintStart → List Part → List ℕ
print_output start parts = capture_printed_parts start.printed parts

-- a teller was given these parts, and their output is queued or written
pub record PrintQueues {W : Type 0} (contents : W → Option (List ℕ)) (start : PrintStart) (teller : Teller)
    (block : Block W) (parts : List Part) : Type 0 where
  pub after : IsCaptureTellerAfter start.printed parts teller
  pub sends : BlockBufferSends contents start.from block (print_output start parts)
  pub same : block.writer.ghost_name ≡ start.name

-- a printer was given these parts
abbrev pub PrinterHasTaken : {W : Type 0} → (W → Option (List ℕ)) → PrintStart → Printer × Block W → List Part → Type 0
PrinterHasTaken contents start state parts = PrintQueues contents start state.0.teller state.1 parts

-- exactly the first bytes of the output for these parts were written
pub record PrinterStops {W : Type 0} (contents : W → Option (List ℕ)) (start : PrintStart) (state : Printer × Block W)
    (told : ℕ) (parts : List Part) : Type 0 where
  pub cut : OutputStopped told start.from (contents state.1.writer.now) (print_output start parts)
  pub same : state.1.writer.ghost_name ≡ start.name
