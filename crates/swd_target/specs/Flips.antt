-- The bit of a data phase that arrives changed (this project's choice).
use Rattle.std.specs.Prelude.{ℕ, Option, Some, None}
use Rattle.swd_port.specs.declared.state.AfterAck.{AfterAck}
use Rattle.swd_port.specs.declared.state.AfterAck.TheVariants.{Drives, Awaits}
use Rattle.swd_port.specs.declared.mark.Mark.{Mark}
use Rattle.swd_port.specs.Choices.{port_flipped}
use Rattle.swd_port.specs.Choices.{port_flip_of}

-- the bit, or 0 if no bit arrives changed
abbrev pub target_flip_place : Option ℕ → ℕ
target_flip_place None = 0
target_flip_place (Some place) = place

-- the bit that arrives changed of the write data that is awaited
abbrev pub target_awaited_flip : AfterAck → Option ℕ
target_awaited_flip (Awaits r flip) = flip
target_awaited_flip line = None

-- a data phase of which this bit, if any, arrives changed
abbrev pub target_line_flipped : Option ℕ → AfterAck → AfterAck
target_line_flipped flip (Drives bits) = Drives (port_flipped flip bits)
target_line_flipped flip (Awaits r _) = Awaits r flip
target_line_flipped flip line = line

-- a data phase under a mark
abbrev pub target_line_under : Mark → AfterAck → AfterAck
target_line_under mark line = target_line_flipped (port_flip_of mark) line
