use Rattle.std.proofs.Common.{◌≡◌, ◌+◌, Bool, true, false, refl}
use mir.Val.{bool_byte}
use Rattle.swd_trace.specs.Texts.{trace_digit}
use Rattle.swd_trace.proofs.item_bytes.digit.Goals as goal

digit_is : (bit : Bool) → 48 + bool_byte bit ≡ trace_digit bit
digit_is true = refl
digit_is false = refl

pub returns : goal.returns
returns c = rw c.from.ensures (digit_is c.args.bit)
