use Rattle.std.proofs.Common.{ap, ◌∙◌, get_or, [], arith}
use Rattle.swd_text.proofs.TxLineLemmas.{tx_line_byte_digits}
use Rattle.swd_text.specs.declared.tx_line.TheConstants.{DIGITS}
use Rattle.swd_text.proofs.tx_line.digits.Goals as goal

pub returns : goal.returns
returns c = ap (λ place. get_or DIGITS place []) c.from.ensures ∙ tx_line_byte_digits c.args.byte [] (omega arith)
