use Rattle.std.proofs.Common.{refl}
use Rattle.std.proofs.lemmas.Fmt.{decimal_digit}
use Rattle.swd_text.proofs.lister.idle_line.Goals as goal

pub returns : goal.returns
returns c = rw (decimal_digit c.args.count c.requires) refl
