use Rattle.std.proofs.Common.{ap, refl}
use Rattle.swd_steps.specs.Fields.{stepped_end_fields}
use Rattle.swd_steps.proofs.laws.numbers.Goals as goal

pub returns : goal.returns
returns c = λ run answers end ended. record { stop = ap stepped_end_fields ended; told = refl }
