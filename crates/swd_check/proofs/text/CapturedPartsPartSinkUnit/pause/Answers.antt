use Rattle.std.proofs.Common.{sym, subst, append-nil}
use Rattle.swd_check.specs.Checks.{CheckHasHeld}
use Rattle.swd_check.proofs.text.CapturedPartsPartSinkUnit.pause.Goals as goal

pub returns-clause-led : goal.returns-clause-led
returns-clause-led g c = λ i seen h. subst (CheckHasHeld i (c.args.self.now, tt)) (sym (append-nil seen)) h
