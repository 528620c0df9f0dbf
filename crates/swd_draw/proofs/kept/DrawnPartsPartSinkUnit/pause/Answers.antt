use Rattle.std.proofs.Common.{sym, subst, append-nil}
use Rattle.swd_draw.specs.Collecting.{KeepsDrawn}
use Rattle.swd_draw.proofs.kept.DrawnPartsPartSinkUnit.pause.Goals as goal

pub returns-clause-led : goal.returns-clause-led
returns-clause-led c = λ most seen h. subst (λ p. KeepsDrawn most p c.args.self.now) (sym (append-nil seen)) h
