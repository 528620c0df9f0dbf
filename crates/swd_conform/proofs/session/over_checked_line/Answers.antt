use Rattle.std.proofs.Common.{None, Some, sym, subst}
use Rattle.std.proofs.Math.Logic.{∥∥₁_map}
use Rattle.swd_conform.specs.Sessions.{IsSessionVerdict}
use Rattle.swd_conform.proofs.session.over_checked_line.Goals as goal

pub returns : goal.returns
returns g c =
    let (calls, came, over) = c.over_line-answer.ensures in (
      calls,
      came,
      ∥∥₁_map over (λ over. record {
        over = over;
        verdict_on = subst (λ check. IsSessionVerdict check over.made None)
            (sym c.if-check.false) tt;
      }),
    )

pub returns-then-check : goal.returns-then-check
returns-then-check g c =
    let (calls, came, over) = c.over_watched_line-answer.ensures in (
      calls,
      came,
      ∥∥₁_map over (λ watched. record {
        over = watched.over;
        verdict_on = subst (λ check. IsSessionVerdict check watched.over.made (Some c.checked-checked.result))
            (sym c.if-check.true) (c.checked-checked.ensures watched.over.made watched.watched);
      }),
    )
