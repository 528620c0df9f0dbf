use Rattle.std.proofs.Common.{subst}
use Rattle.swd_conform.specs.Sessions.{GoesOverChecked}
use Rattle.swd_console.proofs.target.at_the_target.Goals as goal

pub returns : goal.returns
returns g c =
    let (calls, came, over) = c.over_checked_line.ensures in (
      calls,
      came,
      subst (λ way. ∥ GoesOverChecked c.args.check way g.R.Read.remaining g.W.Write.contents
          (g.W.Write.contents c.args.ends.1) (g.R.Read.remaining c.args.ends.0) c.over_checked_line.result.1 calls
          c.over_checked_line.result.2 ∥₁) c.way_of-way.ensures over,
    )
