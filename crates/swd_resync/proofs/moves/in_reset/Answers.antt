use Rattle.std.proofs.Common.{◌+◌, ◌∷◌, subst, sym, ap, ◌∙◌}
use Rattle.std.specs.Prelude.{None}
use Rattle.swd_resync.specs.Holding.{resync_held}
use Rattle.swd_resync.specs.Stages.{ResyncMove}
use Rattle.swd_resync.specs.declared.stage.RemovalStage.TheVariants.{Reset as InReset}
use Rattle.swd_resync.proofs.MoveLemmas.{stretch_counts_reset_ones}
use Rattle.swd_resync.proofs.moves.in_reset.Goals as goal

pub returns-in-Some-true : goal.returns-in-Some-true
returns-in-Some-true c =
    let run = c.run_of-count.ensures.run in
    let first = c.in-Some-true.ensures.some in
    subst (λ n. ResyncMove c.args.over c.args.ended (InReset c.args.ones) (resync_held c.args.held.now)
    (record { count = c.run_of-count.result; over = c.args.over; stage = InReset (c.args.ones + n); part = None }))
    (sym c.from.ensures)
    (stretch_counts_reset_ones c.args.over c.args.ended c.args.ones c.run_of-count.result (resync_held c.args.held.now)
    run.0 run.1 (c.run_of-count.ensures.some first.0 (first.1 ∙ ap (λ b. b ∷ first.0) c.in-Some-true.field-0-test))
    c.run_of-count.ensures.most)
