use Rattle.std.proofs.Common.{◌+◌, ◌∷◌, subst, sym, ap, ◌∙◌}
use Rattle.std.specs.Prelude.{None}
use Rattle.swd_resync.specs.Holding.{resync_held}
use Rattle.swd_resync.specs.Stages.{ResyncMove}
use Rattle.swd_resync.specs.declared.stage.RemovalStage.TheVariants.{Stretch}
use Rattle.swd_resync.proofs.MoveLemmas.{stretch_counts_idle}
use Rattle.swd_resync.proofs.moves.behind_idle.Goals as goal

pub returns-in-Some-false : goal.returns-in-Some-false
returns-in-Some-false c =
    let run = c.run_of-count.ensures.run in
    let first = c.in-Some-false.ensures.some in
    subst (λ n. ResyncMove c.args.over c.args.ended (Stretch c.args.zeros) (resync_held c.args.held.now)
    (record { count = c.run_of-count.result; over = c.args.over; stage = Stretch (c.args.zeros + n); part = None }))
    (sym c.from.ensures)
    (stretch_counts_idle c.args.over c.args.ended c.args.zeros c.run_of-count.result (resync_held c.args.held.now) run.0
    run.1 (c.run_of-count.ensures.some first.0 (first.1 ∙ ap (λ b. b ∷ first.0) c.in-Some-false.field-0-test))
    c.run_of-count.ensures.most)
