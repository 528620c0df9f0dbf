use Rattle.std.proofs.Common.{◌+◌, ◌++◌, ◌∙◌, sym, subst, refl}
use Rattle.std.specs.Prelude.{None}
use Rattle.swd_trace.specs.Reading.{whole_tx_item}
use Rattle.swd_resync.specs.Holding.{resync_held}
use Rattle.swd_resync.specs.Stages.{ResyncMove}
use Rattle.swd_resync.specs.declared.sight.Sight.TheVariants.{Ones}
use Rattle.swd_resync.specs.declared.stage.RemovalStage.TheVariants.{Start}
use Rattle.swd_resync.proofs.JudgeLemmas.{sight_first}
use Rattle.swd_resync.proofs.MoveLemmas.{stretch_waits_few, resync_start_counts_zeros, resync_start_to_stretch}
use Rattle.swd_resync.proofs.MoveLemmas.{resync_start_to_skip, resync_start_by_first}
use Rattle.swd_resync.proofs.moves.at_start.Goals as goal

pub returns-in-Wait : goal.returns-in-Wait
returns-in-Wait c = stretch_waits_few c.args.over c.args.ended (Start c.args.zeros) (resync_held c.args.held.now)
    c.in-Wait.ensures.0 c.in-Wait.ensures.1

pub returns-in-Zero : goal.returns-in-Zero
returns-in-Zero c =
    let run = c.run_of-count.ensures.run in
    subst (λ n. ResyncMove c.args.over c.args.ended (Start c.args.zeros) (resync_held c.args.held.now)
    (record { count = c.run_of-count.result; over = c.args.over; stage = Start (c.args.zeros + n); part = None }))
    (sym c.from.ensures)
    (resync_start_counts_zeros c.args.over c.args.ended c.args.zeros c.run_of-count.result (resync_held c.args.held.now)
    run.0 run.1 (c.run_of-count.ensures.some c.in-Zero.ensures.0 c.in-Zero.ensures.1) c.run_of-count.ensures.most)

pub returns-in-Some-true : goal.returns-in-Some-true
returns-in-Some-true c = resync_start_to_stretch c.args.over c.args.ended c.args.zeros (resync_held c.args.held.now)
    c.stay.result c.stay.ensures (λ more may.
    resync_start_by_first c.args.over.phases (resync_held c.args.held.now ++ more)
    (whole_tx_item c.in-Tx.tx c.in-Tx.len) (c.in-Tx.ensures.first more) refl
    ∙ c.in-Some-true.ensures more may ∙ c.in-Some-true.field-0-test)

pub returns-in-Some-false : goal.returns-in-Some-false
returns-in-Some-false c = resync_start_to_skip c.args.over c.args.ended c.args.zeros (resync_held c.args.held.now)
    c.stay-in-Some-false.result c.stay-in-Some-false.ensures
    (λ more may.
    resync_start_by_first c.args.over.phases (resync_held c.args.held.now ++ more)
    (whole_tx_item c.in-Tx.tx c.in-Tx.len) (c.in-Tx.ensures.first more) refl
    ∙ c.in-Some-false.ensures more may ∙ c.in-Some-false.field-0-test)

pub returns-in-Ones : goal.returns-in-Ones
returns-in-Ones c = resync_start_to_stretch c.args.over c.args.ended c.args.zeros (resync_held c.args.held.now)
    c.stay-in-Ones.result c.stay-in-Ones.ensures (λ more may.
    resync_start_by_first c.args.over.phases (resync_held c.args.held.now ++ more) _
    (sight_first c.args.over.phases c.args.ended Ones (resync_held c.args.held.now) c.in-Ones.ensures more may).1 refl)
