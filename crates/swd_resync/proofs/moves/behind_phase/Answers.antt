use Rattle.std.proofs.Common.{◌++◌, refl, sym, subst}
use Rattle.swd_resync.specs.declared.sight.Sight.TheVariants.{End, Zero, Ones, Cut}
use Rattle.swd_resync.specs.declared.stage.RemovalStage.TheVariants.{AfterPhase}
use Rattle.swd_resync.specs.Holding.{resync_held}
use Rattle.swd_resync.specs.Stages.{ResyncMove}
use Rattle.swd_resync.proofs.JudgeLemmas.{sight_first}
use Rattle.swd_resync.proofs.MoveLemmas.{stretch_waits_few, stretch_phase_skipped, stretch_phase_before}
use Rattle.swd_resync.proofs.MoveLemmas.{stretch_phase_moves, stretch_phase_ends_at_junk}
use Rattle.swd_resync.proofs.moves.behind_phase.Goals as goal

pub returns-in-Wait : goal.returns-in-Wait
returns-in-Wait c = stretch_waits_few c.args.over c.args.ended AfterPhase (resync_held c.args.held.now)
    c.in-Wait.ensures.0 c.in-Wait.ensures.1

pub returns-in-Junk : goal.returns-in-Junk
returns-in-Junk c = stretch_phase_ends_at_junk c.args.over c.args.ended (resync_held c.args.held.now)
    c.in-Junk.ensures.0 c.in-Junk.ensures.1

pub returns-in-Some : goal.returns-in-Some
returns-in-Some c =
    subst (ResyncMove c.args.over c.args.ended AfterPhase (resync_held c.args.held.now)) (sym c.phase_move.ensures)
    (stretch_phase_moves c.args.over c.args.ended c.in-Tx.tx c.in-Tx.len c.in-Some.fate (resync_held c.args.held.now)
    c.in-Tx.ensures c.in-Some.ensures.fits c.in-Some.ensures.told)

pub returns-in-End : goal.returns-in-End
returns-in-End c =
    stretch_phase_skipped c.args.over c.args.ended (resync_held c.args.held.now)
    c.phase_skipped.result c.phase_skipped.ensures (λ more may.
    stretch_phase_before c.args.over (resync_held c.args.held.now ++ more) _
    (sight_first c.args.over.phases c.args.ended End (resync_held c.args.held.now) c.in-End.ensures more may) refl refl)

pub returns-in-Zero : goal.returns-in-Zero
returns-in-Zero c =
    stretch_phase_skipped c.args.over c.args.ended (resync_held c.args.held.now)
    c.phase_skipped-in-Zero.result c.phase_skipped-in-Zero.ensures (λ more may.
    stretch_phase_before c.args.over (resync_held c.args.held.now ++ more) _
    (sight_first c.args.over.phases c.args.ended Zero (resync_held c.args.held.now) c.in-Zero.ensures more may).1
    refl refl)

pub returns-in-Ones : goal.returns-in-Ones
returns-in-Ones c =
    stretch_phase_skipped c.args.over c.args.ended (resync_held c.args.held.now)
    c.phase_skipped-in-Ones.result c.phase_skipped-in-Ones.ensures (λ more may.
    stretch_phase_before c.args.over (resync_held c.args.held.now ++ more) _
    (sight_first c.args.over.phases c.args.ended Ones (resync_held c.args.held.now) c.in-Ones.ensures more may).1
    refl refl)

pub returns-in-Cut : goal.returns-in-Cut
returns-in-Cut c =
    stretch_phase_skipped c.args.over c.args.ended (resync_held c.args.held.now)
    c.phase_skipped-in-Cut.result c.phase_skipped-in-Cut.ensures (λ more may.
    stretch_phase_before c.args.over (resync_held c.args.held.now ++ more) _
    (sight_first c.args.over.phases c.args.ended (Cut c.in-Cut.field-0) (resync_held c.args.held.now)
    c.in-Cut.ensures more may).1 refl refl)
