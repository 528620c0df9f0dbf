use Rattle.std.proofs.Common.{sym, subst}
use Rattle.swd_resync.specs.Holding.{resync_held}
use Rattle.swd_resync.specs.Stages.{ResyncMove}
use Rattle.swd_resync.specs.declared.stage.RemovalStage.TheVariants.{Stretch}
use Rattle.swd_resync.proofs.MoveLemmas.{stretch_tx_moves}
use Rattle.swd_resync.proofs.moves.tx_move.Goals as goal

pub returns-in-Some : goal.returns-in-Some
returns-in-Some c =
    subst (ResyncMove c.args.over c.args.ended (Stretch 0) (resync_held c.args.held.now)) (sym c.fate_move.ensures)
    (stretch_tx_moves c.args.over c.args.ended c.args.front.now.tx c.args.front.now.len c.in-Some.fate
    (resync_held c.args.held.now) c.requires c.in-Some.ensures.fits c.in-Some.ensures.told)
