use Rattle.std.proofs.Common.{◌++◌, ◌<◌, length, drop, subst, sym, ap, ◌∙◌}
use Rattle.std.proofs.lemmas.List.{drop-append-le}
use Rattle.swd_resync.specs.Parts.{stretch_after_tx}
use Rattle.swd_resync.specs.Fronts.{IsResyncFront}
use Rattle.swd_resync.specs.Holding.{resync_held}
use Rattle.swd_resync.specs.Stages.{ResyncMove}
use Rattle.swd_resync.specs.declared.judge.TxFate.TheVariants.{Reported}
use Rattle.swd_resync.specs.declared.stage.RemovalStage.TheVariants.{Stretch}
use Rattle.swd_resync.proofs.FrontLemmas.{stretch_goes_on_before_tx, stretch_waits_behind}
use Rattle.swd_resync.proofs.JudgeLemmas.{stretch_reports_followed_tx}
use Rattle.swd_resync.proofs.MoveLemmas.{stretch_tx_moves}
use Rattle.swd_resync.proofs.moves.tx_step.Goals as goal

pub returns-in-Wait-clause-moves : goal.returns-in-Wait-clause-moves
returns-in-Wait-clause-moves c =
    stretch_waits_behind c.args.over c.args.ended (Stretch 0) c.args.front.now.len (resync_held c.args.held.now)
    c.requires.most c.in-Wait.ensures.0
    (subst (λ x. length x < 50) c.without.ensures.bits c.in-Wait.ensures.1)

pub returns-in-Tx-clause-moves : goal.returns-in-Tx-clause-moves
returns-in-Tx-clause-moves c =
    subst (ResyncMove c.args.over c.args.ended (Stretch 0) (resync_held c.args.held.now))
    (sym c.followed_step.ensures.next)
    (stretch_tx_moves c.args.over c.args.ended c.args.front.now.tx c.args.front.now.len Reported
    (resync_held c.args.held.now) c.requires tt (λ more may.
    stretch_reports_followed_tx c.args.over c.args.front.now.tx c.args.front.now.len
    (resync_held c.args.held.now ++ more)
    (ap (stretch_after_tx c.args.front.now.tx.result)
    (drop-append-le c.args.front.now.len (resync_held c.args.held.now) more c.requires.fits
    ∙ ap (λ x. x ++ more) (sym c.without.ensures.bits))
    ∙ stretch_goes_on_before_tx c.args.front.now.tx.result c.in-Tx.tx c.in-Tx.len _ more
    (sym c.is_acknowledged.ensures ∙ c.if-not-is_acknowledged.false) c.in-Tx.ensures)))

pub returns-in-Tx-clause-behind : goal.returns-in-Tx-clause-behind
returns-in-Tx-clause-behind c =
    subst (λ n. IsResyncFront c.followed_step.result.next.over.phases c.followed_step.result.behind n)
    (c.without.ensures.bits ∙ ap (λ m. drop m.count (resync_held c.args.held.now)) (sym c.followed_step.ensures.next))
    (c.followed_step.ensures.behind _ c.in-Tx.ensures)
