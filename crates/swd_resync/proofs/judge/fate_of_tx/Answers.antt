use Rattle.std.proofs.Common.{◌++◌, ◌≤◌, subst, sym, ap, ◌∙◌, arith}
use Rattle.std.proofs.lemmas.List.{drop-append-le}
use Rattle.swd_resync.specs.Parts.{stretch_after_tx}
use Rattle.swd_resync.specs.Holding.{resync_held, IsResyncNear}
use Rattle.swd_resync.proofs.HoldLemmas.{resync_if_some_weaker}
use Rattle.swd_resync.proofs.JudgeLemmas.{judged_near_behind, stretch_reports_followed_tx}
use Rattle.swd_resync.proofs.judge.fate_of_tx.Goals as goal

pub returns-in-None-clause-waits : goal.returns-in-None-clause-waits
returns-in-None-clause-waits c =
    let most : c.args.len ≤ 46 = c.requires.most in
    let j = c.in-None.ensures in (
      j.0,
      judged_near_behind c.args.len 0 92 (resync_held c.args.held.now) (omega arith)
          (subst (IsResyncNear 0) c.without.ensures.bits j.1),
    )

pub returns-in-Some-true-clause-told : goal.returns-in-Some-true-clause-told
returns-in-Some-true-clause-told c = λ more may.
    stretch_reports_followed_tx c.args.over c.args.tx.now c.args.len (resync_held c.args.held.now ++ more)
    (ap (stretch_after_tx c.args.tx.now.result)
    (drop-append-le c.args.len (resync_held c.args.held.now) more c.requires.fits
    ∙ ap (λ x. x ++ more) (sym c.without.ensures.bits))
    ∙ c.in-Some-true.ensures more may ∙ c.in-Some-true.field-0-test)

pub returns-in-Some-false-clause-told : goal.returns-in-Some-false-clause-told
returns-in-Some-false-clause-told c =
    resync_if_some_weaker c.fate_if_lost.result _ _ (λ fate told more may. told more may
    (ap (stretch_after_tx c.args.tx.now.result)
    (drop-append-le c.args.len (resync_held c.args.held.now) more c.requires.fits
    ∙ ap (λ x. x ++ more) (sym c.without.ensures.bits))
    ∙ c.in-Some-false.ensures more may ∙ c.in-Some-false.field-0-test)) c.fate_if_lost.ensures.told
