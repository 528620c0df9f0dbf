use Rattle.std.proofs.Common.{◌++◌, ◌≤◌, drop, subst, sym, ap, ◌∙◌, arith}
use Rattle.std.specs.Prelude.{◌||◌}
use Rattle.std.proofs.lemmas.List.{drop-append-le}
use Rattle.swd_trace.specs.declared.item.Item.TheVariants.{Tx as TxItem}
use Rattle.swd_resync.specs.Parts.{stretch_after_tx, has_other_length}
use Rattle.swd_resync.specs.Holding.{resync_held, IsResyncNear}
use Rattle.swd_resync.proofs.JudgeLemmas.{judged_near_behind, judged_or_other}
use Rattle.swd_resync.proofs.judge.starts_with.Goals as goal

pub returns-in-None : goal.returns-in-None
returns-in-None c =
    let most : c.args.len ≤ 46 = c.requires.most in
    let j = c.in-None.ensures in (
      j.0,
      judged_near_behind c.args.len 0 92 (resync_held c.args.held.now) (omega arith)
          (subst (IsResyncNear 0) c.without.ensures.bits j.1),
    )

pub returns-in-Some-true : goal.returns-in-Some-true
returns-in-Some-true c = λ more may.
    ap (λ t. t || has_other_length c.args.over (TxItem c.args.tx.now) (resync_held c.args.held.now ++ more))
    (ap (stretch_after_tx c.args.tx.now.result)
    (drop-append-le c.args.len (resync_held c.args.held.now) more c.requires.fits
    ∙ ap (λ x. x ++ more) (sym c.without.ensures.bits))
    ∙ c.in-Some-true.ensures more may ∙ c.in-Some-true.field-0-test)

pub returns-in-Some-false : goal.returns-in-Some-false
returns-in-Some-false c =
    judged_or_other c.args.ended (λ bits. stretch_after_tx c.args.tx.now.result (drop c.args.len bits))
    (λ bits. has_other_length c.args.over (TxItem c.args.tx.now) bits) (resync_held c.args.held.now) _
    (λ more may. ap (stretch_after_tx c.args.tx.now.result)
    (drop-append-le c.args.len (resync_held c.args.held.now) more c.requires.fits
    ∙ ap (λ x. x ++ more) (sym c.without.ensures.bits))
    ∙ c.in-Some-false.ensures more may ∙ c.in-Some-false.field-0-test) c.other_length_fits.ensures
