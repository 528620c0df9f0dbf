use Rattle.std.proofs.Common.{◌+◌, ◌-◌, ◌≤◌, ◌++◌, length, subst, sym, ap, ◌∙◌, arith}
use Rattle.std.proofs.lemmas.List.{drop-append-le}
use Rattle.swd_trace.specs.declared.item.Item.TheVariants.{Tx as TxItem}
use Rattle.swd_resync.specs.Parts.{before_pair}
use Rattle.swd_resync.specs.Holding.{resync_held, IsResyncNear}
use Rattle.swd_resync.proofs.JudgeLemmas.{judged_near_behind, judged_near_widened, stretch_turns_lost_tx}
use Rattle.swd_resync.proofs.JudgeLemmas.{stretch_withdraws_to_pair, stretch_reports_lost_tx, judged_other_len_fits}
use Rattle.swd_resync.proofs.judge.fate_if_lost.Goals as goal

pub returns-in-None-clause-waits : goal.returns-in-None-clause-waits
returns-in-None-clause-waits c =
    let j = c.in-None.ensures in
    (j.0, judged_near_widened 46 92 (resync_held c.args.held.now) (omega arith) j.1)

pub returns-in-Some-true-clause-fits : goal.returns-in-Some-true-clause-fits
returns-in-Some-true-clause-fits c =
    judged_other_len_fits c.args.over.phases c.args.ended (TxItem c.args.tx.now) (resync_held c.args.held.now)
    (λ more may. c.in-Some-true.ensures more may ∙ c.in-Some-true.field-0-test)

pub returns-in-Some-true-clause-told : goal.returns-in-Some-true-clause-told
returns-in-Some-true-clause-told c = λ more may lost.
    stretch_turns_lost_tx c.args.over c.args.tx.now c.args.len (resync_held c.args.held.now ++ more) lost
    (c.in-Some-true.ensures more may ∙ c.in-Some-true.field-0-test)

pub returns-in-None-bits_before_pair-clause-waits : goal.returns-in-None-bits_before_pair-clause-waits
returns-in-None-bits_before_pair-clause-waits c =
    let some : 12 ≤ c.args.len = c.requires.some in
    let most : c.args.len ≤ 46 = c.requires.most in
    let j = c.in-None-bits_before_pair.ensures.judges in (
      j.0,
      judged_near_behind 1 (46 + (c.args.len - 1)) 92 (resync_held c.args.held.now) (omega arith)
          (subst (IsResyncNear (46 + (c.args.len - 1))) c.without.ensures.bits j.1),
    )

pub returns-then-before-len-clause-told : goal.returns-then-before-len-clause-told
returns-then-before-len-clause-told c = λ more may lost.
    let some : 12 ≤ c.args.len = c.requires.some in
    let fits : c.args.len ≤ length (resync_held c.args.held.now) = c.requires.fits in
    stretch_reports_lost_tx c.args.over c.args.tx.now c.args.len c.in-Some.before
    (resync_held c.args.held.now ++ more) lost (c.in-Some-false.ensures more may ∙ c.in-Some-false.field-0-test)
    (ap (before_pair c.args.over.phases (c.args.len - 1))
    (drop-append-le 1 (resync_held c.args.held.now) more (omega arith)
    ∙ ap (λ x. x ++ more) (sym c.without.ensures.bits)) ∙ c.in-Some.ensures.judges more may)
    c.if-before-len.true

pub returns-else-before-len-clause-told : goal.returns-else-before-len-clause-told
returns-else-before-len-clause-told c = λ more may lost.
    let some : 12 ≤ c.args.len = c.requires.some in
    let fits : c.args.len ≤ length (resync_held c.args.held.now) = c.requires.fits in
    stretch_withdraws_to_pair c.args.over c.args.tx.now c.args.len c.in-Some.before
    (resync_held c.args.held.now ++ more) lost (c.in-Some-false.ensures more may ∙ c.in-Some-false.field-0-test)
    (ap (before_pair c.args.over.phases (c.args.len - 1))
    (drop-append-le 1 (resync_held c.args.held.now) more (omega arith)
    ∙ ap (λ x. x ++ more) (sym c.without.ensures.bits)) ∙ c.in-Some.ensures.judges more may)
    c.if-before-len.false
