use Rattle.std.proofs.Common.{◌<◌, ◌∙◌, Some, ap, arith, length, sym}
use Rattle.swd_image.proofs.CallLemmas.{image_first_failed_here, image_first_failed_later, image_none_failed_left}
use Rattle.swd_image.proofs.calls.first_failed.Goals as goal

pub returns-then-not-is_done : goal.returns-then-not-is_done
returns-then-not-is_done c =
    let few : c.loop-index.index < length c.args.answers.now = omega arith in
    ap (λ a. Some a) c.address.ensures ∙ sym (c.loop-index.invariant
    ∙ image_first_failed_here c.args.accesses.now c.args.answers.now c.loop-index.index _ _ c.loop-index-test.true few
    (sym c.is_done.ensures ∙ c.if-not-is_done.true))

pub loop-index-preserved : goal.loop-index-preserved
loop-index-preserved c =
    let few : c.loop-index.index < length c.args.answers.now = omega arith in
    c.loop-index.invariant
    ∙ image_first_failed_later c.args.accesses.now c.args.answers.now c.loop-index.index _ _ c.loop-index-test.true few
    (sym c.is_done.ensures ∙ c.if-not-is_done.false)

pub returns : goal.returns
returns c =
    sym (c.loop-index.invariant
    ∙ image_none_failed_left c.args.accesses.now c.args.answers.now c.loop-index.index c.loop-index-test.false)
