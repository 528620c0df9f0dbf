use Rattle.std.proofs.Common.{refl, arith, ap, length}
use Rattle.swd_checker.specs.Standing.{is_checked_broken}
use Rattle.swd_checker.proofs.BeginsLemmas.{fits_from_first, fits_from_more, shown_part}
use Rattle.swd_checker.proofs.WholeLemmas.{checker_ran, breaks_is_right}
use Rattle.swd_checker.proofs.whole.shown_from.Goals as goal

pub loop-index-init : goal.loop-index-init
loop-index-init c = fits_from_first c.args.start c.args.clean c.args.items.now c.of-checker.result
    c.of-checker.ensures.starts c.of-checker.ensures.first c.of-checker.ensures.known c.of-checker.ensures.unbegun

pub loop-index-preserved : goal.loop-index-preserved
loop-index-preserved c =
    let fits = c.verdict.ensures.fits c.in-Fits.is in
    fits_from_more c.args.start c.args.clean c.args.items.now c.loop-index.index _ _ c.loop-index.checker
    c.watch.new.self c.loop-index-test.true refl c.watch.ensures.watches c.watch.ensures.follows
    c.watch.ensures.begins c.watch.ensures.knows fits.0 fits.1 c.loop-index.invariant

pub returns-in-Breaks : goal.returns-in-Breaks
returns-in-Breaks c = shown_part c.args.start c.args.clean c.args.items.now c.loop-index.index c.loop-index.index
    c.loop-index.checker c.began-began.result c.part_up_to.result refl c.began-began.ensures (omega arith)
    c.loop-index.invariant
    (λ below. (breaks_is_right c.args.start c.args.clean c.args.items.now c.loop-index.index c.watch.new.self below
    (checker_ran c.args.start c.args.clean c.args.items.now c.loop-index.index _ c.loop-index.checker c.watch.new.self
    c.loop-index-test.true c.watch.ensures.watches c.loop-index.invariant.ran)
    (λ s h. c.verdict.ensures.breaks (ap is_checked_broken c.in-Breaks.is) h.unbroken)).never)
    c.part_up_to.ensures

pub returns : goal.returns
returns c = shown_part c.args.start c.args.clean c.args.items.now c.loop-index.index (length c.args.items.now)
    c.loop-index.checker c.began.result c.part_up_to-2.result (omega arith) c.began.ensures (omega arith)
    c.loop-index.invariant (λ below. absurd (omega arith)) c.part_up_to-2.ensures
