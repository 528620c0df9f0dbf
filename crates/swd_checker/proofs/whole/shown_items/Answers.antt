use Rattle.std.proofs.Common.{refl, arith, ap}
use Rattle.swd_checker.specs.Standing.{is_checked_broken}
use Rattle.swd_checker.proofs.FittingLemmas.{checker_fits_first, checker_fits_more, fits_are_shown, all_are_shown}
use Rattle.swd_checker.proofs.WholeLemmas.{checker_ran, breaks_is_right}
use Rattle.swd_checker.proofs.whole.shown_items.Goals as goal

pub loop-index-init : goal.loop-index-init
loop-index-init c = checker_fits_first c.args.clean c.args.items.now c.of-checker.result c.of-checker.ensures.starts
    (c.of-checker.ensures.begins refl)

pub loop-index-preserved : goal.loop-index-preserved
loop-index-preserved c =
    let fits = c.verdict.ensures.fits c.in-Fits.is in
    checker_fits_more c.args.clean c.args.items.now c.loop-index.index _ c.loop-index.checker c.watch.new.self
    c.loop-index-test.true c.watch.ensures.watches c.watch.ensures.follows fits.0 fits.1 c.loop-index.invariant

pub returns-in-Breaks : goal.returns-in-Breaks
returns-in-Breaks c = record {
  inside = omega arith;
  shown = λ legal gapless.
      fits_are_shown c.args.clean c.args.items.now _ c.loop-index.checker c.loop-index.invariant legal gapless;
  longest = λ below. (breaks_is_right _ c.args.clean c.args.items.now c.loop-index.index c.watch.new.self below
      (checker_ran _ c.args.clean c.args.items.now c.loop-index.index _ c.loop-index.checker c.watch.new.self
      c.loop-index-test.true c.watch.ensures.watches c.loop-index.invariant.ran)
      (λ s h. c.verdict.ensures.breaks (ap is_checked_broken c.in-Breaks.is) h.unbroken)).never;
}

pub returns : goal.returns
returns c = all_are_shown c.args.clean c.args.items.now c.loop-index.index c.loop-index.checker
    (omega arith) c.loop-index.invariant
