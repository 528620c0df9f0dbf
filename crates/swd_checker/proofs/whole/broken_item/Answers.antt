use Rattle.std.proofs.Common.{sym, ◌∙◌}
use Rattle.swd_checker.proofs.WholeLemmas.{checker_begins, checker_ran, breaks_is_right}
use Rattle.swd_checker.proofs.whole.broken_item.Goals as goal

pub loop-index-init : goal.loop-index-init
loop-index-init c = checker_begins c.args.start c.args.clean c.args.items.now c.of-checker.result
    c.of-checker.ensures.starts

pub loop-index-preserved : goal.loop-index-preserved
loop-index-preserved c = record {
  ran = checker_ran c.args.start c.args.clean c.args.items.now c.loop-index.index _ c.loop-index.checker
      c.watch.new.self c.loop-index-test.true c.watch.ensures.watches c.loop-index.invariant;
  unbroken = c.verdict.ensures.goes_on (sym c.is_broken.ensures ∙ c.if-is_broken.false);
}

pub returns-then-is_broken : goal.returns-then-is_broken
returns-then-is_broken c = breaks_is_right c.args.start c.args.clean c.args.items.now c.loop-index.index
    c.watch.new.self c.loop-index-test.true (checker_ran c.args.start c.args.clean c.args.items.now
    c.loop-index.index _ c.loop-index.checker c.watch.new.self c.loop-index-test.true c.watch.ensures.watches
    c.loop-index.invariant) (λ s h. c.verdict.ensures.breaks (sym c.is_broken.ensures ∙ c.if-is_broken.true) h.unbroken)
