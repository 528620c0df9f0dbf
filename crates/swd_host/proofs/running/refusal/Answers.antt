use Rattle.swd_host.proofs.Words.{sym, subst, arith, AreHostAccesses}
use Rattle.std.proofs.lemmas.List.{take_all}
use Rattle.swd_host.proofs.Lists.{host_list_valid_next, host_access_valid}
use Rattle.swd_host.proofs.running.refusal.Goals as goal

pub loop-index-preserved : goal.loop-index-preserved
loop-index-preserved c = record {
  are = host_list_valid_next c.args.accesses.now c.loop-index.index _ c.loop-index-test.true c.loop-index.invariant.are
      (host_access_valid _ c.if-not-is_aligned.ensures.ranges (sym c.if-not-is_aligned.ensures.aligned));
  few = c.loop-index.invariant.few;
}

pub returns-then-not-is_aligned-clause-refused : goal.returns-then-not-is_aligned-clause-refused
returns-then-not-is_aligned-clause-refused c = (
  c.loop-index.invariant.few,
  c.loop-index-test.true,
  c.loop-index.invariant.are,
  sym c.if-not-is_aligned.ensures.aligned,
)

pub returns-clause-none : goal.returns-clause-none
returns-clause-none c = (
  c.loop-index.invariant.few,
  subst AreHostAccesses (take_all c.loop-index.index c.args.accesses.now (omega arith))
      c.loop-index.invariant.are,
)
