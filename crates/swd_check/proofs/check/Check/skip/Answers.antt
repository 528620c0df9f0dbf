use Rattle.std.proofs.Common.{refl, arith}
use Rattle.swd_text.specs.Sinks.{sink_takes_nothing}
use Rattle.swd_check.specs.Watched.{CheckHolds}
use Rattle.swd_check.proofs.WatchLemmas.{check_skipped, check_skips}
use Rattle.swd_check.proofs.check.Check.skip.Goals as goal

pub loop-taken-init : goal.loop-taken-init
loop-taken-init g c = sink_takes_nothing CheckHolds c.args.self.now

pub loop-taken-preserved : goal.loop-taken-preserved
loop-taken-preserved g c = check_skips c.args.self.now c.loop-taken.self c.watch.new.self c.loop-taken._taken
    c.loop-taken.invariant c.watch.ensures

pub returns : goal.returns
returns g c = check_skipped c.args.self.now c.loop-taken.self _ c.args.bits c.loop-taken._taken
    (omega (arith, c.loop-taken-test.false, c.loop-taken.auto._taken-end, c.min-taken-end.ensures)) refl refl
    c.saturating_add-behind.ensures c.loop-taken.invariant
