use Rattle.std.proofs.Common.{arith, map}
use Rattle.swd_trace.specs.declared.item.Item.TheVariants.{Junk}
use Rattle.swd_text.specs.Sinks.{sink_takes_nothing}
use Rattle.swd_check.specs.Watched.{CheckHolds, CheckTakes}
use Rattle.swd_check.proofs.JunkLemmas.{check_junk_begins, check_junk_goes_on, check_junk_ends, check_junk_more}
use Rattle.swd_check.proofs.text.watch_junk.Goals as goal

pub loop-taken-init : goal.loop-taken-init
loop-taken-init g c = check_junk_begins (λ done. CheckTakes (map Junk done) c.args.check.now c.args.check.now)
    c.args.junk (sink_takes_nothing CheckHolds c.args.check.now)

pub loop-taken-preserved : goal.loop-taken-preserved
loop-taken-preserved g c = check_junk_goes_on
    (λ done. CheckTakes (map Junk done) c.args.check.now c.loop-taken.check)
    (λ done. CheckTakes (map Junk done) c.args.check.now c.watch.new.self) c.args.junk c.loop-taken._taken
    c.loop-taken.bits c.loop-taken-test.true c.loop-taken.invariant
    (check_junk_more c.args.check.now c.loop-taken.check c.watch.new.self _ c.watch.ensures)

pub returns : goal.returns
returns g c = check_junk_ends (λ done. CheckTakes (map Junk done) c.args.check.now c.loop-taken.check) c.args.junk
    c.loop-taken._taken c.loop-taken.bits (omega (arith, c.loop-taken-test.false, c.loop-taken.auto._taken-end))
    c.loop-taken.invariant
