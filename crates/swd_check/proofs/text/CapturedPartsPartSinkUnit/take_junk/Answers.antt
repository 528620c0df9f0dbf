use Rattle.std.proofs.Common.{arith}
use Rattle.swd_text.specs.Sinks.{LeadsSinkOn, sink_takes_nothing}
use Rattle.swd_capture.specs.Printing.{capture_junk_parts}
use Rattle.swd_check.specs.Checks.{CheckHasHeld}
use Rattle.swd_check.proofs.CaptureLemmas.{check_held_junk}
use Rattle.swd_check.proofs.JunkLemmas.{check_junk_begins, check_junk_goes_on, check_junk_ends}
use Rattle.swd_check.proofs.text.CapturedPartsPartSinkUnit.take_junk.Goals as goal

pub loop-taken-init : goal.loop-taken-init
loop-taken-init g c =
    let start = c.args.self.now in
    check_junk_begins (λ done. LeadsSinkOn CheckHasHeld (start, tt) (capture_junk_parts done) (start, tt)) c.args.junk
    (sink_takes_nothing CheckHasHeld (start, tt))

pub loop-taken-preserved : goal.loop-taken-preserved
loop-taken-preserved g c =
    let start = c.args.self.now in
    check_junk_goes_on
    (λ done. LeadsSinkOn CheckHasHeld (start, tt) (capture_junk_parts done) (c.loop-taken.self, tt))
    (λ done. LeadsSinkOn CheckHasHeld (start, tt) (capture_junk_parts done) (c.take.new.self, tt))
    c.args.junk c.loop-taken._taken c.loop-taken.bits c.loop-taken-test.true c.loop-taken.invariant
    (check_held_junk start c.loop-taken.self c.take.new.self _ c.take.ensures)

pub returns : goal.returns
returns g c = check_junk_ends
    (λ done. LeadsSinkOn CheckHasHeld (c.args.self.now, tt) (capture_junk_parts done) (c.loop-taken.self, tt))
    c.args.junk c.loop-taken._taken c.loop-taken.bits
    (omega (arith, c.loop-taken-test.false, c.loop-taken.auto._taken-end)) c.loop-taken.invariant
