use Rattle.swd_text.specs.Sinks.{LeadsSinkOn}
use Rattle.swd_capture.specs.Printing.{capture_junk_parts}
use Rattle.swd_check.specs.Checks.{CheckHasHeld}
use Rattle.swd_check.proofs.JunkLemmas.{JunkTaken}
use Rattle.swd_check.proofs.text.CapturedPartsPartSinkUnit.take_junk.Given as goal

abbrev pub invariant-loop-taken : goal.invariant-loop-taken
invariant-loop-taken g l =
    JunkTaken (λ done. LeadsSinkOn CheckHasHeld (l.fn.self, tt) (capture_junk_parts done) (l.self, tt)) l.fn.junk
    l._taken l.bits
