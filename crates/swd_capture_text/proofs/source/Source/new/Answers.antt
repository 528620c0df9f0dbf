use Rattle.std.proofs.Common.{[], sym, arith, subst}
use Rattle.swd_capture_text.specs.Readings.{SourceDecides}
use Rattle.swd_capture_text.proofs.SourceLemmas.{source_decides_nothing}
use Rattle.swd_capture_text.proofs.source.Source.new.Goals as goal

pub returns-in-Trace-clause-decides : goal.returns-in-Trace-clause-decides
returns-in-Trace-clause-decides c = subst (λ r. SourceDecides r [] []) (sym c.in-Trace.is) source_decides_nothing

pub returns-in-Capture-clause-decides : goal.returns-in-Capture-clause-decides
returns-in-Capture-clause-decides c =
    let new = c.new-in-Capture in
    subst (λ r. SourceDecides r [] []) (sym c.in-Capture.is)
    (new.result, new.ensures.read, omega (arith, new.ensures.held))
