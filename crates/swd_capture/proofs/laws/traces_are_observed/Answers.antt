use Rattle.swd_capture.proofs.TraceLemmas.{capture_trace_observed}
use Rattle.swd_capture.proofs.laws.traces_are_observed.Goals as goal

pub returns : goal.returns
returns c = λ start items. capture_trace_observed start items
