use Rattle.swd_observer.proofs.TraceLemmas.{observed_any_trace_accounted, observed_rest_trace_accounted}
use Rattle.swd_observer.proofs.TraceLemmas.{observed_trace_accounted}
use Rattle.swd_observer.proofs.laws.observed_traces.Goals as goal

pub returns : goal.returns
returns c = record {
  made = observed_trace_accounted;
  rest = observed_rest_trace_accounted;
  any = observed_any_trace_accounted;
}
