use Rattle.swd_run.proofs.RecordedLemmas.{any_run_trace_accounted, run_trace_accounted}
use Rattle.swd_run.proofs.laws.recorded_accesses.Goals as goal

pub returns : goal.returns
returns c = record { made = run_trace_accounted; any = any_run_trace_accounted }
