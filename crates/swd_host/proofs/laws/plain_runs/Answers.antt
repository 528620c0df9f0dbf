use Rattle.swd_host.proofs.PlainRuns.{host_fits_over_plain, host_runs_over_plain}
use Rattle.swd_host.proofs.laws.plain_runs.Goals as goal

pub returns-clause-fits : goal.returns-clause-fits
returns-clause-fits c = host_fits_over_plain

pub returns-clause-runs : goal.returns-clause-runs
returns-clause-runs c = host_runs_over_plain
