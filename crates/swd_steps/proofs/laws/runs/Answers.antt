use Rattle.swd_steps.proofs.Reporting.{stepped_always_closes, stepped_open_fits, stepped_resume_fits, stepped_run_fits}
use Rattle.swd_steps.proofs.laws.runs.Goals as goal

pub returns-clause-closes : goal.returns-clause-closes
returns-clause-closes c = stepped_always_closes

pub returns-clause-runs : goal.returns-clause-runs
returns-clause-runs c = stepped_run_fits

pub returns-clause-resumes : goal.returns-clause-resumes
returns-clause-resumes c = stepped_resume_fits

pub returns-clause-opened : goal.returns-clause-opened
returns-clause-opened c = stepped_open_fits
