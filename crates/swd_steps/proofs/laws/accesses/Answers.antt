use Rattle.swd_steps.proofs.Reaching.{stepped_open_reaches, stepped_resume_reaches, stepped_run_reaches}
use Rattle.swd_steps.proofs.laws.accesses.Goals as goal

pub returns-clause-runs : goal.returns-clause-runs
returns-clause-runs c = stepped_run_reaches

pub returns-clause-opened : goal.returns-clause-opened
returns-clause-opened c = stepped_open_reaches

pub returns-clause-resumes : goal.returns-clause-resumes
returns-clause-resumes c = stepped_resume_reaches
