use Rattle.swd_steps.proofs.StandIns.{stepped_ran_by_stand_ins, stepped_run_fits_by_stand_ins}
use Rattle.swd_steps.proofs.laws.stand_ins.Goals as goal

pub returns-clause-ran : goal.returns-clause-ran
returns-clause-ran c = stepped_ran_by_stand_ins

pub returns-clause-runs : goal.returns-clause-runs
returns-clause-runs c = stepped_run_fits_by_stand_ins
