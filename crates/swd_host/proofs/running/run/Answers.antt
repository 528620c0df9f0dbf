use Rattle.swd_host.proofs.Words.{false}
use Rattle.swd_host.proofs.Alone.{new_engine_closes}
use Rattle.swd_host.proofs.Runs.{new_engine_runs_within}
use Rattle.swd_host.proofs.running.run.Goals as goal

pub returns-clause-closes : goal.returns-clause-closes
returns-clause-closes g c =
    new_engine_closes _ false 0 c.args.tries c.args.accesses.now c.new.result _ _ c.new.ensures.new
    c.conduct.ensures.closes

pub returns-clause-fits : goal.returns-clause-fits
returns-clause-fits g c = λ lawful.
    let was = c.conduct.ensures.fits lawful in
    (was.0, new_engine_runs_within _ c.args.tries c.args.accesses.now c.new.result _ _ _ c.new.ensures.new was.1)
