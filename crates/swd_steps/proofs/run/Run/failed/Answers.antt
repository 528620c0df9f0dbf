use Rattle.std.proofs.Common.{◌≡◌, sym, subst}
use Rattle.std.specs.Prelude.{Some}
use Rattle.swd_port.specs.declared.cue.Cue.TheVariants.{Ask}
use Rattle.swd_host.specs.declared.outcome.End.TheVariants.{Lost}
use Rattle.swd_host.specs.Engines.{EngineHasCue}
use Rattle.swd_steps.specs.declared.run.Stage.TheVariants.{Ended}
use Rattle.swd_steps.specs.Failing.{SteppedFails}
use Rattle.swd_steps.specs.Runs.{stepped_run_cue}
use Rattle.swd_steps.proofs.Failing.{stepped_asking_fails}
use Rattle.swd_steps.proofs.run.Run.failed.Goals as goal

pub returns-in-Ask-clause-fails : goal.returns-in-Ask-clause-fails
returns-in-Ask-clause-fails c =
    let asks : stepped_run_cue c.args.self.now ≡ Some (Ask c.in-Ask.field-0) =
    let shown = c.in_ok-cue.ensures.cue in
    let is = c.in-Ask.is in cc in
    subst (EngineHasCue (λ cue. SteppedFails cue c.args.self.now
    (record c.args.self.now { engine = c.next.new.self; stage = Ended Lost }))) (sym asks)
    (stepped_asking_fails c.args.self.now c.next.new.self c.in-Ask.field-0 asks c.next.ensures)
