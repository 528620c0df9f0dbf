use Rattle.std.proofs.Common.{[], List, ◌≡◌, subst, sym}
use Rattle.swd_port.specs.declared.access.Access.{Access as AccessType}
use Rattle.swd_host.specs.Engines.{engine_bursts}
use Rattle.swd_steps.specs.declared.run.Run.{Run as RunType}
use Rattle.swd_steps.specs.Runs.{SteppedRan, stepped_again}
use Rattle.swd_c.proofs.run.swd_run_again.Goals as goal

pub returns-clause-again : goal.returns-clause-again
returns-clause-again c = λ before is one.
    let found = c.in-Some.ensures.found before is in
    let same : c.in-Some.before ≡ before = cc in (
      c.in-Some-again.now,
      sym c.fields.ensures,
      subst (λ (b : RunType). (list : List AccessType)
          → SteppedRan (stepped_again (engine_bursts b.engine) b.answered c.args.tries) list [] c.in-Some-again.now [])
          same c.in-Some-again.ensures.again,
    )
