use Rattle.std.proofs.Common.{arith, rules}
use Rattle.swd_steps.proofs.Planning.{steps_foresee}
use Rattle.swd_steps.proofs.run.Run.coming.Goals as goal

pub returns-clause-foresees : goal.returns-clause-foresees
returns-clause-foresees g c = steps_foresee c.args.room 160 (g.L.Accesses.list c.args.accesses.now) c.args.self.now _
    c.coming-coming.result.items _ c.in-Driving.is c.of-ahead.ensures.taken c.coming-coming.ensures (omega arith)
    (search rules)
