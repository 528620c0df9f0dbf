use Rattle.std.proofs.Common.{arith}
use Rattle.swd_steps.proofs.Stepping.{stepped_too_few_before}
use Rattle.swd_steps.proofs.run.Run.refusal.Goals as goal

pub returns-then-self-count-clause-some : goal.returns-then-self-count-clause-some
returns-then-self-count-clause-some g c = λ reply.
    stepped_too_few_before (g.L.Accesses.list c.args.accesses.now) c.args.self.now
    (omega (arith, c.if-self-count.true, c.count-count.ensures))
