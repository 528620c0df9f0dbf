use Rattle.std.proofs.Common.{arith}
use Rattle.swd_steps.proofs.Stepping.{stepped_open_ran}
use Rattle.swd_steps.proofs.run.Run.opened.Goals as goal

pub returns-clause-ran : goal.returns-clause-ran
returns-clause-ran g c =
    stepped_open_ran c.args.bursts c.args.tries (g.L.Accesses.list c.args.accesses.now) c.opened.result
    c.beginning-run.result c.begin.new.self c.opened.ensures.opened c.beginning-run.ensures.engine
    c.beginning-run.ensures.answered
    (omega (arith, c.if-count.false, c.count-count.ensures), c.in_default.ensures.none) c.begin.ensures.starts
    c.begin.ensures.drives c.begin.ensures.none c.begin.ensures.answered
