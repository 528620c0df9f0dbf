use Rattle.swd_clocked.specs.Clocks.{clocked_over}
use Rattle.swd_c.proofs.target.target_over.Goals as goal

-- over another device a target has the same numbers
pub returns-clause-found : goal.returns-clause-found
returns-clause-found c = λ other numbers. c.clocked.ensures.found (clocked_over c.args.memory other) numbers.has
