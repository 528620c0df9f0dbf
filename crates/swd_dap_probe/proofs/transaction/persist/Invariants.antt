use Rattle.swd_dap_probe.specs.Transactions.{DapWaits}
use Rattle.swd_dap_probe.proofs.transaction.persist.Given as goal

-- so many transactions were answered WAIT
abbrev pub invariant-loop-place : goal.invariant-loop-place
invariant-loop-place g l = DapWaits g.L.ProbeLine.clocks l.settings l.request l.word l.place l.fn.line l.line
