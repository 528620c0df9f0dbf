use Rattle.std.proofs.Common.{take}
use Rattle.swd_dap.specs.Transfers.{IsDapBeginning}
use Rattle.swd_dap.proofs.BeginningLemmas.{DapGoesSoFar}
use Rattle.swd_dap.proofs.beginning.longest_beginning.Given as goal

abbrev pub invariant-loop-place : goal.invariant-loop-place
invariant-loop-place l = record {
  so_far : DapGoesSoFar (take l.place l.plan) l.size l.padded l.posted l.filled;
  longest : IsDapBeginning l.plan l.size l.padded l.posted l.longest;
}
