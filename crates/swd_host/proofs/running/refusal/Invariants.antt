use Rattle.swd_host.proofs.Words.{◌≤◌, take, length, AreHostAccesses}
use Rattle.swd_host.proofs.running.refusal.Given as goal

abbrev pub invariant-loop-index : goal.invariant-loop-index
invariant-loop-index l = record { are : AreHostAccesses (take l.index l.accesses); few : length l.accesses ≤ 65536 }
