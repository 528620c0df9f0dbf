use Rattle.std.proofs.Common.{◌≡◌, ◌++◌}
use Rattle.swd_port.specs.PlainAnswers.{plain_reads}
use Rattle.swd_port.proofs.access.push_reads.Given as goal

abbrev pub invariant-loop-index : goal.invariant-loop-index
invariant-loop-index g l = l.list.items ≡ l.initial.list.items ++ plain_reads l.addr l.index
