use Rattle.std.proofs.Common.{replicate}
use Rattle.swd_dap.specs.Leading.{DapQueues}
use Rattle.swd_dap.proofs.sequences.hold.Given as goal

abbrev pub invariant-loop : goal.invariant-loop
invariant-loop g l = DapQueues g.P.Packets.exchanged (replicate l.counter l.level) l.initial.packets
    l.initial.bits.items l.packets l.bits.items
