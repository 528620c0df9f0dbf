use Rattle.std.proofs.Common.{take}
use Rattle.swd_dap.specs.Leading.{DapQueues}
use Rattle.swd_dap.proofs.sequences.drive_all.Given as goal

abbrev pub invariant-loop-bit : goal.invariant-loop-bit
invariant-loop-bit g l = DapQueues g.P.Packets.exchanged (take l.bit-index l.more) l.initial.packets
    l.initial.bits.items l.packets l.bits.items
