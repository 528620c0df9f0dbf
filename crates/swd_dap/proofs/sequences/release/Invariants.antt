use Rattle.swd_dap.specs.Leading.{DapReleases}
use Rattle.swd_dap.proofs.sequences.release.Given as goal

abbrev pub invariant-loop-left : goal.invariant-loop-left
invariant-loop-left g l = (t : g.row.P.Denot) → DapReleases g.P.Packets.exchanged l.left l.packets t
    → DapReleases g.P.Packets.exchanged l.clocks l.initial.packets t

abbrev pub decreases-loop-left : goal.decreases-loop-left
decreases-loop-left g l = l.left
