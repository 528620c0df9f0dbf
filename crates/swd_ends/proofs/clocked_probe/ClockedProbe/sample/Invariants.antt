use Rattle.std.proofs.Common.{◌≡◌, ◌-◌, Bool, List, ◌++◌, None, take}
use Rattle.std.specs.Prelude.{replicate}
use Rattle.swd_clocked.specs.declared.marked.FaultyClocked.{FaultyClocked}
use Rattle.swd_ends.specs.ClockedProbes.{ClockedProbeCycles, clocked_probe_target, clocked_probe_waiting}
use Rattle.swd_ends.proofs.clocked_probe.ClockedProbe.sample.Given as goal

-- the clocks that are left make it whole, and what they show comes behind what waits
abbrev pub invariant-loop-place : goal.invariant-loop-place
invariant-loop-place g l = (seen : List Bool) (t : FaultyClocked g.row.D.Denot g.row.A.Denot)
    → ClockedProbeCycles g.D.Device.bus (replicate (l.count - l.place) None) seen (clocked_probe_target l.self) t
    → (all : List Bool) × ClockedProbeCycles g.D.Device.bus (replicate l.count None) all
    (clocked_probe_target l.fn.self) t
    × (take 64 (clocked_probe_waiting l.self ++ seen) ≡ take 64 (clocked_probe_waiting l.fn.self ++ all))
