use Rattle.std.proofs.Common.{◌≡◌, ◌-◌, Bool, List, Some, map}
use Rattle.swd_bits.specs.Bits.{low_bits}
use Rattle.swd_clocked.specs.declared.marked.FaultyClocked.{FaultyClocked}
use Rattle.swd_ends.specs.ClockedProbes.{ClockedProbeCycles, clocked_probe_target, clocked_probe_waiting}
use Rattle.swd_ends.proofs.clocked_probe.ClockedProbe.drive.Given as goal

-- the clocks that are left make it whole
abbrev pub invariant-loop-place : goal.invariant-loop-place
invariant-loop-place g l = record {
  leads : (seen : List Bool) (t : FaultyClocked g.row.D.Denot g.row.A.Denot)
      → ClockedProbeCycles g.D.Device.bus (map Some (low_bits (l.count - l.place) l.rest)) seen
      (clocked_probe_target l.self) t
      → (all : List Bool) × ClockedProbeCycles g.D.Device.bus (map Some (low_bits l.count l.bits)) all
      (clocked_probe_target l.fn.self)
      t;
  waits : clocked_probe_waiting l.self ≡ clocked_probe_waiting l.fn.self;
}
