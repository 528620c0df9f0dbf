use Rattle.std.proofs.Common.{drop}
use Rattle.swd_remote.specs.Packets.{ProbeQueues}
use Rattle.swd_remote.proofs.probe_transport.ProbeTransport.queue_all.Given as goal

-- the sequences that are left make it whole
abbrev pub invariant-loop-sequence : goal.invariant-loop-sequence
invariant-loop-sequence g l = (t : g.row.P.Denot)
    → ProbeQueues g.P.Probe.queues (drop l.sequence-index l.sequences) l.self.probe t
    → ProbeQueues g.P.Probe.queues l.sequences l.fn.self.probe t
