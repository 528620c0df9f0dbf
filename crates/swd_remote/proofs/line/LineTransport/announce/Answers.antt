use Rattle.std.proofs.Common.{subst}
use Rattle.swd_remote.specs.declared.line.LineTransport.{LineTransport}
use Rattle.swd_remote.specs.Kept.{AreLineCallsSent}
use Rattle.swd_remote.proofs.KeptLemmas.{line_calls_announced}
use Rattle.swd_remote.proofs.line.LineTransport.announce.Goals as goal

pub returns-in-Probe : goal.returns-in-Probe
returns-in-Probe g c = λ way sent left calls h.
    line_calls_announced g.R.Read.remaining g.W.Write.contents way sent left calls c.in-Probe.transport
    c.foresee.new.self c.foresee.ensures
    (subst (λ (t : LineTransport g.row.R.Denot g.row.W.Denot). AreLineCallsSent way g.R.Read.remaining
    g.W.Write.contents sent left calls t) c.in-Probe.is h)
