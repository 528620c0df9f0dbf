use Rattle.std.proofs.Common.{refl}
use Rattle.swd_remote.proofs.KeptLemmas.{remote_hung_up}
use Rattle.swd_remote.proofs.line.end_server.Goals as goal

pub returns-clause-hangs : goal.returns-clause-hangs
returns-clause-hangs g c = λ sent left calls h.
    remote_hung_up _ _ sent left calls _ c.args.transport c.into_probe-remote.result c.quit.new.self c.quit.result h
    c.into_probe-remote.ensures c.quit.ensures c.into_parts-reader.ensures.reader c.into_parts-reader.ensures.writer
    c.fault-fault.ensures refl
