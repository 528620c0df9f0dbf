use Rattle.std.proofs.Common.{refl}
use Rattle.swd_dap.proofs.transport.DapTransport.take.Goals as goal

pub returns-in_ok-bits-in-Clocks : goal.returns-in_ok-bits-in-Clocks
returns-in_ok-bits-in-Clocks g c =
    let done = c.in_ok-bits-in-Clocks.ensures.ok in
    rw c.in-Clocks.is (done.0, done.1, done.2, refl)
