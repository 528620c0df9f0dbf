use Rattle.std.proofs.Common.{refl}
use Rattle.swd_dap.proofs.transport.DapTransport.give.Goals as goal

pub returns-in_ok-give-in-Clocks : goal.returns-in_ok-give-in-Clocks
returns-in_ok-give-in-Clocks g c =
    let done = c.in_ok-give-in-Clocks.ensures in
    rw c.in-Clocks.is (done.0, done.1, refl)
