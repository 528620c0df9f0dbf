use Rattle.std.proofs.Common.{refl}
use Rattle.swd_dap.proofs.transport.DapTransport.open.Goals as goal

pub returns-then-self : goal.returns-then-self
returns-then-self g c = rw c.if-self.true refl

pub returns : goal.returns
returns g c = rw c.if-self.false (c.in_ok-bytes.ensures.ok, refl)
