use Rattle.std.proofs.Common.{refl}
use Rattle.swd_dap.proofs.transport.DapTransport.new.Goals as goal

pub returns-clause-fresh : goal.returns-clause-fresh
returns-clause-fresh g c = λ h. record {
  nothing = h;
  closed = refl;
  none_told = c.new-2.ensures;
  nothing_left = refl;
  none_posted = refl;
  well = refl;
}
