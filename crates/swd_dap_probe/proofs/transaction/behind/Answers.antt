use Rattle.swd_dap_probe.specs.Transactions.{reads}
use Rattle.swd_dap_probe.proofs.transaction.behind.Goals as goal

pub returns-in-1 : goal.returns-in-1
returns-in-1 g c = reads c.in-1.is c.if-request.true c.take.ensures.0 c.take.ensures.1 c.take.ensures.2
