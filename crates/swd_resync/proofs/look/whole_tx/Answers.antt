use Rattle.std.proofs.Common.{arith}
use Rattle.swd_resync.proofs.FrontLemmas.{resync_whole_tx_found, resync_whole_tx_fits}
use Rattle.swd_resync.proofs.look.whole_tx.Goals as goal

pub returns-in-Whole-clause-within : goal.returns-in-Whole-clause-within
returns-in-Whole-clause-within c =
    let n = c.min-len.ensures in
    let fits = resync_whole_tx_fits c.min-len.result c.in-Whole.len c.args.bits c.in-Whole.tx (omega arith)
    c.in-Whole.ensures.0 in
    omega arith

pub returns-in-Whole-clause-sight : goal.returns-in-Whole-clause-sight
returns-in-Whole-clause-sight c =
    let n = c.min-len.ensures in
    resync_whole_tx_found c.min-len.result c.in-Whole.len c.args.bits c.in-Whole.tx (omega arith)
    c.in-Whole.ensures.0 c.in-Whole.ensures.1
