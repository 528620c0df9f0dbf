use Rattle.swd_dap_probe.proofs.ItemLemmas.{skipped}
use Rattle.swd_dap_probe.proofs.shape.skip.Goals as goal

pub returns : goal.returns
returns c = skipped c.args.bytes.now c.args.count c.min.result c.min.ensures
