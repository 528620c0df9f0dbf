use Rattle.swd_clocked.proofs.Spelling.{ones_reset}
use Rattle.swd_clocked.proofs.laws.ones_reset.Goals as goal

pub returns : goal.returns
returns g c = ones_reset g.D.Device.bus
