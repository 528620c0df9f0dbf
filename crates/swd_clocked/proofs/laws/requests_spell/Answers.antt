use Rattle.swd_clocked.proofs.Spelling.{requests_spell}
use Rattle.swd_clocked.proofs.laws.requests_spell.Goals as goal

pub returns : goal.returns
returns g c = requests_spell g.D.Device.bus
