use Rattle.swd_remote.specs.Runs.{remote_all_sequences, remote_with_clocks}
use Rattle.swd_bitbang.proofs.LineLemmas.{pins_served_once_driven}
use Rattle.swd_ends.proofs.laws.calls_are_served.Goals as goal

pub returns : goal.returns
returns g c = λ calls more old new s t between ended.
    pins_served_once_driven g.D.Device.bus (remote_with_clocks (remote_all_sequences calls)) more old new s t between
    ended
