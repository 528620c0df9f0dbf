use Rattle.std.proofs.Common.{Ok, refl, sym, ap}
use Rattle.swd_bits.proofs.BitsLemmas.{number-low_bits}
use Rattle.swd_ends.proofs.ClockLemmas.{clocked_probe_no_levels}
use Rattle.swd_ends.proofs.clocked_probe.ClockedProbeProbe.exchange.Goals as goal

pub returns : goal.returns
returns g c =
    let old = c.args.self.now in
    record {
      levels = ap Ok (sym (number-low_bits old.sampled old.levels old.range));
      target = refl;
      waits = clocked_probe_no_levels 0;
    }
