use Rattle.std.proofs.Common.{refl}
use Rattle.swd_remote.proofs.line.begun_probe.Goals as goal

pub returns : goal.returns
returns g c = record {
  made = record {
    start = c.new-2.result;
    fresh = c.new-2.ensures.fresh tt;
    made = refl;
  };
  rate = c.new-2.ensures.speed;
}
