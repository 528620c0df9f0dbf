use Rattle.std.proofs.Common.{ap}
use Rattle.swd_port.specs.Port.{Port}
use Rattle.swd_port.proofs.PlainLaws.{bus_of_same}
use Rattle.swd_target.specs.Benches.{bench_device}
use Rattle.swd_target.proofs.laws.memories.Goals as goal

pub returns : goal.returns
returns g c = λ b d e. bus_of_same (bench_device b) (bench_device d) (ap (λ (p : Port). p.target.memory) e)
