use Rattle.std.proofs.Common.{refl}
use Rattle.swd_target.specs.Benches.{bench_link, bench_tally}
use Rattle.swd_target.proofs.AskLemmas.{simulated_gives_lawful}
use Rattle.swd_target.proofs.bench.Bench.give_now.Goals as goal

pub returns-clause-step : goal.returns-clause-step
returns-clause-step g c = simulated_gives_lawful g.D.Device.bus _ (bench_link c.args.self.now)
    (bench_tally c.args.self.now)
    c.args.self.now.target c.arrive_on.new.self c.args.bits refl c.arrive_on.ensures

pub returns-clause-any : goal.returns-clause-any
returns-clause-any g c = λ n. simulated_gives_lawful g.D.Device.bus _ (bench_link c.args.self.now) n
    c.args.self.now.target c.arrive_on.new.self c.args.bits refl c.arrive_on.ensures
