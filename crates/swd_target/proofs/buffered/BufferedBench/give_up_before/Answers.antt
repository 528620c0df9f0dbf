use Rattle.std.proofs.Common.{Bool, ℕ, ◌+◌, sym, ap, ◌∙◌}
use Rattle.std.specs.Prelude.{if◌then◌else◌}
use Rattle.swd_target.specs.Benches.{bench_port, bench_next_mark}
use Rattle.swd_target.proofs.GivingLemmas.{gives_buffered}
use Rattle.swd_target.proofs.buffered.BufferedBench.give_up_before.Goals as goal

pub returns-then-give_up_before-clause-gives : goal.returns-then-give_up_before-clause-gives
returns-then-give_up_before-clause-gives g c =
    let old = c.args.self.now in
    let is = c.give_up_before.ensures in
    let n : ℕ = old.given_up.ticks in
    gives_buffered (bench_next_mark old.bench) c.args.request c.give_up_before.result n c.tick.new.self.ticks
    (bench_port g.D.Device.bus old.bench) (bench_port g.D.Device.bus c.give_up_before.new.self) is.gives is.link
    is.tally (c.tick.ensures ∙ ap (λ (b : Bool). if b then n + 1 else n) (sym c.if-give_up_before.true))

pub returns-else-give_up_before-clause-gives : goal.returns-else-give_up_before-clause-gives
returns-else-give_up_before-clause-gives g c =
    let old = c.args.self.now in
    let is = c.give_up_before.ensures in
    let n : ℕ = old.given_up.ticks in
    gives_buffered (bench_next_mark old.bench) c.args.request c.give_up_before.result n n
    (bench_port g.D.Device.bus old.bench) (bench_port g.D.Device.bus c.give_up_before.new.self) is.gives is.link
    is.tally (ap (λ (b : Bool). if b then n + 1 else n) (sym c.if-give_up_before.false))
