-- A bench whose debug port has a write buffer: before a request that can't wait it gives up the pending write. That it
-- does so wherever a write is pending is this project's choice, as the rest of a simulated target is.
use Rattle.std.specs.Prelude.{ℕ, ◌+◌, List}
use Rattle.swd_port.specs.declared.cue.Cue.{Cue}
use Rattle.swd_port.specs.declared.cue.Cue.TheVariants.{Ask}
use Rattle.swd_port.specs.declared.mark.Mark.{Mark}
use Rattle.swd_port.specs.Bus.{Bus}
use Rattle.swd_port.specs.Port.{Port, PortLink, PortTally}
use Rattle.swd_target.specs.declared.buffered.BufferedBench.{BufferedBench}
use Rattle.swd_port.specs.Choices.{Choice}
use Rattle.swd_target.specs.Benches.{bench_choice, bench_link, bench_next_mark, bench_plan, bench_port}
use Rattle.swd_target.specs.Benches.{bench_simulation}
use Rattle.swd_target.specs.Simulations.{Simulation}
use Rattle.swd_target.specs.Giving.{simulation_giving}

-- the counts of requests, where so many writes were given up
abbrev pub tally_giving : ℕ → PortTally → PortTally
tally_giving n t = record t { disturbed = t.disturbed + n }

-- the state of the port model, where so many writes were given up
abbrev pub port_giving : ℕ → Port → Port
port_giving n s = record s { tally = tally_giving n s.tally }

-- the state of the port model
abbrev pub buffered_port : {D A : Type 0} → (D → Bus) → BufferedBench D A → Port
buffered_port bus b = port_giving b.given_up.ticks (bench_port bus b.bench)

-- its target as a simulated one
abbrev pub buffered_simulation : {D A : Type 0} → (D → Bus) → BufferedBench D A → Simulation
buffered_simulation bus b = bench_simulation bus b.bench

-- what is due, and the data phase that its target is in
abbrev pub buffered_link : {D A : Type 0} → BufferedBench D A → PortLink
buffered_link b = bench_link b.bench

-- its choice when a transfer takes effect
abbrev pub buffered_choice : {D A : Type 0} → BufferedBench D A → Choice
buffered_choice b = bench_choice b.bench

-- the marks of its requests, and the next one
abbrev pub buffered_plan : {D A : Type 0} → BufferedBench D A → List Mark
buffered_plan b = bench_plan b.bench

abbrev pub buffered_next_mark : {D A : Type 0} → BufferedBench D A → Mark
buffered_next_mark b = bench_next_mark b.bench

-- the simulated target at a cue, once a write was given up before it
abbrev pub simulation_giving_at_cue : Mark → Cue → Simulation → Simulation
simulation_giving_at_cue mark (Ask q) s = simulation_giving mark q s
simulation_giving_at_cue mark cue s = s
