-- A bench as a state of the port model with a plan, and as a simulated target. `bus` is the bus that its device is. All
-- of it is this project's choice.
use Rattle.std.specs.Prelude.{List, take}
use Rattle.swd_port.specs.declared.mark.Mark.{Mark}
use Rattle.swd_port.specs.declared.register.Register.TheVariants.{DrwRead}
use Rattle.swd_port.specs.Port.{Port, PortLink, PortTally}
use Rattle.swd_port.specs.Bus.{Bus}
use Rattle.swd_port.specs.Choices.{Choice}
use Rattle.swd_target.specs.declared.bench.Bench.{Bench}
use Rattle.swd_target.specs.Simulations.{Simulation}
use Rattle.swd_target.specs.Targets.{target_state, target_simulation, target_choice_for}
use Rattle.swd_target.specs.Requests.{target_port_at}
use Rattle.swd_target.specs.Plans as plans

-- what is due, and the data phase that its target is in
abbrev pub bench_link : {D A : Type 0} → Bench D A → PortLink
bench_link b = record { due = b.due; line = b.line }

-- the marks of its requests so far, up to the end of its plan
abbrev pub bench_marks_used : {D A : Type 0} → Bench D A → List Mark
bench_marks_used b = take (plans.plan_tally b.plan).asked (plans.plan_marks b.plan)

-- its counts of requests
abbrev pub bench_tally : {D A : Type 0} → Bench D A → PortTally
bench_tally b = plans.plan_tally b.plan

-- the state of the port model, in which TAR, the read buffer and the last returned value may be unknown
abbrev pub bench_port : {D A : Type 0} → (D → Bus) → Bench D A → Port
bench_port bus b = target_port_at (bench_link b) (bench_tally b) (target_state bus b.target)

-- its target as a simulated one: the same state with each word known, and the quirks
abbrev pub bench_simulation : {D A : Type 0} → (D → Bus) → Bench D A → Simulation
bench_simulation bus b = target_simulation bus b.target

-- the marks of its requests
abbrev pub bench_plan : {D A : Type 0} → Bench D A → List Mark
bench_plan b = plans.plan_marks b.plan

-- the mark of its next request
abbrev pub bench_next_mark : {D A : Type 0} → Bench D A → Mark
bench_next_mark b = plans.plan_next_mark b.plan

-- its choice when a transfer takes effect
abbrev pub bench_choice : {D A : Type 0} → Bench D A → Choice
bench_choice b = target_choice_for DrwRead b.target

-- what stands behind its access port
abbrev pub bench_device : {D A : Type 0} → Bench D A → D
bench_device b = b.target.device
