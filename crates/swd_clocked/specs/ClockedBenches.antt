-- A clocked bench as a state of the port model with a plan, and as a simulated target. All of it is this project's
-- choice.
use Rattle.std.specs.Prelude.{ℕ, ◌+◌, List, take, Bool}
use Rattle.swd_port.specs.Bus.{Bus}
use Rattle.swd_port.specs.declared.cue.Cue.{Cue}
use Rattle.swd_port.specs.declared.cue.Cue.TheVariants.{Lead, Ask, Take, Give, Pass}
use Rattle.swd_port.specs.declared.mark.Mark.{Mark}
use Rattle.swd_port.specs.declared.register.Register.TheVariants.{DrwRead}
use Rattle.swd_port.specs.Port.{Port, PortLink, PortTally}
use Rattle.swd_port.specs.Choices.{Choice, port_flip_of}
use Rattle.swd_target.specs.Simulations.{Simulation}
use Rattle.swd_target.specs.Targets.{target_choice_for}
use Rattle.swd_target.specs.Requests.{target_port_at}
use Rattle.swd_target.specs.Plans as plans
use Rattle.swd_clocked.specs.declared.clocked_bench.ClockedBench.{ClockedBench}
use Rattle.swd_clocked.specs.Marked as marked
use Rattle.swd_clocked.specs.Frames.{reset_cycles}
use Rattle.swd_clocked.specs.Rests.{frame_line}

-- what is due, and the data phase that its target is in
abbrev pub clocked_bench_link : {D A : Type 0} → ClockedBench D A → PortLink
clocked_bench_link b = record {
  due = b.due;
  line = frame_line b.marked.value.clocked.frame (port_flip_of b.marked.value.mark);
}

-- its counts of requests
abbrev pub clocked_bench_tally : {D A : Type 0} → ClockedBench D A → PortTally
clocked_bench_tally b = marked.marked_clocked_tally b.marked.value

-- the state of the port model
abbrev pub clocked_bench_port : {D A : Type 0} → (D → Bus) → ClockedBench D A → Port
clocked_bench_port bus b = target_port_at (clocked_bench_link b) (clocked_bench_tally b)
    (marked.marked_clocked_state bus b.marked.value)

-- its target as a simulated one
abbrev pub clocked_bench_simulation : {D A : Type 0} → (D → Bus) → ClockedBench D A → Simulation
clocked_bench_simulation bus b = marked.marked_clocked_simulation bus b.marked.value

-- the device behind its access port
abbrev pub clocked_bench_device : {D A : Type 0} → ClockedBench D A → D
clocked_bench_device b = marked.marked_clocked_device b.marked.value

-- the marks of its requests
abbrev pub clocked_bench_plan : {D A : Type 0} → ClockedBench D A → List Mark
clocked_bench_plan b = marked.marked_clocked_plan b.marked.value

-- the marks of its requests so far, up to the end of its plan
abbrev pub clocked_bench_marks : {D A : Type 0} → ClockedBench D A → List Mark
clocked_bench_marks b = take (clocked_bench_tally b).asked (clocked_bench_plan b)

-- the mark of its next request
abbrev pub clocked_bench_next_mark : {D A : Type 0} → ClockedBench D A → Mark
clocked_bench_next_mark b = plans.plan_next_mark b.marked.value.plan

-- its choice when a transfer takes effect
abbrev pub clocked_bench_choice : {D A : Type 0} → ClockedBench D A → Choice
clocked_bench_choice b = target_choice_for DrwRead b.marked.value.clocked.target

-- the number of its cycles so far
abbrev pub clocked_bench_cycles : {D A : Type 0} → ClockedBench D A → ℕ
clocked_bench_cycles b = marked.marked_clocked_cycles b.marked.value

-- the number of its contended cycles so far
abbrev pub clocked_bench_contended : {D A : Type 0} → ClockedBench D A → ℕ
clocked_bench_contended b = marked.marked_clocked_contended b.marked.value

-- the number of cycles of ones and zeros, with the switch or without
abbrev pub lead_cycles : ℕ → Bool → ℕ → ℕ
lead_cycles ones switch zeros = reset_cycles ones switch + zeros

-- the number of cycles of a cue: a request with its turnaround and acknowledgement, a data phase with its turnaround
abbrev pub cycles_of_cue : Cue → ℕ
cycles_of_cue (Lead ones undriven switch zeros) = lead_cycles ones switch zeros
cycles_of_cue (Ask q) = 12
cycles_of_cue Take = 34
cycles_of_cue (Give sent) = 34
cycles_of_cue Pass = 1
