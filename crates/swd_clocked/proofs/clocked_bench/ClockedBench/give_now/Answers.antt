use Rattle.std.proofs.Common.{◌≡◌, ℕ, true, sym, ap, subst}
use Rattle.swd_port.specs.Bus.{Bus}
use Rattle.swd_port.specs.declared.wire.Due.TheVariants.{Nothing, Give}
use Rattle.swd_port.specs.declared.wire.Due.{Due}
use Rattle.swd_port.specs.declared.state.AfterAck.{AfterAck}
use Rattle.swd_port.specs.Choices.{port_flip_of}
use Rattle.swd_bits.specs.Phases.{data_phase_word}
use Rattle.swd_port.specs.Choices.{port_flipped}
use Rattle.swd_port.specs.Moving.{PortGives, port_arrival, port_arrival_of}
use Rattle.swd_target.specs.declared.plan.Plan.{Plan}
use Rattle.swd_target.specs.Plans as plans
use Rattle.swd_target.specs.Targets.{target_state}
use Rattle.swd_target.specs.Requests.{target_port_at}
use Rattle.swd_target.proofs.AskLemmas.{simulated_gives_lawful}
use Rattle.swd_clocked.specs.declared.frame.Frame.{Frame}
use Rattle.swd_clocked.specs.declared.marked.FaultyClocked.{FaultyClocked}
use Rattle.swd_clocked.specs.declared.clocked_bench.ClockedBench.{ClockedBench}
use Rattle.swd_clocked.specs.Frames.{idle_frame, frame_register}
use Rattle.swd_clocked.specs.Phases.{CyclesBringData}
use Rattle.swd_clocked.specs.Rests.{frame_fits_due, frame_line}
use Rattle.swd_clocked.specs.ClockedBenches.{clocked_bench_link, clocked_bench_tally}
use Rattle.swd_clocked.proofs.Calls.{frame_awaits_data}
use Rattle.swd_clocked.proofs.clocked_bench.ClockedBench.give_now.Goals as goal

-- what the target gets of the bits that were sent
arrives : {D A : Type 0} (b : ClockedBench D A) (sent : ℕ) → frame_fits_due b.due b.marked.value.clocked.frame ≡ true
    → b.due ≡ Give
    → port_arrival (clocked_bench_link b).line sent ≡ port_arrival_of (frame_register b.marked.value.clocked.frame)
    (data_phase_word (port_flipped (port_flip_of b.marked.value.mark) sent))
arrives b sent resting due =
    let f = b.marked.value.clocked.frame in
    ap (λ (l : AfterAck). port_arrival l sent) (frame_awaits_data f (port_flip_of b.marked.value.mark)
    (subst (λ (d : Due). frame_fits_due d f ≡ true) due resting))

brings : {D A : Type 0} (bus : D → Bus) (was was' new : FaultyClocked D A) (sent : ℕ) → was' ≡ was
    → CyclesBringData bus (port_flipped (port_flip_of was'.mark) sent) was' new
    → CyclesBringData bus (port_flipped (port_flip_of was.mark) sent) was new
brings bus was was' new sent same d = subst (λ (x : FaultyClocked _ _). CyclesBringData bus
    (port_flipped (port_flip_of x.mark) sent) x new) same d

pub returns-clause-step : goal.returns-clause-step
returns-clause-step g c =
    let old = c.args.self.now in
    let was = old.marked.value in
    let new = c.give_bits.new.self in
    let d = brings g.D.Device.bus was _ new c.args.bits c.deref_mut.ensures.value c.give_bits.ensures.brings in
    let gives = simulated_gives_lawful g.D.Device.bus _ (clocked_bench_link old) (clocked_bench_tally old)
    was.clocked.target
    new.clocked.target c.args.bits (arrives old c.args.bits old.resting c.requires.due) d.came.comes in
    let P = λ (f : Frame) (p : Plan _). PortGives
    (target_port_at (clocked_bench_link old) (clocked_bench_tally old) (target_state g.D.Device.bus was.clocked.target))
    c.args.bits
    (target_port_at (record { due = Nothing; line = frame_line f (port_flip_of new.mark) }) (plans.plan_tally p)
    (target_state g.D.Device.bus new.clocked.target)) in
    subst (λ (f : Frame). P f new.plan) (sym d.came.frame)
    (subst (λ (p : Plan _). P idle_frame p) (sym d.keeps.plan) gives)
