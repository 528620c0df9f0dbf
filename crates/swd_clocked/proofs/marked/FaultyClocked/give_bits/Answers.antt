use Rattle.std.proofs.Common.{◌≡◌, ◌+◌, ◌*◌, ◌/◌, ◌%◌, ◌-◌, ◌^◌, true, refl, ap, subst, ◌∙◌, arith, rules}
use Rattle.std.specs.Prelude.{◌==◌}
use Rattle.swd_port.specs.Choices.{port_flip_of}
use Rattle.swd_port.specs.Choices.{port_flipped, port_undriven}
use Rattle.swd_clocked.specs.declared.frame.Frame.TheVariants.{Awaits}
use Rattle.swd_clocked.specs.Frames.{frame_register, clocked_shifted}
use Rattle.swd_clocked.proofs.Shifts.{ClockedShifts, clocked_shift_33, clocked_shift_full_33, clocked_shift_halved}
use Rattle.swd_clocked.proofs.Shifts.{cycles_counted_chain, clocked_data_after_moves}
use Rattle.swd_clocked.proofs.Marks.{clocked_mark_legal, open_frame_step, cycles_move_frame_chain, no_cycle_moves_frame}
use Rattle.swd_clocked.proofs.Marks.{cycles_keep_plan_chain}
use Rattle.swd_clocked.proofs.Whole.{arriving_cycle_step, clocked_flip_in_33_bits}
use Rattle.swd_clocked.proofs.Contends.{contended_count_kept, contended_count_in_frame, awaits_frame_uncontended}
use Rattle.swd_clocked.proofs.marked.FaultyClocked.give_bits.Goals as goal

pub loop-place-init : goal.loop-place-init
loop-place-init g c =
    let old = c.args.self.now in
    let r = frame_register old.clocked.frame in
    let got = port_flipped (port_flip_of old.mark) c.args.bits in
    let x = open_frame_step g.D.Device.bus (Awaits r port_undriven 0) _ c.cycle_now.result old c.cycle_now.new.self
    c.cycle_now.ensures.cycles
    c.requires.heard c.requires.frame tt in
    let goes = cycles_move_frame_chain _ _ old old c.cycle_now.new.self
    (no_cycle_moves_frame _ old c.requires.heard c.requires.frame)
    (x.turns.cycles.1.turn refl) x.keeps x.heard in (
      port_undriven,
      omega arith,
      record { equation = omega arith; small = omega arith },
      goes,
      c.cycle_now.ensures.count,
      contended_count_kept _ _ _ _ refl c.cycle_now.ensures.contended refl,
    )

pub loop-place-preserved : goal.loop-place-preserved
loop-place-preserved g c =
    let i = c.loop-place.invariant in
    let start = c.args.self.now in
    let got = port_flipped (port_flip_of start.mark) c.args.bits in
    let k = c.loop-place.place in
    let r = frame_register start.clocked.frame in
    let cycle = c.cycle_now-in-loop-place in
    let d = arriving_cycle_step g.D.Device.bus start.mark c.args.bits k r i.0 c.loop-place.rest cycle.result
    c.loop-place.self
    cycle.new.self i.3.keeps.mark i.1 cycle.ensures.cycles i.3.heard i.3.moved.frame in
    let moved = d.awaits.more (λ e. absurd (omega arith)) (omega arith) in
    let next = clocked_shifted (2 ^ 32) i.0 (got / 2 ^ k % 2 == 1) in (
      next,
      ap (λ n. n / 2) i.1 ∙ clocked_shift_halved c.args.bits k,
      subst (λ n. ClockedShifts (2 ^ 33) (got * 2 ^ 33 + (2 ^ 33 - 1)) (k + 1) n next) (clocked_shift_halved got k)
          (clocked_shift_33 _ _ _ _ i.2),
      cycles_move_frame_chain _ _ _ _ _ i.3 moved d.keeps d.heard,
      cycles_counted_chain _ _ _ _ _ _ i.4 cycle.ensures.count refl,
      contended_count_in_frame _ _ _ _ _ true i.5 cycle.ensures.contended i.3.moved.frame
          (awaits_frame_uncontended r i.0 k true),
    )

pub returns-clause-brings : goal.returns-clause-brings
returns-clause-brings g c =
    let i = c.loop-place.invariant in
    let start = c.args.self.now in
    let got = port_flipped (port_flip_of start.mark) c.args.bits in
    let k = c.loop-place.place in
    let r = frame_register start.clocked.frame in
    let cycle = c.cycle_now-2 in
    let d = arriving_cycle_step g.D.Device.bus start.mark c.args.bits k r i.0 c.loop-place.rest cycle.result
    c.loop-place.self
    cycle.new.self i.3.keeps.mark i.1 cycle.ensures.cycles i.3.heard i.3.moved.frame in
    let last : k + 1 ≡ 33 = omega arith in
    let came = d.awaits.whole last in
    let shift = subst (λ n. ClockedShifts (2 ^ 33) (got * 2 ^ 33 + (2 ^ 33 - 1)) n (got / 2 ^ k / 2)
    (clocked_shifted (2 ^ 32) i.0 (got / 2 ^ k % 2 == 1))) last (clocked_shift_33 _ _ _ _ i.2) in
    let small = clocked_flip_in_33_bits start.mark c.args.bits (clocked_mark_legal start.mark start.legal)
    c.requires.bits in
    record {
      came = clocked_data_after_moves g.D.Device.bus _ _ _ _ _ _ _ _ i.3.moved (clocked_shift_full_33 _ _ _ small shift)
          came;
      keeps = cycles_keep_plan_chain _ _ _ i.3.keeps d.keeps;
      heard = d.heard;
    }

pub returns-clause-clocks : goal.returns-clause-clocks
returns-clause-clocks g c =
    let i = c.loop-place.invariant in
    let r = frame_register c.args.self.now.clocked.frame in (
      search rules,
      contended_count_in_frame _ _ _ _ _ true i.5 c.cycle_now-2.ensures.contended i.3.moved.frame
          (awaits_frame_uncontended r i.0 c.loop-place.place true),
    )
