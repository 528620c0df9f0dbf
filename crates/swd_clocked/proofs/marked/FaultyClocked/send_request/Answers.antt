use Rattle.std.proofs.Common.{◌≡◌, ◌+◌, ◌*◌, ◌/◌, ◌%◌, Some, true, refl, subst, arith, rules}
use Rattle.std.specs.Prelude.{◌==◌}
use Rattle.swd_clocked.specs.declared.frame.Frame.TheVariants.{Asks}
use Rattle.swd_clocked.specs.Frames.{clocked_shifted}
use Rattle.swd_clocked.specs.Phases.{CyclesMoveFrame}
use Rattle.swd_clocked.proofs.Shifts.{ClockedShifts, clocked_shift_8, clocked_shift_full_8, clocked_shift_first_8}
use Rattle.swd_clocked.proofs.Shifts.{cycles_counted_chain}
use Rattle.swd_clocked.proofs.Marks.{plain_frame_step, cycles_move_frame_chain, no_cycle_moves_frame}
use Rattle.swd_clocked.proofs.Whole.{request_last_cycle}
use Rattle.swd_clocked.proofs.Calls.{clocked_request_start}
use Rattle.swd_clocked.proofs.Contends.{contended_count_in_frame, asks_frame_uncontended}
use Rattle.swd_clocked.proofs.marked.FaultyClocked.send_request.Goals as goal

pub loop-place-preserved : goal.loop-place-preserved
loop-place-preserved g c =
    let i = c.loop-place.invariant in
    let b = c.loop-place.rest % 2 == 1 in
    let odd = clocked_request_start c.args.request c.bits-bits.result c.bits-bits.ensures in
    let x = plain_frame_step g.D.Device.bus (Asks i.0 c.loop-place.place) (Some b) c.cycle_now.result c.loop-place.self
    c.cycle_now.new.self
    c.cycle_now.ensures.cycles i.2.heard i.2.moved.frame (λ e. absurd (omega arith)) in
    let moved = x.cycles.1.more c.loop-place-test.true
    (λ e. clocked_shift_first_8 c.bits-bits.result c.loop-place.place c.loop-place.rest i.0 i.1 e odd) in (
      clocked_shifted 128 i.0 b,
      clocked_shift_8 _ _ _ _ i.1,
      cycles_move_frame_chain _ _ _ _ _ i.2 moved x.keeps x.heard,
      cycles_counted_chain _ _ _ _ _ _ i.3
          c.cycle_now.ensures.count refl,
      contended_count_in_frame _ _ _ _ _ true i.4 c.cycle_now.ensures.contended i.2.moved.frame
          (asks_frame_uncontended i.0 c.loop-place.place true),
    )

pub returns-clause-sent : goal.returns-clause-sent
returns-clause-sent g c =
    let i = c.loop-place.invariant in
    let b = c.loop-place.rest % 2 == 1 in
    let last : c.loop-place.place ≡ 7 = omega arith in
    let shift : ClockedShifts 256 (c.bits-bits.result * 256 + 255) 8 (c.loop-place.rest / 2) (clocked_shifted 128 i.0 b)
    =
    subst (λ n. ClockedShifts 256 (c.bits-bits.result * 256 + 255) (n + 1) (c.loop-place.rest / 2)
    (clocked_shifted 128 i.0 b)) last (clocked_shift_8 _ _ _ _ i.1) in
    let goes = subst (λ n. CyclesMoveFrame (Asks i.0 n) c.args.self.now c.loop-place.self) last i.2 in
    request_last_cycle g.D.Device.bus c.args.request b c.cycle_now-2.result i.0 c.bits-bits.result c.args.self.now
    c.loop-place.self
    c.cycle_now-2.new.self goes c.cycle_now-2.ensures.cycles
    (clocked_shift_full_8 _ _ _ c.bits-bits.type_inv shift) c.bits-bits.ensures

pub loop-place-init : goal.loop-place-init
loop-place-init g c =
    let small = c.args.self.now.clocked.counts in (
      255,
      record { equation = omega arith; small = omega arith },
      no_cycle_moves_frame _ c.args.self.now c.requires.heard
          c.requires.frame,
      omega arith,
      refl,
    )

pub returns-clause-clocks : goal.returns-clause-clocks
returns-clause-clocks g c =
    let i = c.loop-place.invariant in (
      search rules,
      contended_count_in_frame _ _ _ _ _ true i.4 c.cycle_now-2.ensures.contended i.2.moved.frame
          (asks_frame_uncontended i.0 c.loop-place.place true),
    )
