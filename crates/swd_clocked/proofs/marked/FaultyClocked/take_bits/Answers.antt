use Rattle.std.proofs.Common.{◌≡◌, ◌+◌, ◌*◌, ◌/◌, ◌-◌, ◌^◌, None, refl, ap, subst, ◌∙◌, arith, rules}
use Rattle.swd_port.specs.Choices.{port_flip_of}
use Rattle.swd_port.specs.Choices.{port_flipped}
use Rattle.swd_clocked.specs.declared.frame.Frame.TheVariants.{Drives}
use Rattle.swd_clocked.specs.Frames.{frame_bits}
use Rattle.swd_clocked.specs.Phases.{CyclesMoveFrame}
use Rattle.swd_clocked.proofs.Shifts.{ClockedShifts, clocked_shift_takes_bit, clocked_shift_zeros_33, clocked_byte_bit}
use Rattle.swd_clocked.proofs.Shifts.{clocked_shift_halved, cycles_counted_chain}
use Rattle.swd_clocked.proofs.Marks.{clocked_mark_legal, open_frame_step, cycles_move_frame_chain, no_cycle_moves_frame}
use Rattle.swd_clocked.proofs.Whole.{driven_cycle_step, clocked_flip_in_33_bits}
use Rattle.swd_clocked.proofs.Contends.{contended_count_kept}
use Rattle.swd_clocked.proofs.marked.FaultyClocked.take_bits.Goals as goal

pub loop-place-init : goal.loop-place-init
loop-place-init g c =
    let old = c.args.self.now in
    let small = old.clocked.counts in
    let sent = frame_bits old.clocked.frame in
    let whole : sent ≡ sent / 1 = omega arith in (
      record { equation = omega arith; small = omega arith },
      no_cycle_moves_frame _ old c.requires.heard
          (c.requires.frame ∙ ap (λ n. Drives n 33) whole),
      omega arith,
      refl,
    )

pub loop-place-preserved : goal.loop-place-preserved
loop-place-preserved g c =
    let i = c.loop-place.invariant in
    let start = c.args.self.now in
    let sent = frame_bits start.clocked.frame in
    let got = port_flipped (port_flip_of start.mark) sent in
    let k = c.loop-place.place in
    let d = driven_cycle_step g.D.Device.bus start.mark sent k c.cycle_now-bit.result c.loop-place.self
    c.cycle_now-bit.new.self
    (clocked_mark_legal start.mark start.legal) c.loop-place-test.true i.1.keeps.mark c.cycle_now-bit.ensures.cycles
    i.1.heard i.1.moved.frame in
    let shift = clocked_shift_takes_bit _ _ _ _ c.from.result i.0 (clocked_byte_bit _ _ _ c.from.ensures d.seen) in (
      subst (λ n. ClockedShifts (2 ^ 33) (got * 2 ^ 33) (k + 1) n (c.loop-place.bits / 2 + c.from.result * 2 ^ 32))
          (clocked_shift_halved got k) shift,
      cycles_move_frame_chain _ _ _ _ _ i.1 d.moved d.keeps d.heard,
      cycles_counted_chain _ _ _ _ _ _ i.2 c.cycle_now-bit.ensures.count refl,
      contended_count_kept _ _ _ _ i.3 c.cycle_now-bit.ensures.contended refl,
    )

pub returns-clause-bits : goal.returns-clause-bits
returns-clause-bits g c =
    let i = c.loop-place.invariant in
    let start = c.args.self.now in
    let sent = frame_bits start.clocked.frame in
    let got = port_flipped (port_flip_of start.mark) sent in
    let last : c.loop-place.place ≡ 33 = omega arith in
    let small = clocked_flip_in_33_bits start.mark sent (clocked_mark_legal start.mark start.legal) start.clocked.bits
    in
    clocked_shift_zeros_33 got (got / 2 ^ 33) c.loop-place.bits small
    (subst (λ n. ClockedShifts (2 ^ 33) (got * 2 ^ 33) n (got / 2 ^ n) c.loop-place.bits) last i.0)

pub returns-clause-range : goal.returns-clause-range
returns-clause-range g c = c.loop-place.invariant.0.small

pub returns-clause-goes : goal.returns-clause-goes
returns-clause-goes g c =
    let i = c.loop-place.invariant in
    let start = c.args.self.now in
    let sent = frame_bits start.clocked.frame in
    let last : c.loop-place.place ≡ 33 = omega arith in
    let goes = subst (λ n. CyclesMoveFrame (Drives (sent / 2 ^ n) (33 - n)) start c.loop-place.self) last i.1 in
    let x = open_frame_step g.D.Device.bus (Drives (sent / 2 ^ 33) 0) None c.cycle_now.result c.loop-place.self
    c.cycle_now.new.self
    c.cycle_now.ensures.cycles goes.heard goes.moved.frame tt in
    cycles_move_frame_chain _ _ _ _ _ goes (x.turns.cycles.turn refl).1 x.keeps x.heard

pub returns-clause-clocks : goal.returns-clause-clocks
returns-clause-clocks g c = (
  search rules,
  contended_count_kept _ _ _ _ c.loop-place.invariant.3 c.cycle_now.ensures.contended refl,
)
