use Rattle.std.proofs.Common.{◌-◌, ◌≤◌, arith}
use Rattle.swd_trace.proofs.NumberLemmas.{decoder_bits_shifted_lt}
use Rattle.swd_resync.proofs.PlaceLemmas.{many_bits_before_stretch, resync_zero_below_mark}
use Rattle.swd_resync.proofs.judge.from_first_place.Goals as goal

pub returns-clause-spelled : goal.returns-clause-spelled
returns-clause-spelled c =
    decoder_bits_shifted_lt c.min-skipped.result c.args.window.len c.args.window.bits (omega arith) c.requires.spelled

pub returns-clause-before : goal.returns-clause-before
returns-clause-before c = λ over back.
    let v = c.args.window.bits in
    let m = c.args.window.len in
    let n = c.min-skipped.result in
    let most : m ≤ 50 = c.requires.most in
    let all = many_bits_before_stretch over n m v back (omega arith)
    (λ i l. c.places_of.ensures over (m - i) i back (omega arith) (omega arith)
    (decoder_bits_shifted_lt i m v (omega arith) c.requires.spelled)
    (resync_zero_below_mark 64 c.places_of.result i (omega arith))) in
    omega arith
