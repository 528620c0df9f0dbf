use Rattle.std.proofs.Common.{◌≡◌, ◌+◌, ◌-◌, ◌*◌, ◌^◌, ◌<◌, length, drop, sym, subst, lit<}
use Rattle.swd_sequences.specs.Clocks.{sequence_levels}
use Rattle.swd_remote.proofs.LevelLemmas.{remote_next_level, remote_next_level_bound, remote_no_levels_at_first}
use Rattle.swd_remote.proofs.LevelLemmas.{remote_level_byte_is_bit}
use Rattle.swd_remote.proofs.levels.number_of.Goals as goal

pub loop-place-init : goal.loop-place-init
loop-place-init c = record { small = lit< tt; read = remote_no_levels_at_first c.args.text.now }

pub loop-place-preserved : goal.loop-place-preserved
loop-place-preserved c =
    let i = c.loop-place.invariant in
    let level = c.in-Some.level in
    let e = remote_level_byte_is_bit level c.from.result c.from.ensures in
    record {
      small = subst (λ n. c.loop-place.number * 2 + n < 2 ^ (c.loop-place.place + 1)) (sym e)
          (remote_next_level_bound c.loop-place.place c.loop-place.number level i.small);
      read = subst (λ n. sequence_levels (c.loop-place.place + 1) (c.loop-place.number * 2 + n) ≡ drop
          (length c.args.text.now - (c.loop-place.place + 1)) c.args.text.now) (sym e)
          (remote_next_level c.args.text.now c.loop-place.place c.loop-place.number level c.loop-place-test.true
          c.in-Some.ensures.level i.read);
    }
