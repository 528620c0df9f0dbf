use Rattle.std.proofs.Common.{◌+◌, ◌*◌, ◌%◌, ◌^◌, ◌∙◌, ap}
use Rattle.swd_bits.specs.Bits.{low_bits}
use Rattle.swd_remote.proofs.LevelLemmas.{remote_level_byte_is_bit}
use Rattle.swd_ends.proofs.ClockLemmas.{clocked_probe_level_kept, clocked_probe_level_lost}
use Rattle.swd_ends.proofs.clocked_probe.ClockedProbe.keep.Goals as goal

pub returns-then-self-lt-MOST-clause-waits : goal.returns-then-self-lt-MOST-clause-waits
returns-then-self-lt-MOST-clause-waits g c =
    let old = c.args.self.now in
    let e = remote_level_byte_is_bit c.args.level c.from.result c.from.ensures in
    ap (λ n. low_bits (old.sampled + 1) (old.levels + n * 2 ^ old.sampled % 2 ^ 64)) e
    ∙ clocked_probe_level_kept old.sampled old.levels c.args.level c.if-self-lt-MOST.true old.range

pub returns-else-self-lt-MOST-clause-waits : goal.returns-else-self-lt-MOST-clause-waits
returns-else-self-lt-MOST-clause-waits g c =
    let old = c.args.self.now in
    clocked_probe_level_lost old.sampled old.levels c.args.level c.if-self-lt-MOST.false old.few
