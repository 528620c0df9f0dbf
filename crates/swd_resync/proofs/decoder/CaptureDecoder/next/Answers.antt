use Rattle.std.proofs.Common.{◌+◌, ◌^◌, ◌<◌, ◌≤◌, length, arith}
use Rattle.swd_resync.specs.Holding.{resync_held}
use Rattle.swd_resync.specs.Stages.{resync_stage_counted}
use Rattle.swd_resync.proofs.decoder.CaptureDecoder.next.Goals as goal

pub next_move-requires-clause-counted : goal.next_move-requires-clause-counted
next_move-requires-clause-counted c =
    let d = c.loop-step.self in
    let counts : resync_stage_counted d.stage + length (resync_held d.held) ≤ d.fed = d.fed_so.counts in
    let small : d.fed < 2 ^ 64 = d.fed_so.small in
    omega arith
