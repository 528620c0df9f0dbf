use Rattle.std.proofs.Common.{◌<◌, subst, arith}
use Rattle.swd_resync.specs.Parts.{resync_sound_next}
use Rattle.swd_resync.specs.Holding.{resync_held}
use Rattle.swd_resync.specs.Judged.{Judges}
use Rattle.swd_resync.proofs.JudgeLemmas.{pair_judged}
use Rattle.swd_resync.proofs.judge.pair_stands.Goals as goal

pub returns-in-Some : goal.returns-in-Some
returns-in-Some c =
    let some : 0 < c.in-Some.len = omega (arith, c.in-Some.len-test) in
    pair_judged c.args.over c.args.ended (resync_held c.args.held.now) c.in-Some.len _ c.in-Some.ensures.judges some
    c.in-Some.ensures.fits c.in-Some.ensures.short
    (subst (λ x. Judges c.args.ended 0 (λ bits. resync_sound_next bits) x c.sound_follows.result)
    c.without.ensures.bits c.sound_follows.ensures)
