use Rattle.std.proofs.Common.{not, ap, false}
use Rattle.std.specs.Prelude.{Some, None}
use Rattle.swd_resync.specs.Holding.{resync_held}
use Rattle.swd_resync.proofs.JudgeLemmas.{judged_junk_past_zeros}
use Rattle.swd_resync.proofs.judge.reading_goes_on.Goals as goal

pub returns-in-None : goal.returns-in-None
returns-in-None c =
    judged_junk_past_zeros false c.args.ended (resync_held c.args.held.now) _ _ None c.behind_zeros.ensures
    c.look.ensures c.in-None.ensures

pub returns-in-Some : goal.returns-in-Some
returns-in-Some c = λ more may. ap not
    (judged_junk_past_zeros false c.args.ended (resync_held c.args.held.now) _ _ (Some c.in-Some.junk)
    c.behind_zeros.ensures c.look.ensures c.in-Some.ensures more may)
