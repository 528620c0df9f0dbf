use Rattle.std.proofs.Common.{ap, ◌∙◌, sym, false}
use Rattle.std.specs.Prelude.{Some, None, nat_le}
use Rattle.swd_resync.specs.Holding.{resync_held}
use Rattle.swd_resync.proofs.JudgeLemmas.{judged_sound_past_zeros, judged_one_or_more}
use Rattle.swd_resync.proofs.judge.sound_follows.Goals as goal

pub returns-in-None : goal.returns-in-None
returns-in-None c =
    judged_sound_past_zeros false c.args.ended (resync_held c.args.held.now) _ None c.behind_zeros.ensures
    c.in-None.ensures.judges c.in-None.ensures.clear

pub returns-in-Some : goal.returns-in-Some
returns-in-Some c = λ more may.
    ap (nat_le 1) (judged_sound_past_zeros false c.args.ended (resync_held c.args.held.now) _ (Some c.in-Some.len)
    c.behind_zeros.ensures c.in-Some.ensures.judges c.in-Some.ensures.clear more may) ∙ sym
    (judged_one_or_more c.in-Some.len)
