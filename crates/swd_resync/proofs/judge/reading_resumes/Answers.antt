use Rattle.swd_resync.specs.Holding.{resync_held}
use Rattle.swd_resync.proofs.JudgeLemmas.{judged_sound_item_past_zeros}
use Rattle.swd_resync.proofs.judge.reading_resumes.Goals as goal

pub returns : goal.returns
returns c = judged_sound_item_past_zeros c.args.ended (resync_held c.args.held.now) _ _ _ c.behind_zeros.ensures
    c.look.ensures c.is_sound.ensures
