use Rattle.std.proofs.Common.{subst, sym, false}
use Rattle.swd_resync.specs.Parts.{stretch_ended_or_reset}
use Rattle.swd_resync.specs.Holding.{resync_held}
use Rattle.swd_resync.specs.Judged.{Judges}
use Rattle.swd_resync.proofs.JudgeLemmas.{sight_judges_end}
use Rattle.swd_resync.proofs.judge.ends_or_resets.Goals as goal

pub returns : goal.returns
returns c = subst (Judges c.args.ended 0 (λ bits. stretch_ended_or_reset bits) (resync_held c.args.held.now))
    (sym c.is_end_or_reset.ensures) (sight_judges_end false c.args.ended _ _ c.look.ensures)
