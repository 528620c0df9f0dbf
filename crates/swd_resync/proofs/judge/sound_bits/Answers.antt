use Rattle.std.proofs.Common.{subst, sym}
use Rattle.swd_resync.specs.Parts.{resync_sound}
use Rattle.swd_resync.specs.Holding.{resync_held}
use Rattle.swd_resync.specs.Judged.{Judges}
use Rattle.swd_resync.proofs.JudgeLemmas.{sight_judges_sound}
use Rattle.swd_resync.proofs.judge.sound_bits.Goals as goal

pub returns-clause-judges : goal.returns-clause-judges
returns-clause-judges c = subst (Judges c.args.ended 0 (λ bits. resync_sound c.args.over bits)
    (resync_held c.args.held.now))
    (sym c.sound_bits.ensures) (sight_judges_sound c.args.over c.args.ended _ _ c.look.ensures)
