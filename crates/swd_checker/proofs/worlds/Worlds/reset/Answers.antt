use Rattle.std.proofs.Common.{◌<◌, length, sym, subst, ◌∙◌}
use Rattle.swd_checker.specs.Holding.{AnyKeptHolds}
use Rattle.swd_checker.proofs.OpenLemmas.{worlds_uncrowded}
use Rattle.swd_checker.proofs.EachLemmas.{reset_kept}
use Rattle.swd_checker.proofs.worlds.Worlds.reset.Goals as goal

pub returns-clause-resets : goal.returns-clause-resets
returns-clause-resets c = λ ones s t some leads room held. c.reset_each.ensures.resets ones s t some leads
    (subst (λ items. AnyKeptHolds items s)
    (sym (c.as_slice-2.ensures.value ∙ c.restore.ensures.kept ∙ c.as_slice.ensures.value)) (held.held room))

pub returns-clause-crowded : goal.returns-clause-crowded
returns-clause-crowded c = worlds_uncrowded _ c.empty.new.self c.reset_each.new.self c.empty.ensures.empty
    c.empty.ensures.crowded c.as_slice-2.ensures.fits c.reset_each.ensures.grows

pub returns-clause-reaches : goal.returns-clause-reaches
returns-clause-reaches c = λ clean n ones some sound. reset_kept c.args.self.now.kept.items c.as_slice-2.result.now
    c.empty.new.self c.reset_each.new.self clean n ones
    (c.as_slice-2.ensures.value ∙ c.restore.ensures.kept ∙ c.as_slice.ensures.value) some sound c.empty.ensures.empty
    c.reset_each.ensures.reaches

pub returns-clause-some : goal.returns-clause-some
returns-clause-some c = λ below. c.reset_each.ensures.some (subst (λ l. 0 < length l)
    (sym (c.as_slice-2.ensures.value ∙ c.restore.ensures.kept ∙ c.as_slice.ensures.value)) below)
