use Rattle.std.proofs.Common.{subst}
use Rattle.swd_checker.specs.Adding.{WorldsArrive}
use Rattle.swd_checker.proofs.ArrivalLemmas.{cured_word, cured_none}
use Rattle.swd_checker.proofs.worlds.Worlds.cure_at.Goals as goal

pub returns-in-Some-clause-cures : goal.returns-in-Some-clause-cures
returns-in-Some-clause-cures c = λ set. subst (WorldsArrive c.arrive.new.self c.args.now.world c.args.now.register)
    (cured_word c.args.sent c.args.place c.in-Some.word c.at.result c.at.ensures.some c.in-Some.is set)
    c.arrive.ensures.arrives

pub returns-in-None-clause-cures : goal.returns-in-None-clause-cures
returns-in-None-clause-cures c = λ set. cured_none (WorldsArrive _ _ _ _) c.args.sent c.args.place c.at.result
    c.at.ensures.some c.in-None.is set
