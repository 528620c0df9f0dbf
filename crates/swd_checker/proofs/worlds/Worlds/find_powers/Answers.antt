use Rattle.swd_checker.proofs.AddingLemmas.{find_either, find_prompt}
use Rattle.swd_checker.proofs.HoldingLemmas.{worlds_keep_then}
use Rattle.std.proofs.Common.{false, refl, subst}
use Rattle.swd_checker.specs.Reached.{WorldsFindAll}
use Rattle.swd_checker.proofs.worlds.Worlds.find_powers.Goals as goal

pub returns-then-may_be_late-clause-keeps : goal.returns-then-may_be_late-clause-keeps
returns-then-may_be_late-clause-keeps c = worlds_keep_then _ _ _ c.find.ensures.keeps c.find_late.ensures.keeps

pub returns-then-may_be_late-clause-finds : goal.returns-then-may_be_late-clause-finds
returns-then-may_be_late-clause-finds c = λ chosen x prompt. find_either c.find.new.self c.find_late.new.self
    c.args.world c.args.seen chosen x c.find_late.ensures.keeps (λ y z a b. c.find.ensures.finds y z a b)
    (λ some. c.find_late.ensures.finds chosen x some)

pub returns-else-may_be_late-clause-finds : goal.returns-else-may_be_late-clause-finds
returns-else-may_be_late-clause-finds c = λ chosen x prompt. find_prompt c.find.new.self c.args.world c.args.seen
    chosen x (prompt c.if-may_be_late.false) (λ y z a b. c.find.ensures.finds y z a b)

pub returns-then-may_be_late-clause-reaches : goal.returns-then-may_be_late-clause-reaches
returns-then-may_be_late-clause-reaches c = λ link old sound h. c.find_late.ensures.reaches link
    (c.find.ensures.reaches link old sound (λ debug system a b word near is. h false false debug system (λ e. (
      refl,
      refl,
    )) a b word near is))
    sound (subst (WorldsFindAll link c.args.world c.args.seen) c.if-may_be_late.true h)

pub returns-else-may_be_late-clause-reaches : goal.returns-else-may_be_late-clause-reaches
returns-else-may_be_late-clause-reaches c = λ link old sound h. c.find.ensures.reaches link old sound
    (λ debug system a b word near is. h false false debug system (λ e. (refl, refl)) a b word near is)
