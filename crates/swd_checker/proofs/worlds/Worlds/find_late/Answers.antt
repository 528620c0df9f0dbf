use Rattle.swd_checker.proofs.AddingLemmas.{find_late_holds, find_kept}
use Rattle.swd_checker.proofs.HoldingLemmas.{worlds_keep_then}
use Rattle.std.proofs.Common.{true, false, ◌≡◌}
use Rattle.swd_checker.proofs.worlds.Worlds.find_late.Goals as goal

pub returns-clause-keeps : goal.returns-clause-keeps
returns-clause-keeps c = worlds_keep_then _ _ _ c.find.ensures.keeps
    (worlds_keep_then _ _ _ c.find-2.ensures.keeps c.find-3.ensures.keeps)

pub returns-clause-finds : goal.returns-clause-finds
returns-clause-finds c = λ chosen x some. find_late_holds c.find-3.new.self c.args.world c.args.seen chosen x some
    (λ y z a b. find_kept c.find.new.self c.find-3.new.self c.args.world c.args.seen y z
    (worlds_keep_then _ _ _ c.find-2.ensures.keeps c.find-3.ensures.keeps) (c.find.ensures.finds y z a b))
    (λ y z a b. find_kept c.find-2.new.self c.find-3.new.self c.args.world c.args.seen y z c.find-3.ensures.keeps
    (c.find-2.ensures.finds y z a b)) (λ y z a b. c.find-3.ensures.finds y z a b)

pub returns-clause-reaches : goal.returns-clause-reaches
returns-clause-reaches c = λ link old sound h. c.find-3.ensures.reaches link (c.find-2.ensures.reaches link
    (c.find.ensures.reaches link old sound (λ debug system a b word near is. h false true debug system (λ e. absurd (let
    f : true ≡ false = e in cc)) a b word near is))
    sound (λ debug system a b word near is. h true false debug system (λ e. absurd (let f : true ≡ false = e in cc)) a b
    word near is))
    sound (λ debug system a b word near is. h true true debug system (λ e. absurd (let f : true ≡ false = e in cc)) a b
    word near is)
