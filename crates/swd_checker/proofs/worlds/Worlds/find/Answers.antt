use Rattle.std.proofs.Common.{sym, ◌∙◌}
use Rattle.swd_checker.proofs.AddingLemmas.{find_holds, find_no_system}
use Rattle.swd_checker.proofs.ReachLemmas.{found_word}
use Rattle.swd_checker.proofs.worlds.Worlds.find.Goals as goal

pub returns-in_default-found-clause-finds : goal.returns-in_default-found-clause-finds
returns-in_default-found-clause-finds c = find_no_system c.args.self.now c.args.world c.args.seen c.args.late.0
    c.args.late.1 (sym c.found-2.ensures ∙ c.in_default-found.is)

pub returns-clause-finds : goal.returns-clause-finds
returns-clause-finds c = find_holds c.add_if.new.self c.args.world c.args.seen c.args.late.0 c.args.late.1
    c.in-Some.debug c.in-Some-found.system c.among.result (sym c.found.ensures ∙ c.in-Some.is)
    (sym c.found-2.ensures ∙ c.in-Some-found.is) c.among.ensures.all
    (λ e. c.add_if.ensures.adds (c.is_some.ensures ∙ e))

pub returns-clause-reaches : goal.returns-clause-reaches
returns-clause-reaches c = λ link old sound h. c.add_if.ensures.reaches link old (λ some.
    let f = found_word c.args.seen _ c.among.result (sym c.is_some.ensures ∙ some) c.among.ensures.exact sound in
    h c.in-Some.debug c.in-Some-found.system (sym c.found.ensures ∙ c.in-Some.is)
    (sym c.found-2.ensures ∙ c.in-Some-found.is) f.0 f.1 f.2)
