use Rattle.std.proofs.Common.{refl, sym, ◌∙◌}
use Rattle.swd_checker.proofs.AddedLemmas.{accepted_exempt, accepted_confirmed}
use Rattle.swd_checker.proofs.step.Asked.okayed.Goals as goal

pub returns-then-is_exempt-clause-world : goal.returns-then-is_exempt-clause-world
returns-then-is_exempt-clause-world c = λ chosen x is d none okay. accepted_exempt c.args.self c.args.self.world
    c.args.awaits chosen x refl (sym c.is_exempt.ensures ∙ c.if-is_exempt.true) d

pub returns-else-is_exempt-clause-world : goal.returns-else-is_exempt-clause-world
returns-else-is_exempt-clause-world c = λ chosen x is d none okay. accepted_confirmed c.args.self c.confirmed.result
    c.args.awaits chosen x is c.confirmed.ensures (sym c.is_exempt.ensures ∙ c.if-is_exempt.false) d none okay
