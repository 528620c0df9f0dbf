use Rattle.std.proofs.Common.{refl, subst}
use Rattle.std.specs.Prelude.{IfSome}
use Rattle.swd_checker.specs.Described.{IsCheckedNear}
use Rattle.swd_checker.proofs.IdentifyingLemmas.{identification_narrows, identification_stays}
use Rattle.swd_checker.proofs.identification.Identification.narrow.Goals as goal

pub returns-in-Some-clause-narrows : goal.returns-in-Some-clause-narrows
returns-in-Some-clause-narrows c = λ clean s t h odd known. c.narrow_by.ensures.narrows s.target.identification odd
    (subst (λ o. IfSome o (λ near. IsCheckedNear near s.target.identification)) c.in-Some.is
    (c.seen_in.ensures.all clean s t h)) known

pub returns-in-None-clause-narrows : goal.returns-in-None-clause-narrows
returns-in-None-clause-narrows c = λ clean s t h odd known. (refl, known)

pub returns-in-Some-clause-exact : goal.returns-in-Some-clause-exact
returns-in-Some-clause-exact c = λ e legal. identification_narrows c.args.tx.now c.in-Some.seen c.args.self.now
    c.narrow_by.new.self c.seen_in.result c.in-Some.is c.seen_in.ensures.exact (c.narrow_by.ensures.leaves e) legal

pub returns-in-None-clause-exact : goal.returns-in-None-clause-exact
returns-in-None-clause-exact c = λ e legal. identification_stays c.args.tx.now c.args.self.now c.seen_in.result
    c.in-None.is c.seen_in.ensures.exact
