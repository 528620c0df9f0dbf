use Rattle.std.proofs.Common.{subst}
use Rattle.swd_checker.specs.Standing.{IsWordIdentified}
use Rattle.swd_checker.proofs.IdentifyingLemmas.{identifies_among, identifies_any}
use Rattle.swd_checker.proofs.identification.Identification.narrowed_to.Goals as goal

pub returns-in-Some-clause-all : goal.returns-in-Some-clause-all
returns-in-Some-clause-all c = λ n near known. c.among.ensures.all n near (subst (λ o. IsWordIdentified o n)
    c.in-Some.is known)

pub returns-in-None-clause-all : goal.returns-in-None-clause-all
returns-in-None-clause-all c = λ n near known. near

pub returns-in-Some-clause-exact : goal.returns-in-Some-clause-exact
returns-in-Some-clause-exact c = identifies_among c.args.words c.in-Some.before c.args.self c.among.result c.in-Some.is
    c.among.ensures.exact

pub returns-in-None-clause-exact : goal.returns-in-None-clause-exact
returns-in-None-clause-exact c = identifies_any c.args.words c.args.self c.in-None.is
