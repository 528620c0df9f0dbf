use Rattle.swd_checker.proofs.IdentifyLemmas.{identification_some, identification_none}
use Rattle.swd_checker.proofs.IdentifyingLemmas.{identifies_odd, identifies_oddly}
use Rattle.swd_checker.proofs.identification.Identification.narrowed.Goals as goal

pub returns-in-Some-clause-all : goal.returns-in-Some-clause-all
returns-in-Some-clause-all c = λ n odd seen known. c.narrowed_to.ensures.all n
    (identification_some c.among.result c.in-Some.odd n c.in-Some.is (c.among.ensures.all n seen odd)) known

pub returns-in-None-clause-all : goal.returns-in-None-clause-all
returns-in-None-clause-all c = λ n odd seen known.
    identification_none c.among.result n _ c.in-None.is (c.among.ensures.all n seen odd)

pub returns-in-Some-clause-exact : goal.returns-in-Some-clause-exact
returns-in-Some-clause-exact c = identifies_odd c.args.seen c.in-Some.odd c.args.self c.among.result
    c.narrowed_to.result c.in-Some.is c.among.ensures.exact c.narrowed_to.ensures.exact

pub returns-in-Some-clause-odd : goal.returns-in-Some-clause-odd
returns-in-Some-clause-odd c = identifies_oddly c.args.seen c.in-Some.odd c.args.self c.among.result
    c.narrowed_to.result c.in-Some.is c.among.ensures.exact c.narrowed_to.ensures.exact
