use Rattle.std.proofs.Common.{refl}
use Rattle.swd_checker.proofs.IdentifyLemmas.{identification_some, identification_none}
use Rattle.swd_checker.proofs.IdentifyingLemmas.{identification_leaves}
use Rattle.swd_checker.proofs.identification.Identification.narrow_by.Goals as goal

pub returns-in-Some-clause-narrows : goal.returns-in-Some-clause-narrows
returns-in-Some-clause-narrows c = λ n odd seen known. (
  refl,
  identification_some c.narrowed.result c.in-Some.word n c.in-Some.is (c.narrowed.ensures.all n odd seen known),
)

pub returns-in-None-clause-narrows : goal.returns-in-None-clause-narrows
returns-in-None-clause-narrows c = λ n odd seen known.
    identification_none c.narrowed.result n _ c.in-None.is (c.narrowed.ensures.all n odd seen known)

pub returns-in-Some-clause-leaves : goal.returns-in-Some-clause-leaves
returns-in-Some-clause-leaves c = λ e. identification_leaves c.args.seen c.in-Some.word c.args.self.now _
    c.narrowed.result c.in-Some.is refl c.narrowed.ensures.exact c.narrowed.ensures.odd
