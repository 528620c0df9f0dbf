use Rattle.std.proofs.Common.{subst}
use Rattle.swd_words.specs.Commands.{IsNumberArgument}
use Rattle.swd_words.proofs.words.numbers_in.Goals as goal

pub returns-clause-tries : goal.returns-clause-tries
returns-clause-tries c = subst (IsNumberArgument 8 c.in_ok-tries.tries) c.value_in.ensures c.in_ok-tries.ensures

pub returns-clause-resumes : goal.returns-clause-resumes
returns-clause-resumes c =
    subst (IsNumberArgument 0 c.in_ok-resumes.resumes) c.value_in-2.ensures c.in_ok-resumes.ensures
