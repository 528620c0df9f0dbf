use Rattle.std.proofs.Common.{sym, subst}
use Rattle.std.specs.Prelude.{Some}
use Rattle.swd_checker.specs.Standing.{IsSeenIn}
use Rattle.swd_checker.proofs.IdentifyLemmas.{seen_in_none}
use Rattle.swd_checker.proofs.identification.moved_in.Goals as goal

pub returns-in-Moved-clause-all : goal.returns-in-Moved-clause-all
returns-in-Moved-clause-all c = subst (λ e. IsSeenIn e (Some c.seen.result)) (sym c.in-Moved.is)
    (c.seen.ensures.same, c.seen.ensures.changed)

pub returns-in-Moved-clause-exact : goal.returns-in-Moved-clause-exact
returns-in-Moved-clause-exact c = (c.in-Moved.word, c.in-Moved.parity_ok, c.in-Moved.is, c.seen.ensures.exact)

pub returns-in_default-clause-all : goal.returns-in_default-clause-all
returns-in_default-clause-all c = seen_in_none c.args.end

pub returns-in_default-clause-exact : goal.returns-in_default-clause-exact
returns-in_default-clause-exact c = c.in_default.not-Moved
