use Rattle.std.proofs.Common.{◌≡◌, true, false}
use Rattle.swd_words.proofs.lead_words.is_local.Goals as goal

pub returns-then-not-is_missing-clause-remote : goal.returns-then-not-is_missing-clause-remote
returns-then-not-is_missing-clause-remote c = λ same none other.
    let missing : c.is_missing.result ≡ true = c.is_missing.ensures.1 none in
    let given : c.is_missing.result ≡ false = c.if-not-is_missing.true in
    absurd cc

pub returns-clause-local : goal.returns-clause-local
returns-clause-local c = λ missing.
    (c.is_missing.ensures.0 c.if-not-is_missing.false, c.is_missing-2.ensures.0 missing)

pub returns-clause-remote : goal.returns-clause-remote
returns-clause-remote c = λ given none other.
    let missing : c.is_missing-2.result ≡ true = c.is_missing-2.ensures.1 other in
    let is : c.is_missing-2.result ≡ false = given in
    absurd cc
