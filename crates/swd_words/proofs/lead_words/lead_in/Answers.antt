use Rattle.std.proofs.Common.{◌≡◌, true, false, subst}
use Rattle.swd_words.specs.Commands.{IsSpeedArgument}
use Rattle.swd_words.proofs.lead_words.lead_in.Goals as goal

pub returns-then-is_missing : goal.returns-then-is_missing
returns-then-is_missing c = (c.in_ok-remote.ensures, c.is_missing.ensures.0 c.if-is_missing.true)

pub returns : goal.returns
returns c = (
  c.in_ok-files.ensures,
  λ none.
      let missing : c.is_missing.result ≡ true = c.is_missing.ensures.1 none in
      let given : c.is_missing.result ≡ false = c.if-is_missing.false in
      absurd cc,
  c.is_missing-2.ensures.0 c.if-not-is_missing-2.false,
  subst (IsSpeedArgument c.in_ok-speed.speed) c.value_in.ensures c.in_ok-speed.ensures,
  c.is_set-framed.ensures,
)
