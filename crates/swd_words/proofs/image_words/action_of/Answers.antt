use Rattle.std.proofs.Common.{Option, subst}
use Rattle.std.specs.Prelude.{IsSomeAnd}
use Rattle.clap.specs.Words.{Text}
use Rattle.swd_words.specs.Commands.{IsBytesArgument}
use Rattle.swd_words.proofs.image_words.action_of.Goals as goal

pub returns-in-Some : goal.returns-in-Some
returns-in-Some c = (
  c.in-dump.is,
  subst (λ (word : Option Text). IsSomeAnd word (IsBytesArgument c.in-Some.count)) c.value_in-bytes.ensures
      c.in-Some.ensures,
)
