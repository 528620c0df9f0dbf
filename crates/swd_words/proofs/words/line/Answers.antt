use Rattle.std.proofs.Common.{◌∙◌, ◌≡◌, List, [], ap, map, subst}
use Rattle.std.specs.Prelude.{IfErr, IfOk}
use Rattle.clap.specs.Words.{Text, fault_of, subcommand_of}
use Rattle.swd_words.specs.Commands.{IsArgumentsRefusal, IsLineOfArguments, swd_app}
use Rattle.swd_words.proofs.words.line.Goals as goal

pub returns-in-Ok-clause-line : goal.returns-in-Ok-clause-line
returns-in-Ok-clause-line c =
    subst (λ (words : List Text). IfOk c.parsed.result (λ l. IsLineOfArguments l (subcommand_of swd_app words)))
    (ap (map (λ w. w.now)) c.as_slice.ensures.value ∙ c.in-Ok.ensures) c.parsed.ensures.line

pub returns-in-Ok-clause-right : goal.returns-in-Ok-clause-right
returns-in-Ok-clause-right c =
    subst (λ (words : List Text). IfOk c.parsed.result (λ _. fault_of swd_app words ≡ []))
    (ap (map (λ w. w.now)) c.as_slice.ensures.value ∙ c.in-Ok.ensures) c.parsed.ensures.right

pub returns-in-Ok-clause-wrong : goal.returns-in-Ok-clause-wrong
returns-in-Ok-clause-wrong c =
    subst (λ (words : List Text). IfErr c.parsed.result (IsArgumentsRefusal (fault_of swd_app words)))
    (ap (map (λ w. w.now)) c.as_slice.ensures.value ∙ c.in-Ok.ensures) c.parsed.ensures.wrong
