use Rattle.std.proofs.Common.{◌∙◌, List, [], sym, subst, unwrap_or, codes}
use Rattle.clap.specs.Words.{all_of, found_of, rows_of}
use Rattle.swd_command_line.specs.declared.command.PlainWords.{PlainWords}
use Rattle.swd_words.specs.Commands.{ArePlainArguments, IsIdrArgument}
use Rattle.swd_words.proofs.conform_words.conform_line.Goals as goal

pub returns : goal.returns
returns c = record {
  remote = c.in_ok-lead.ensures;
  plain = subst (λ (l : List PlainWords). ArePlainArguments l
      (unwrap_or (all_of (codes "plain") (rows_of (found_of c.args.matches.now))) []))
      (sym c.as_slice.ensures.value ∙ c.in-Some.ensures) c.in_ok-all.ensures;
  hole = subst (IsIdrArgument c.in_ok-hole.hole) c.value_in.ensures c.in_ok-hole.ensures;
  steps = c.in_ok-steps.ensures;
  clean = c.is_set-clean.ensures;
}
