use Rattle.std.proofs.Common.{◌∙◌, Option, sym, ap, subst, codes}
use Rattle.std.specs.Prelude.{IsSomeAnd}
use Rattle.std.specs.Option.{option_and_then}
use Rattle.clap.specs.Words.{Text, first_of, found_of, rows_of}
use Rattle.swd_script.specs.Numerals.{script_hex_number}
use Rattle.swd_words.specs.Commands.{AreFormatArguments}
use Rattle.swd_words.proofs.image_words.image_line.Goals as goal

pub returns : goal.returns
returns c = record {
  action = c.in_ok-action.ensures;
  addr = c.in_ok-addr.ensures ∙ ap (option_and_then (λ text. script_hex_number text)) c.value_in.ensures;
  file = c.in_ok-names.ensures.file;
  tries = c.in_ok-numbers.ensures.tries;
  resumes = c.in_ok-numbers.ensures.resumes;
  report = c.in_ok-names.ensures.report;
  progress = c.is_set.ensures;
  check = c.is_set-2.ensures;
  bursts = c.is_set-3.ensures;
  remote = c.in_ok-lead.ensures;
  target = c.in_ok-memory.ensures;
  format = subst (λ (file : Option Text). IsSomeAnd file
      (λ text. AreFormatArguments c.in_ok-action.action c.in_ok-formats.formats.0 c.in_ok-formats.formats.1 text
      (first_of (codes "format") (rows_of (found_of c.args.matches.now)))))
      (sym c.in_ok-names.ensures.file) c.in_ok-formats.ensures;
}
