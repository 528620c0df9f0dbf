use Rattle.std.proofs.Common.{Option, subst, codes}
use Rattle.std.specs.Prelude.{IsSomeAnd, IfOk}
use Rattle.clap.specs.Words.{Text, first_of, found_of, rows_of}
use Rattle.swd_words.specs.Commands.{AreFormatArguments}
use Rattle.swd_words.proofs.image_words.formats_of.Goals as goal

pub returns : goal.returns
returns c =
    let word = first_of (codes "format") (rows_of (found_of c.args.matches.now)) in
    subst (λ (file : Option Text). IfOk c.formats_in.result (λ found. IsSomeAnd file
    (λ text. AreFormatArguments c.args.action found.0 found.1 text word))) c.in-Some.ensures
    (subst (λ (asked : Option Text). IfOk c.formats_in.result
    (λ found. AreFormatArguments c.args.action found.0 found.1 c.in-Some.file.now asked)) c.value_in-2.ensures
    c.formats_in.ensures)
