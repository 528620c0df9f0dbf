use Rattle.std.proofs.Common.{◌∙◌, codes}
use Rattle.clap.specs.Words.{found_of, rows_of, subcommand_rows_of}
use Rattle.swd_words.proofs.CommandLemmas.{argument_from_rows, argument_name_in_rows}
use Rattle.swd_words.proofs.words.line_of.Goals as goal

pub returns-in_ok-text_in-in-one : goal.returns-in_ok-text_in-in-one
returns-in_ok-text_in-in-one c =
    argument_from_rows (subcommand_rows_of c.args.matches.now) c.in-Some.name.now (codes "one") (codes "FILE")
    (rows_of (found_of c.in-Some.rest.now)) _
    (c.in-Some.ensures.name ∙ argument_name_in_rows c.args.matches.now) c.in-Some.ensures.rows c.in-one.is
    c.in_ok-text_in-in-one.ensures

pub returns-in_ok-text_in-in-encode : goal.returns-in_ok-text_in-in-encode
returns-in_ok-text_in-in-encode c =
    argument_from_rows (subcommand_rows_of c.args.matches.now) c.in-Some.name.now (codes "encode") (codes "FILE")
    (rows_of (found_of c.in-Some.rest.now)) _
    (c.in-Some.ensures.name ∙ argument_name_in_rows c.args.matches.now) c.in-Some.ensures.rows c.in-encode.is
    c.in_ok-text_in-in-encode.ensures
