use Rattle.std.proofs.Common.{◌≡◌, ◌∙◌, ◌++◌, List, [], Option, Some, None, ap, codes, map, subst, sym, unwrap_or}
use Rattle.clap.specs.Words.{Text, all_of, found_of, rows_of}
use Rattle.clap.proofs.WalkLemmas.{raw_values-rows}
use Rattle.swd_command_line.specs.declared.command.PlainWords.{PlainWords}
use Rattle.swd_words.specs.Commands.{ArePlainArguments}
use Rattle.swd_words.proofs.check_words.plain_in.Goals as goal

-- the values of --plain, if there are any, and the words of plain memory that they name
of_values : (rows : Option (List Text)) (values : Option (List Text)) (items more : List PlainWords) → values ≡ rows
    → items ≡ more → ArePlainArguments more (unwrap_or values []) → ArePlainArguments items (unwrap_or rows [])
of_values rows values items more same given named =
    subst (λ (o : Option (List Text)). ArePlainArguments items (unwrap_or o [])) same
    (subst (λ (l : List PlainWords). ArePlainArguments l (unwrap_or values [])) (sym given) named)

pub returns-in-Ok : goal.returns-in-Ok
returns-in-Ok c =
    let r = c.in-Ok.ensures in
    let values : List Text = map (λ v. v.now) c.in-Some.values.now in
    of_values (all_of (codes "plain") (rows_of (found_of c.args.matches.now))) (Some values)
    c.add_plain.new.plain.items r.0
    (c.in-Some.ensures ∙ raw_values-rows (found_of c.args.matches.now) (codes "plain"))
    (r.1 ∙ ap (λ (l : List PlainWords). l ++ r.0) c.new-plain.ensures.items) r.2

pub returns-in-None : goal.returns-in-None
returns-in-None c =
    of_values (all_of (codes "plain") (rows_of (found_of c.args.matches.now))) None c.new-plain.result.items []
    (c.in-None.ensures ∙ raw_values-rows (found_of c.args.matches.now) (codes "plain"))
    c.new-plain.ensures.items tt
