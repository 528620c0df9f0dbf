use Rattle.std.proofs.Common.{[], ◌∷◌, ◌++◌, ap, ◌∙◌}
use Rattle.swd_draw.proofs.StripLemmas.{strip_body}
use Rattle.swd_draw.proofs.row.push_field.Goals as goal

pub returns-clause-bytes : goal.returns-clause-bytes
returns-clause-bytes c = c.push_strip.ensures.bytes
    ∙ ap (λ x. c.args.text.now.bytes ++ x) (strip_body c.new-strip.result c.add.new.self (c.args.field ∷ [])
    c.new-strip.ensures c.add.ensures)
