use Rattle.std.proofs.Common.{◌++◌, ap, ◌∙◌}
use Rattle.swd_draw.specs.Fields.{drawn_ignored_fields, drawn_tx_fields}
use Rattle.swd_draw.proofs.StripLemmas.{strip_added_append, strip_body}
use Rattle.swd_draw.proofs.row.push_tx.Goals as goal

pub returns-clause-bytes : goal.returns-clause-bytes
returns-clause-bytes c =
    let fields = drawn_tx_fields c.args.tx.now in
    let ignored = drawn_ignored_fields c.args.ignored in
    let added = strip_added_append c.new-strip.result c.add_tx.new.strip c.add_ignored.new.strip fields ignored
    c.add_tx.ensures.added c.add_ignored.ensures in
    c.push_strip.ensures.bytes
    ∙ ap (λ x. c.args.text.now.bytes ++ x) (strip_body c.new-strip.result c.add_ignored.new.strip (fields ++ ignored)
    c.new-strip.ensures added)
