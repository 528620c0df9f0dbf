use Rattle.std.proofs.Common.{◌≡◌, [], ◌++◌, length, ap, ◌∙◌, subst}
use Rattle.swd_io.specs.Blocks.{BlockBufferSends}
use Rattle.swd_draw.specs.Drawings.{end_text, head}
use Rattle.swd_draw.specs.Rows.{drawing_rows}
use Rattle.swd_draw.proofs.drawing.put_drawing.Goals as goal

pub returns-clause-sends : goal.returns-clause-sends
unfolding end_text
returns-clause-sends g c = λ start none.
    let parts = c.args.parts.now in
    let top = head (length parts) c.args.left_out in
    let body = drawing_rows c.args.names [] parts in
    let text : c.as_bytes.result.now ≡ top =
    c.as_bytes.ensures.value ∙ c.as_str.ensures.value ∙ c.push_drawing_head.ensures
    ∙ ap (λ x. x ++ top) c.new-text.ensures in
    let begun = subst (λ x. BlockBufferSends g.W.Write.contents start c.put_text.new.block x) text
    (c.put_text.ensures.sends start [] none) in
    c.put_text-2.ensures.sends start (top ++ body) (c.put_rows.ensures.sends start top begun)
