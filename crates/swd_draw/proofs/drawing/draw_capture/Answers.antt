use Rattle.std.proofs.Common.{[], sym, ◌∙◌, subst, arith}
use Rattle.std.proofs.KnownBytes.{Appends-nil}
use Rattle.swd_text.proofs.OutputLemmas.{text_output_ends}
use Rattle.swd_draw.specs.Draws.{Draws}
use Rattle.swd_draw.proofs.drawing.draw_capture.Goals as goal

pub returns : goal.returns
returns g c =
    let text = g.R.Read.remaining c.args.reader.now in
    let left = g.R.Read.remaining c.draw_text-read.new.reader in
    let start = g.W.Write.contents c.args.writer.now in
    let queues = c.draw_text-read.ensures start (c.new-block.ensures.sends start [] (Appends-nil _) (omega arith)) in
    subst (λ w. Draws c.args.reading c.args.form c.end_output.result text left start (g.W.Write.contents w)) (sym
    (c.writer-1.given.1 (sym (c.end_output.ensures.writer ∙ queues.1 ∙ c.new-block.ensures.writer))))
    (text_output_ends _ _ _ _ g.W.Write.contents _ _ _ _ _ _ _ queues.0 c.end_output.ensures.ends)
