use Rattle.std.proofs.Common.{◌∙◌, ◌++◌, ◌∷◌, [], ap, sym}
use Rattle.swd_image.specs.Bytes.{image_bytes_of}
use Rattle.swd_image.proofs.DumpLemmas.{dump_bytes_next}
use Rattle.swd_image.proofs.dumping.bytes_of.Goals as goal

pub loop-index-preserved : goal.loop-index-preserved
loop-index-preserved g c =
    let words = c.args.words.now in
    let index = c.loop-index.index in
    c.in-Ok-push.ensures.items ∙ ap (λ l. l ++ c.byte_in.result ∷ []) c.loop-index.invariant
    ∙ ap (λ b. image_bytes_of words c.args.place index ++ b ∷ []) c.byte_in.ensures
    ∙ sym (dump_bytes_next words c.args.place index)
