use Rattle.std.proofs.Common.{◌∙◌, ◌+◌, ◌*◌, ◌++◌, ◌∷◌, [], ap, sym}
use Rattle.swd_port.specs.declared.access.Access.TheVariants.{Write}
use Rattle.swd_image.specs.Lists.{image_loaded_word, image_writes}
use Rattle.swd_image.proofs.ListLemmas.{image_writes_next}
use Rattle.swd_image.proofs.writing.Loading.writes_at.Goals as goal

pub loop-index-preserved : goal.loop-index-preserved
loop-index-preserved g c =
    let word = image_loaded_word c.args.self.now.addr c.args.self.now.bytes.now c.args.self.now.edges.head
    c.args.self.now.edges.tail in
    let index = c.loop-index.index in
    let here = c.args.at + 4 * index in
    c.in-Ok-push.ensures.items ∙ ap (λ l. l ++ Write here c.word-word.result ∷ []) c.loop-index.invariant
    ∙ ap (λ w. image_writes word c.args.at index ++ Write here w ∷ []) c.word-word.ensures
    ∙ sym (image_writes_next word c.args.at index)
