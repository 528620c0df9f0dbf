use Rattle.std.proofs.Common.{◌∙◌, ◌++◌, ◌∷◌, [], ap, sym}
use Rattle.swd_image.specs.Bytes.{image_bytes_at}
use Rattle.swd_image_ends.proofs.MemoryLemmas.{image_end_bytes_next}
use Rattle.swd_image_ends.proofs.memory.memory_bytes.Goals as goal

pub loop-index-preserved : goal.loop-index-preserved
loop-index-preserved g c =
    let memory = c.args.memory.now in
    let index = c.loop-index.index in
    c.in-Ok-push.ensures.items ∙ ap (λ l. l ++ c.byte_at.result ∷ []) c.loop-index.invariant
    ∙ ap (λ b. image_bytes_at memory c.args.base index ++ b ∷ []) c.byte_at.ensures
    ∙ sym (image_end_bytes_next memory c.args.base index)
