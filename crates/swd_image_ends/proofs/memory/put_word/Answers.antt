use Rattle.std.proofs.Common.{◌∙◌, ◌≡◌, Some, ap, sym}
use Rattle.swd_image_ends.proofs.MemoryLemmas.{image_end_insert_same}
use Rattle.swd_image_ends.proofs.memory.put_word.Goals as goal

pub returns-else-word-ne0-clause-words : goal.returns-else-word-ne0-clause-words
returns-else-word-ne0-clause-words g c =
    let zero : c.args.word ≡ 0 = search in
    image_end_insert_same c.args.memory.now.words c.args.addr c.args.word
    (c.requires.zero ∙ ap (λ w. Some w) (sym zero))
