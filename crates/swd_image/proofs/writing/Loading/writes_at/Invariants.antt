use Rattle.std.proofs.Common.{◌≡◌}
use Rattle.swd_image.specs.Lists.{image_loaded_word, image_writes}
use Rattle.swd_image.proofs.writing.Loading.writes_at.Given as goal

abbrev pub invariant-loop-index : goal.invariant-loop-index
invariant-loop-index g l =
    l.accesses.items ≡ image_writes (image_loaded_word l.self.addr l.self.bytes.now l.self.edges.head
    l.self.edges.tail) l.at l.index
