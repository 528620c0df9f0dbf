use Rattle.std.proofs.Common.{append_assoc, refl}
use Rattle.swd_draw.specs.Drawings.{caption}
use Rattle.swd_draw.proofs.head.push_caption.Goals as goal

pub returns-clause-bytes : goal.returns-clause-bytes
unfolding caption
returns-clause-bytes c =
    rw (
      c.push_caption_end.ensures.bytes,
      c.push_number.ensures.bytes,
      c.push_str.ensures.bytes,
    ) (simp append_assoc refl)
