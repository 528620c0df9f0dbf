use Rattle.std.proofs.Common.{append_assoc, refl}
use Rattle.swd_draw.specs.Marks.{box_text}
use Rattle.swd_draw.proofs.pieces.push_box.Goals as goal

pub returns-clause-bytes : goal.returns-clause-bytes
unfolding box_text
returns-clause-bytes g c =
    rw (
      c.push_str.ensures.bytes,
      c.push_label.ensures.bytes,
      c.push_title.ensures.bytes,
      c.push_rect.ensures.bytes,
      c.from.ensures,
      c.from-2.ensures,
      c.from-3.ensures,
    ) (simp append_assoc refl)
