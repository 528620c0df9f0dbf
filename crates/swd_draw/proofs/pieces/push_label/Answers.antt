use Rattle.std.proofs.Common.{append_assoc, refl}
use Rattle.swd_draw.specs.Marks.{label_text}
use Rattle.swd_draw.proofs.pieces.push_label.Goals as goal

pub returns-clause-bytes : goal.returns-clause-bytes
unfolding label_text
returns-clause-bytes g c =
    rw (
      c.push_str-4.ensures.bytes,
      c.push_str-3.ensures.bytes,
      c.push_str-2.ensures.bytes,
      c.push_number.ensures.bytes,
      c.push_str.ensures.bytes,
    ) (simp append_assoc refl)
