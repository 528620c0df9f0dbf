use Rattle.std.proofs.Common.{append_assoc, refl}
use Rattle.swd_draw.specs.Drawings.{opening}
use Rattle.swd_draw.proofs.head.push_opening.Goals as goal

pub returns-clause-bytes : goal.returns-clause-bytes
unfolding opening
returns-clause-bytes c =
    rw (
      c.push_str-3.ensures.bytes,
      c.push_number-2.ensures.bytes,
      c.push_str-2.ensures.bytes,
      c.push_number.ensures.bytes,
      c.push_str.ensures.bytes,
    ) (simp append_assoc refl)
