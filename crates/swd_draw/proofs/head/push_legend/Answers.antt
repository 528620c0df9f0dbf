use Rattle.std.proofs.Common.{append_assoc, refl}
use Rattle.swd_draw.specs.Drawings.{legend}
use Rattle.swd_draw.proofs.head.push_legend.Goals as goal

pub returns-clause-bytes : goal.returns-clause-bytes
unfolding legend
returns-clause-bytes c =
    rw (
      c.push_str.ensures.bytes,
      c.push_key-5.ensures.bytes,
      c.push_key-4.ensures.bytes,
      c.push_key-3.ensures.bytes,
      c.push_key-2.ensures.bytes,
      c.push_key.ensures.bytes,
    ) (simp append_assoc refl)
