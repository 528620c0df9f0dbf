use Rattle.std.proofs.Common.{append_assoc, refl}
use Rattle.swd_draw.specs.Drawings.{key_text}
use Rattle.swd_draw.proofs.head.push_key.Goals as goal

pub returns-clause-bytes : goal.returns-clause-bytes
unfolding key_text
returns-clause-bytes c =
    rw (
      c.push_str-7.ensures.bytes,
      c.push_str-6.ensures.bytes,
      c.push_str-5.ensures.bytes,
      c.push_number-2.ensures.bytes,
      c.push_str-4.ensures.bytes,
      c.push_str-3.ensures.bytes,
      c.class.ensures.bytes,
      c.push_str-2.ensures.bytes,
      c.push_number.ensures.bytes,
      c.push_str.ensures.bytes,
    ) (simp append_assoc refl)
