use Rattle.std.proofs.Common.{append_assoc, refl}
use Rattle.swd_draw.specs.Marks.{clock_piece}
use Rattle.swd_draw.specs.Strips.{strip_text}
use Rattle.swd_draw.proofs.row.push_strip.Goals as goal

pub returns-clause-bytes : goal.returns-clause-bytes
unfolding strip_text clock_piece
returns-clause-bytes c =
    rw (
      c.push_str-5.ensures.bytes,
      c.as_str-2.ensures.value,
      c.push_str-4.ensures.bytes,
      c.push_str-3.ensures.bytes,
      c.as_str.ensures.value,
      c.push_str-2.ensures.bytes,
      c.push_times.ensures.bytes,
      c.push_str.ensures.bytes,
    )
    (simp append_assoc refl)
