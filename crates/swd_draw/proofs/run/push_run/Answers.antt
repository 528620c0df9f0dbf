use Rattle.std.proofs.Common.{append_assoc, refl}
use Rattle.swd_draw.specs.Marks.{clock_piece}
use Rattle.swd_draw.specs.Rows.{run_body}
use Rattle.swd_draw.proofs.run.push_run.Goals as goal

pub returns-clause-bytes : goal.returns-clause-bytes
unfolding run_body clock_piece
returns-clause-bytes g c =
    rw (
      c.push_box.ensures.bytes,
      c.drawn.ensures,
      c.shade.ensures,
      c.text.ensures.bytes,
      c.as_str.ensures.value,
      c.push_number.ensures.bytes,
      c.new-value.ensures,
      c.push_str-3.ensures.bytes,
      c.push_run_wave-2.ensures.bytes,
      c.level.ensures.bytes,
      c.push_str-2.ensures.bytes,
      c.push_run_wave.ensures.bytes,
      c.push_str.ensures.bytes,
    )
    (simp append_assoc refl)
