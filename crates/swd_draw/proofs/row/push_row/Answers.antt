use Rattle.std.proofs.Common.{append_assoc, refl}
use Rattle.swd_draw.specs.Rows.{drawn_line_form, row_end, row_names}
use Rattle.swd_draw.proofs.row.push_row.Goals as goal

pub returns-clause-after : goal.returns-clause-after
returns-clause-after c = λ names before h. c.tell.ensures.after (drawn_line_form names) before h

pub returns-clause-bytes : goal.returns-clause-bytes
unfolding row_names row_end
returns-clause-bytes c = λ names before h at.
    rw (
      c.push_str-2.ensures.bytes,
      c.push_body.ensures.bytes,
      c.push_str.ensures.bytes,
      c.tell.ensures.bytes (drawn_line_form names) before h,
      c.push_head.ensures.bytes,
      at,
    ) (simp append_assoc refl)
