use Rattle.std.proofs.Common.{◌<◌, List, length, sym, ap, ◌∙◌, arith, subst}
use Rattle.std.proofs.lemmas.Bool.{eqb-true, eqb-false}
use Rattle.swd_image_files.specs.declared.image.Range.{Range}
use Rattle.swd_image_files.specs.Images.{ImageFileContents, image_file_ranges_joined}
use Rattle.swd_image_files.specs.Readings.{ImageFileSpans}
use Rattle.swd_image_files.proofs.ImageLemmas.{image_file_add_no_bytes, image_file_add_bytes, image_file_add_sound}
use Rattle.swd_image_files.proofs.ImageLemmas.{image_file_result_ok}
use Rattle.swd_image_files.proofs.reading.HeldPieces.add_span.Goals as goal
use Rattle.swd_image_files.proofs.reading.HeldPieces.add_span.Goals.{then-is_empty-via-then-is_empty}
use Rattle.swd_image_files.proofs.reading.HeldPieces.add_span.Goals.{then-is_empty-via-else-is_empty+then-self}

pub returns-then-is_empty : goal.returns-then-is_empty
returns-then-is_empty g c = λ old h. elim c.then-is_empty.branch [
  | then-is_empty-via-then-is_empty w ↦
      (let e = eqb-true (length c.args.bytes.now) 0 (sym c.is_empty.ensures ∙ w.if-is_empty.true) in
      subst (λ o. ImageFileSpans o c.args.self.now) (sym (image_file_add_no_bytes old c.args.at c.args.bytes.now e)) h)
  | then-is_empty-via-else-is_empty+then-self w ↦ record {
    stored = λ fine. absurd cc;
    sound = image_file_add_sound old c.args.at c.args.bytes.now h.sound c.requires;
  }
]

pub returns-then-is_err : goal.returns-then-is_err
returns-then-is_err g c = λ old h. record {
  stored = λ fine. absurd cc;
  sound = image_file_add_sound old c.args.at c.args.bytes.now h.sound c.requires;
}

pub returns-else-is_err : goal.returns-else-is_err
returns-else-is_err g c = λ old h.
    let at = c.args.at in
    let bytes = c.args.bytes.now in
    let no = eqb-false (length bytes) 0 (sym c.is_empty.ensures ∙ c.if-is_empty.false) in
    let some : 0 < length bytes = omega (arith, no) in
    let same = h.stored c.if-self.false in
    record {
      stored = λ fine. image_file_result_ok c.join.result _ c.join.ensures
          (sym c.is_err.ensures.value ∙ c.if-is_err.false)
          ∙ ap (λ (ranges : List Range). image_file_ranges_joined ranges at (length bytes)) same
          ∙ ap (λ (i : ImageFileContents). i.ranges) (sym (image_file_add_bytes old at bytes some));
      sound = image_file_add_sound old at bytes h.sound c.requires;
    }
