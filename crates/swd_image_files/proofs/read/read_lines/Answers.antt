use Rattle.std.proofs.Common.{◌+◌, ◌∷◌, ap, ap₂, refl, sym, ◌∙◌, length, drop}
use Rattle.std.specs.Prelude.{nat_lt}
use Rattle.swd_image_files.specs.Files.{image_file_after_lines}
use Rattle.swd_image_files.specs.Lines.{image_file_without_return}
use Rattle.swd_image_files.specs.Places.{image_file_with_line}
use Rattle.swd_image_files.proofs.LineLemmas.{image_file_lines_left}
use Rattle.swd_image_files.proofs.FileLemmas.{image_file_fault_step, image_file_valid_line_step, image_file_lines_step}
use Rattle.swd_image_files.proofs.FileLemmas.{image_file_lines_behind}
use Rattle.swd_image_files.proofs.read.read_lines.Goals as goal

pub returns-in-Err-clause-err : goal.returns-in-Err-clause-err
returns-in-Err-clause-err g c =
    let records = c.args.records in
    let place = c.loop-more.reading.place in
    let image = c.loop-more.invariant.image in
    let text = c.loop-more.rest.now in
    let len = c.line_len-len.result in
    let line = c.without_return.result.now in
    let is = c.without_return.ensures ∙ ap image_file_without_return c.front.ensures in
    let rest = image_file_lines_left (nat_lt len (length text)) (drop (len + 1) text) in
    c.loop-more.invariant.meaning
    ∙ ap (image_file_after_lines records place image c.loop-more.line)
    (image_file_lines_step c.loop-more.more text len c.loop-more-test.true c.line_len-len.ensures ∙ ap (λ l. l ∷ rest)
    (sym is)) ∙ image_file_fault_step records place image c.loop-more.line line rest c.in-Err.flaw c.in-Err.ensures.err

pub loop-more-preserved : goal.loop-more-preserved
loop-more-preserved g c =
    let records = c.args.records in
    let place = c.loop-more.reading.place in
    let after = c.take_line.new.self.place in
    let image = c.loop-more.invariant.image in
    let text = c.loop-more.rest.now in
    let len = c.line_len-len.result in
    let line = c.without_return.result.now in
    let is = c.without_return.ensures ∙ ap image_file_without_return c.front.ensures in
    let more = nat_lt len (length text) in
    let rest = image_file_lines_left more (drop (len + 1) text) in
    record {
      image = image_file_with_line records place line image;
      holds = c.in-Ok.ensures.held image c.loop-more.invariant.holds;
      meaning = c.loop-more.invariant.meaning
          ∙ ap (image_file_after_lines records place image c.loop-more.line)
          (image_file_lines_step c.loop-more.more text len c.loop-more-test.true c.line_len-len.ensures
          ∙ ap (λ l. l ∷ rest) (sym is))
          ∙ image_file_valid_line_step records place after image c.loop-more.line line rest c.in-Ok.ensures.ok
          ∙ ap₂ (λ n r. image_file_after_lines records after (image_file_with_line records place line image) n r)
          (sym c.saturating_add-line.ensures)
          (image_file_lines_behind more text len c.min.result refl c.min.ensures
          ∙ ap (image_file_lines_left more) (sym c.behind-rest.ensures));
    }
