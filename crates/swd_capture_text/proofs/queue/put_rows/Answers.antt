use Rattle.std.proofs.Common.{◌≡◌, ◌++◌, sym, ap, ◌∙◌, subst, append_assoc, add-one, arith}
use Rattle.swd_io.specs.Blocks.{BlockBufferSends}
use Rattle.swd_capture.specs.Printing.{capture_end_row_printed, capture_end_rows_printed, capture_row_count}
use Rattle.swd_capture.specs.Printing.{capture_printed_parts}
use Rattle.swd_capture_text.proofs.queue.put_rows.Goals as goal

pub loop-row-preserved : goal.loop-row-preserved
loop-row-preserved g c = record {
  sends = λ start printed parts after s.
      let row = c.loop-row.row in
      subst (λ all. BlockBufferSends g.W.Write.contents start c.put_row.new.block all)
      (append_assoc (capture_printed_parts printed parts) (capture_end_rows_printed printed parts row)
      (capture_end_row_printed printed parts row)
      ∙ ap (λ n. capture_printed_parts printed parts ++ capture_end_rows_printed printed parts n)
      (sym (add-one row))) (c.put_row.ensures.sends printed parts after start
      (capture_printed_parts printed parts ++ capture_end_rows_printed printed parts row)
      (c.loop-row.invariant.sends start printed parts after s));
  writer = c.put_row.ensures.writer ∙ c.loop-row.invariant.writer;
}

pub returns-clause-sends : goal.returns-clause-sends
returns-clause-sends g c = λ start printed parts after s.
    let row = c.loop-row.row in
    let all : row ≡ capture_row_count printed = omega
    (arith, c.loop-row-test.false, c.loop-row.auto.row-end, c.rows-row-end.ensures.count printed parts after) in
    subst (λ n. BlockBufferSends g.W.Write.contents start c.loop-row.block
    (capture_printed_parts printed parts ++ capture_end_rows_printed printed parts n)) all
    (c.loop-row.invariant.sends start printed parts after s)
