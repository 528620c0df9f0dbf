use Rattle.std.proofs.Common.{◌+◌, ◌-◌, ◌^◌, min, sym, ap, ◌∙◌, arith}
use Rattle.std.specs.Prelude.{slice_index, slice_set}
use Rattle.std.proofs.lemmas.List.{length-set}
use Rattle.swd_capture.proofs.TableLemmas.{capture_table_counts}
use Rattle.swd_capture.proofs.TellerLemmas.{capture_count_more}
use Rattle.swd_capture.specs.Tables.{capture_count_in_row, capture_part_row, capture_part_weight}
use Rattle.swd_capture.proofs.table.Table.add.Goals as goal

pub returns : goal.returns
returns c = λ parts h. record {
  rows = length-set _ _ _ ∙ h.rows;
  counts = λ row less.
      let part = c.args.part.now in
      let counts = c.args.self.now.counts in
      let at = capture_part_row part in
      ap (λ n. slice_index (slice_set counts n c.saturating_add.result) row) c.row_of_part-row.ensures.row
      ∙ ap (λ n. slice_index (slice_set counts at n) row) (c.saturating_add.ensures
      ∙ ap (λ n. min (slice_index counts n + c.weight_of_part.result) (2 ^ 64 - 1)) c.row_of_part-row.ensures.row
      ∙ ap (λ n. min (slice_index counts at + n) (2 ^ 64 - 1)) c.weight_of_part.ensures)
      ∙ capture_table_counts counts at (capture_part_weight part) row (capture_count_in_row row parts)
      (omega (arith, h.rows, c.row_of_part-row.ensures.row, c.row_of_part-row.ensures.within)) (h.counts row less)
      ∙ ap (λ n. min n (2 ^ 64 - 1)) (sym (capture_count_more row parts part));
}
