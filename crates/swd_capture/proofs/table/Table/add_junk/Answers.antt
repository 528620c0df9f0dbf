use Rattle.std.proofs.Common.{◌+◌, ◌-◌, ◌^◌, min, sym, ap, ◌∙◌, arith}
use Rattle.std.specs.Prelude.{slice_index, slice_set}
use Rattle.std.proofs.lemmas.List.{length-set}
use Rattle.swd_capture.proofs.TableLemmas.{capture_table_counts}
use Rattle.swd_capture.proofs.TellerLemmas.{capture_count_at_junk}
use Rattle.swd_capture.specs.Tables.{capture_count_in_row}
use Rattle.swd_capture.proofs.table.Table.add_junk.Goals as goal

pub returns : goal.returns
returns c = λ parts bits len h. record {
  rows = length-set _ _ _ ∙ h.rows;
  counts = λ row less.
      let counts = c.args.self.now.counts in
      ap (λ n. slice_index (slice_set counts 83 n) row) (c.saturating_add.ensures
      ∙ ap (λ n. min (slice_index counts 83 + n) (2 ^ 64 - 1)) c.from.ensures)
      ∙ capture_table_counts counts 83 c.args.count row (capture_count_in_row row parts) (omega (arith, h.rows))
      (h.counts row less) ∙ ap (λ n. min n (2 ^ 64 - 1)) (sym (capture_count_at_junk row parts bits c.args.count len));
}
