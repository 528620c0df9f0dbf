use Rattle.swd_capture.proofs.KindLemmas.{capture_row_named_by_kind}
use Rattle.swd_capture.proofs.laws.rows_are_named_by_kind.Goals as goal

pub returns : goal.returns
returns c = capture_row_named_by_kind
