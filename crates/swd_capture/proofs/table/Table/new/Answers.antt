use Rattle.std.proofs.Common.{ℕ}
use Rattle.std.proofs.lemmas.List.{get_or-replicate, length-replicate}
use Rattle.swd_capture.proofs.table.Table.new.Goals as goal

pub returns : goal.returns
returns c = record {
  rows = length-replicate {A = ℕ} 86 0;
  counts = λ row h. get_or-replicate 86 row 0 0 h;
}
