use Rattle.std.proofs.Common.{◌≡◌, ◌+◌, ◌*◌, ◌≤◌, ◌++◌}
use Rattle.arrayvec.specs.ArrayString.{array_string_len}
use Rattle.swd_draw.specs.Marks.{times}
use Rattle.swd_draw.proofs.pieces.push_times.Given as goal

abbrev pub invariant-loop : goal.invariant-loop
invariant-loop g l = record {
  len : array_string_len l.text ≤ array_string_len l.fn.text + 12 * l.counter;
  bytes : l.text.bytes ≡ l.fn.text.bytes ++ times l.counter l.piece;
}
