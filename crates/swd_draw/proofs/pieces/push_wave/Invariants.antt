use Rattle.std.proofs.Common.{◌≡◌, ◌+◌, ◌-◌, ◌*◌, ◌≤◌, ◌++◌}
use Rattle.arrayvec.specs.ArrayString.{array_string_len}
use Rattle.swd_bits.specs.Bits.{low_bits}
use Rattle.swd_draw.specs.Marks.{wave}
use Rattle.swd_draw.proofs.pieces.push_wave.Given as goal

abbrev pub invariant-loop : goal.invariant-loop
invariant-loop g l = record {
  room : array_string_len l.text ≤ array_string_len l.fn.text + 12 * l.counter;
  kept : l.text.bytes ++ wave (low_bits (l.end - l.counter) l.rest) ≡ l.fn.text.bytes
      ++ wave (low_bits l.fn.bits.len l.fn.bits.bits);
}
