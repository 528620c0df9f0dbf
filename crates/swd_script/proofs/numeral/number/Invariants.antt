use Rattle.std.proofs.Common.{◌≡◌, ◌+◌, ◌^◌, ◌≤◌, drop}
use Rattle.swd_script.specs.Numerals.{script_number_from}
use Rattle.swd_script.proofs.numeral.number.Given as goal

abbrev pub invariant-loop-byte : goal.invariant-loop-byte
invariant-loop-byte l = record {
  bound : l.value + 1 ≤ 16 ^ l.byte-index;
  rest : script_number_from l.base 0 l.word ≡ script_number_from l.base l.value (drop l.byte-index l.word);
}
