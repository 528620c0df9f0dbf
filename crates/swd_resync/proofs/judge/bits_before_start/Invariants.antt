use Rattle.std.proofs.Common.{◌+◌, ◌-◌, ◌≤◌, Bool, List, ◌++◌}
use Rattle.swd_bits.specs.BitLists.{tx_bits_of, IsWellFormedTxBits}
use Rattle.swd_resync.specs.Parts.{stretch_gap}
use Rattle.swd_resync.proofs.judge.bits_before_start.Given as goal

abbrev pub invariant-loop-rest : goal.invariant-loop-rest
invariant-loop-rest l = record {
  within : l.rest.len ≤ l.window.len;
  spelled : IsWellFormedTxBits l.rest;
  before : (over : Bool) (back : List Bool) → (l.window.len - l.rest.len) + stretch_gap over (tx_bits_of l.rest ++ back)
      ≤ stretch_gap over (tx_bits_of l.window ++ back);
}

abbrev pub decreases-loop-rest : goal.decreases-loop-rest
decreases-loop-rest l = l.rest.len
