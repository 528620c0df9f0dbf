use Rattle.std.proofs.Common.{◌≡◌, ◌-◌, ◌^◌, ◌<◌, length, drop}
use Rattle.swd_sequences.specs.Clocks.{sequence_levels}
use Rattle.swd_remote.proofs.levels.number_of.Given as goal

abbrev pub invariant-loop-place : goal.invariant-loop-place
invariant-loop-place l = record {
  small : l.number < 2 ^ l.place;
  read : sequence_levels l.place l.number ≡ drop (length l.text - l.place) l.text;
}
