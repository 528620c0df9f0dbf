use Rattle.std.proofs.Common.{◌≡◌, ℕ, ◌-◌, List, ◌++◌, map}
use Rattle.swd_bits.specs.Bits.{low_bits}
use Rattle.swd_sequences.specs.Clocks.{sequence_driven_clock, sequence_joined}
use Rattle.swd_remote.specs.Ways.{RemoteLengthens}
use Rattle.swd_remote.proofs.remote.put_bits.Given as goal

-- what was put, and what is left
abbrev pub invariant-loop-place : goal.invariant-loop-place
invariant-loop-place g l = (done : List ℕ)
    × RemoteLengthens g.W.Write.contents done l.fn.outgoing l.outgoing
    × (done ++ sequence_joined (map sequence_driven_clock (low_bits (l.count - l.place) l.rest)) ≡ sequence_joined
    (map sequence_driven_clock (low_bits l.count l.bits)))
