use Rattle.std.proofs.Common.{◌≡◌, ℕ, ◌-◌, List, ◌++◌}
use Rattle.std.specs.Prelude.{replicate}
use Rattle.swd_sequences.specs.Clocks.{sequence_joined}
use Rattle.swd_remote.specs.Ways.{RemoteLengthens}
use Rattle.swd_remote.proofs.remote.put_times.Given as goal

-- what was put, and what is left
abbrev pub invariant-loop-place : goal.invariant-loop-place
invariant-loop-place g l = (done : List ℕ)
    × RemoteLengthens g.W.Write.contents done l.fn.outgoing l.outgoing
    × (done ++ sequence_joined (replicate (l.count - l.place) l.clock) ≡ sequence_joined (replicate l.count l.clock))
