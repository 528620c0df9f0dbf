use Rattle.swd_checker.proofs.NearLemmas.{NearCollected}
use Rattle.swd_checker.proofs.near.Near.among.Given as goal

abbrev pub invariant-loop-place : goal.invariant-loop-place
invariant-loop-place l = NearCollected l.self l.words l.place l.places l.count l.last
