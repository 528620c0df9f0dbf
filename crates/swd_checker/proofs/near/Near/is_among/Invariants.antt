use Rattle.std.proofs.Common.{◌≡◌, ◌<◌, ℕ, true}
use Rattle.swd_port.specs.Registers.{register_bit}
use Rattle.swd_checker.specs.Described.{checked_near_at}
use Rattle.swd_checker.specs.Words.{IsCheckedWord}
use Rattle.swd_checker.proofs.near.Near.is_among.Given as goal

abbrev pub invariant-loop-place : goal.invariant-loop-place
invariant-loop-place l = (k : ℕ) → k < l.place → register_bit k l.self.places ≡ true
    → IsCheckedWord l.words (checked_near_at l.self k)
