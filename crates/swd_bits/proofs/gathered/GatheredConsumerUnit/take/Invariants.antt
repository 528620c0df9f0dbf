use Rattle.std.proofs.Common.{◌≡◌, ℕ, List, ◌++◌, take}
use Rattle.swd_bits.specs.One.{GathersTxBits}
use Rattle.swd_bits.proofs.gathered.GatheredConsumerUnit.take.Given as goal

abbrev pub invariant-loop-index : goal.invariant-loop-index
invariant-loop-index l = record {
  gathers : (seen : List ℕ) → GathersTxBits seen l.fn.self → GathersTxBits (seen ++ take l.index l.piece) l.self;
  place : l.self.place ≡ l.fn.self.place;
}
