use Rattle.std.proofs.Common.{drop}
use Rattle.swd_resync.proofs.StepLemmas.{stretch_gap_least, stretch_behind_gap, pair_begins_stretch}
use Rattle.swd_resync.proofs.laws.a_pair_is_found.Goals as goal

pub returns-clause-found : goal.returns-clause-found
returns-clause-found c = λ over bits n e. stretch_gap_least over bits n (pair_begins_stretch over (drop n bits) e)

pub returns-clause-begins : goal.returns-clause-begins
returns-clause-begins c = λ over bits. stretch_behind_gap over bits
