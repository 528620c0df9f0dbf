use Rattle.std.proofs.Common.{refl}
use Rattle.swd_checker.proofs.NearLemmas.{all_places}
use Rattle.swd_checker.proofs.near.Near.seen.Goals as goal

pub returns-else-parity_ok-clause-changed : goal.returns-else-parity_ok-clause-changed
returns-else-parity_ok-clause-changed c = λ e place inside. (place, inside, all_places place inside, refl)
