use Rattle.std.proofs.Common.{◌≡◌, refl}
use Rattle.swd_port.specs.Outside.{wire_calls}
use Rattle.swd_conform.proofs.RunLemmas.{conform_goes_none}
use Rattle.swd_conform.proofs.over_wire.turn_unless_gone.Goals as goal

pub returns-then-is_gone-clause-goes : goal.returns-then-is_gone-clause-goes
returns-then-is_gone-clause-goes g c = conform_goes_none (λ calls w. wire_calls w ≡ calls) _ _ _ refl refl refl
