use Rattle.swd_host.proofs.Going.{engine_goes_refl}
use Rattle.swd_host.proofs.Words.{refl}
use Rattle.swd_host.proofs.Making.{host_calls_none}
use Rattle.swd_host.proofs.engine.Engine.turn.Goals as goal

pub returns-else-is_none-clause-goes : goal.returns-else-is_none-clause-goes
returns-else-is_none-clause-goes g c = λ lawful. (lawful, engine_goes_refl _ _)

pub returns-else-is_none-clause-made : goal.returns-else-is_none-clause-made
returns-else-is_none-clause-made g c = host_calls_none g.W.Wire.notes _ _ refl
