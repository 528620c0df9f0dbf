use Rattle.swd_host.proofs.Words.{refl}
use Rattle.swd_host.proofs.SessionLaws.{host_session_made_rests}
use Rattle.swd_host.proofs.laws.made_is_at_rest.Goals as goal

pub returns : goal.returns
returns c = record { rests = host_session_made_rests; memory = λ identification m. refl }
