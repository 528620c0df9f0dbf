use Rattle.swd_host.proofs.SessionLaws.{host_session_as_one}
use Rattle.swd_host.proofs.laws.sessions.Goals as goal

pub returns : goal.returns
returns c = host_session_as_one
