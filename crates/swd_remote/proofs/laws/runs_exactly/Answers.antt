use Rattle.swd_remote.proofs.RunLemmas.{remote_runs_exactly, remote_quits_exactly}
use Rattle.swd_remote.proofs.laws.runs_exactly.Goals as goal

pub returns-clause-runs : goal.returns-clause-runs
returns-clause-runs g c = remote_runs_exactly g.R.Read.remaining g.W.Write.contents

pub returns-clause-quits : goal.returns-clause-quits
returns-clause-quits g c = remote_quits_exactly g.R.Read.remaining g.W.Write.contents
