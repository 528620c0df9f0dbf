use Rattle.swd_host.proofs.SessionLaws.{host_lists_as_one}
use Rattle.swd_host.proofs.laws.lists.Goals as goal

pub returns : goal.returns
returns c = host_lists_as_one
