use Rattle.swd_checker.proofs.StatusLemmas.{world_power_found, world_at_status, world_shows_sticky}
use Rattle.swd_checker.proofs.laws.statuses.Goals as goal

pub returns : goal.returns
returns c = record { power = world_power_found; status = world_at_status; sticky = world_shows_sticky }
