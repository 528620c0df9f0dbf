use Rattle.std.proofs.Common.{None}
use Rattle.swd_check.specs.Watched.{checked_rest}
use Rattle.swd_conform.specs.Sessions.{session_items}
use Rattle.swd_conform.proofs.session.SessionCheck.checked.Goals as goal

pub returns : goal.returns
returns g c = λ made has. c.checked.ensures checked_rest (session_items None made) has.holds
