use Rattle.std.proofs.Math.Logic.{∥∥₁_map}
use Rattle.swd_remote.proofs.line_job.over_line.Goals as goal

pub returns : goal.returns
returns g c =
    let (calls, came, over) = c.over_watched_line-answer.ensures in
    (calls, came, ∥∥₁_map over (λ watched. watched.over))
