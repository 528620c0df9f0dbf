-- A job of accesses over a line is a run over that line.
use Rattle.std.proofs.Common.{ℕ, List, Option, Result}
use Rattle.std.proofs.Math.Logic.{∥∥₁_map}
use Rattle.swd_port.specs.declared.access.Access.{Access}
use Rattle.swd_port.specs.declared.call.Call.{Call}
use Rattle.swd_port.specs.Port.{Port}
use Rattle.swd_host.specs.declared.outcome.Refused.{Refused}
use Rattle.swd_host.specs.declared.outcome.Report.{Report}
use Rattle.swd_remote.specs.declared.kept.RemoteStreams.{RemoteStreams}
use Rattle.swd_remote.specs.declared.line.Way.{Way}
use Rattle.swd_remote.specs.WholeRuns.{GoesOver, RanOver}
use Rattle.swd_ends.specs.AccessRuns.{RanEndAccesses}

-- what the job states of its calls, and what went over the line with them
pub remote_end_ran_over : {A R W : Type 0} (way : Way) (story : ℕ → Port) (accesses : List Access) (tries : ℕ)
    (remaining : R → Option (List ℕ)) (contents : W → Option (List ℕ)) (sent left : Option (List ℕ))
    (result : Result (Report A) Refused) (line : RemoteStreams R W) (calls : List Call)
    → RanEndAccesses story accesses tries result calls
    → ∥ GoesOver way remaining contents sent left line calls ∥₁
    → ∥ RanOver way story accesses tries remaining contents sent left result line ∥₁
remote_end_ran_over way story accesses tries remaining contents sent left result line calls came over =
    ∥∥₁_map over (λ over. record {
      calls = calls;
      closes = came.closes;
      fits = came.fits;
      told = came.told;
      accepted = came.accepted;
      refused = came.refused;
      untouched = came.untouched;
      over = over;
    })
