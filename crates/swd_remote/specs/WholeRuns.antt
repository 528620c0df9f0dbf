-- A run over a remote_bitbang connection: its report, and what was sent and read.
use Rattle.std.specs.Prelude.{ℕ, ◌≡◌, ◌≤◌, Bool, List, [], length, Option, Result, IfOk, IfErr}
use Rattle.swd_port.specs.declared.access.Access.{Access}
use Rattle.swd_port.specs.declared.call.Call.{Call}
use Rattle.swd_port.specs.Port.{Port}
use Rattle.swd_port.specs.Stories.{port_due_by, port_at, FitsStory}
use Rattle.swd_port.specs.Transports.{PortAttempt, PortTransportMade}
use Rattle.swd_host.specs.declared.outcome.Refused.{Refused}
use Rattle.swd_host.specs.declared.outcome.Report.{Report}
use Rattle.swd_host.specs.declared.task.Bursts.TheVariants.{Writes}
use Rattle.swd_host.specs.Plain.{AreHostAccesses}
use Rattle.swd_host.specs.Reports.{Closes, HostRefusesList, RunsOver, host_report_of}
use Rattle.swd_host.specs.Sent.{HostReportsCalls}
use Rattle.swd_remote.specs.declared.kept.RemoteStreams.{RemoteStreams}
use Rattle.swd_remote.specs.declared.line.Way.{Way}
use Rattle.swd_remote.specs.Kept.{LineHangsUp}
use Rattle.swd_remote.specs.Openings.{OpeningShows}

-- These were the calls of a wire over a connection from its beginning to its end, the last one first. `made`
-- are the calls that they made of the transport, in order: where characters go over it, up to the first error
-- theirs were sent, and their levels were read. How far the opening of the target came is what they showed.
pub record GoesOver {R W : Type 0} (way : Way) (remaining : R → Option (List ℕ)) (contents : W → Option (List ℕ))
    (sent left : Option (List ℕ))
    (line : RemoteStreams R W) (calls : List Call) : Type 0 where
  pub made : List PortAttempt
  pub gone : Bool
  pub fetched : ℕ
  pub of : PortTransportMade calls made gone fetched
  pub hangs : LineHangsUp way remaining contents sent left made line
  pub shows : OpeningShows made line.opening

-- the same, and what a sink states of the calls that it got: those that were made of the transport
pub record GoesOverWatched {R W K : Type 0} (got : List PortAttempt → K → Type 0) (way : Way)
    (remaining : R → Option (List ℕ)) (contents : W → Option (List ℕ)) (sent left : Option (List ℕ))
    (line : RemoteStreams R W) (calls : List Call) (sink : K) : Type 0 where
  pub over : GoesOver way remaining contents sent left line calls
  pub watched : got over.made sink

-- a connection over which nothing was sent or read
abbrev pub IsUnusedRemote : {R W : Type 0} → (R → Option (List ℕ)) → (W → Option (List ℕ)) → Option (List ℕ)
    → Option (List ℕ) → RemoteStreams R W → Type 0
IsUnusedRemote remaining contents sent left line = (contents line.writer ≡ sent) × (remaining line.reader ≡ left)

-- The calls of the wire that the report is of, and all that was sent and read. A list that is refused makes no call.
pub record RanOver {A R W : Type 0} (way : Way) (story : ℕ → Port) (accesses : List Access) (tries : ℕ)
    (remaining : R → Option (List ℕ))
    (contents : W → Option (List ℕ)) (sent left : Option (List ℕ)) (result : Result (Report A) Refused)
    (line : RemoteStreams R W) : Type 0 where
  pub calls : List Call
  pub closes : IfOk result (λ report. Closes 0 Writes accesses tries (host_report_of report) (port_due_by calls))
  pub fits : IfOk result (λ report. FitsStory story calls
      → RunsOver accesses tries (host_report_of report) (port_at story []) (port_at story calls))
  pub told : IfOk result (λ report. HostReportsCalls accesses (host_report_of report) calls)
  pub accepted : IfOk result (λ report. (length accesses ≤ 65536) × AreHostAccesses accesses)
  pub refused : IfErr result (HostRefusesList accesses)
  pub untouched : IfErr result (λ refused. calls ≡ [])
  pub over : GoesOver way remaining contents sent left line calls
