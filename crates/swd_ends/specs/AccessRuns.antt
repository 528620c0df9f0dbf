-- What the result of a list of accesses states of the calls that were made of a wire to a target of which nothing is
-- proved.
use Rattle.std.specs.Prelude.{ℕ, ◌≡◌, ◌≤◌, List, [], length, Result, IfOk, IfErr}
use Rattle.swd_port.specs.declared.access.Access.{Access}
use Rattle.swd_port.specs.declared.call.Call.{Call}
use Rattle.swd_port.specs.Port.{Port}
use Rattle.swd_port.specs.Stories.{port_due_by, port_at, FitsStory}
use Rattle.swd_host.specs.declared.outcome.Refused.{Refused}
use Rattle.swd_host.specs.declared.outcome.Report.{Report}
use Rattle.swd_host.specs.declared.task.Bursts.TheVariants.{Writes}
use Rattle.swd_host.specs.Plain.{AreHostAccesses}
use Rattle.swd_host.specs.Reports.{Closes, HostRefusesList, RunsOver, host_report_of}
use Rattle.swd_host.specs.Sent.{HostReportsCalls}

-- These were the calls of a wire that the report is of, the last one first. A list that is refused makes no call.
pub record RanEndAccesses {A : Type 0} (story : ℕ → Port) (accesses : List Access) (tries : ℕ)
    (result : Result (Report A) Refused) (calls : List Call) : Type 0 where
  pub closes : IfOk result (λ report. Closes 0 Writes accesses tries (host_report_of report) (port_due_by calls))
  pub fits : IfOk result (λ report. FitsStory story calls
      → RunsOver accesses tries (host_report_of report) (port_at story []) (port_at story calls))
  pub told : IfOk result (λ report. HostReportsCalls accesses (host_report_of report) calls)
  pub accepted : IfOk result (λ report. (length accesses ≤ 65536) × AreHostAccesses accesses)
  pub refused : IfErr result (HostRefusesList accesses)
  pub untouched : IfErr result (λ refused. calls ≡ [])
