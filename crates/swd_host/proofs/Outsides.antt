-- What a run over a wire of which no call was made says of a story, and of the calls noted. For `run_over_transport`.
use Rattle.swd_host.proofs.Words.{◌≡◌, ◌++◌, ◌∙◌, ℕ, List, [], subst, sym, Access, Port, RunsOver, host_report_of}
use Rattle.std.specs.Prelude.{Result, Ok, Err, IfOk}
use Rattle.swd_port.specs.declared.call.Call.{Call}
use Rattle.swd_port.specs.Stories.{port_at, FitsStory}
use Rattle.swd_host.specs.declared.outcome.Refused.{Refused}
use Rattle.swd_host.specs.declared.outcome.Report.{Report}
use Rattle.swd_host.specs.Sent.{HostReportsCalls}
use Rattle.std.proofs.lemmas.List.{append-nil}

-- if no call was made of the wire before a run, the theorem of the run holds from the port before any call
pub host_run_fresh_wire : {A : Type 0} (result : Result (Report A) Refused) (list : List Access) (tries : ℕ)
    (story : ℕ → Port) (before after : List Call) → before ≡ []
    → IfOk result (λ report. FitsStory story after → FitsStory story before
    × RunsOver list tries (host_report_of report) (port_at story before) (port_at story after))
    → IfOk result (λ report. FitsStory story after
    → RunsOver list tries (host_report_of report) (port_at story []) (port_at story after))
host_run_fresh_wire (Ok report) list tries story before after none runs = λ fits.
    subst (λ calls. RunsOver list tries (host_report_of report) (port_at story calls) (port_at story after)) none
    (runs fits).1
host_run_fresh_wire (Err refused) list tries story before after none runs = runs

-- the calls that a wire noted from its first on are those that were made
pub host_run_noted_calls : {A : Type 0} (result : Result (Report A) Refused) (list : List Access)
    (before after : List Call) → before ≡ []
    → IfOk result (λ report. (calls : List Call) → before ≡ calls
    → (made : List Call) × (after ≡ made ++ calls) × HostReportsCalls list (host_report_of report) made)
    → IfOk result (λ report. HostReportsCalls list (host_report_of report) after)
host_run_noted_calls (Ok report) list before after none made =
    let from = made [] none in
    subst (λ calls. HostReportsCalls list (host_report_of report) calls) (sym (from.1 ∙ append-nil from.0)) from.2
host_run_noted_calls (Err refused) list before after none made = made
