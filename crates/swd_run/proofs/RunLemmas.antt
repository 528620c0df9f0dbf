-- What a run over a simulated target says in terms of its plan.
use Rattle.std.proofs.Common.{◌≡◌, ℕ, ◌+◌, ◌-◌, ◌%◌, ◌≤◌, Bool, List, refl, ap, arith}
use Rattle.std.specs.Prelude.{◌↔◌}
use Rattle.swd_trace.specs.declared.item.Item.{Item}
use Rattle.swd_port.specs.declared.wire.Due.{Due}
use Rattle.swd_port.specs.declared.wire.Due.TheVariants.{Nothing, Lost as DueLost}
use Rattle.swd_port.specs.Port.{Port}
use Rattle.swd_port.specs.Made.{port_made}
use Rattle.swd_recorder.specs.Steps.{recorded_transactions, recorded_due_count, RecordedEndsUnacknowledged}
use Rattle.swd_port.specs.declared.mark.Mark.{Mark}
use Rattle.swd_port.specs.MarkCounts.{port_disturbed_among, port_lost_among}
use Rattle.swd_host.specs.declared.outcome.End.{End}
use Rattle.swd_host.specs.declared.outcome.End.TheVariants.{All, Lost, TriesOut, WrongId, Confused}
use Rattle.swd_port.specs.Bus.{Bus}
use Rattle.swd_host.specs.Reports.{HostEndsAt, IsAtRest, HostReport}
use Rattle.swd_script.specs.Scripts.{ScriptListed}
use Rattle.swd_run.specs.Running.{IsRunExcused, RunsAs}
use Rattle.swd_host.specs.declared.task.Bursts.{Bursts}
use Rattle.swd_host.proofs.EventRequests.{event_requests_sum}
use Rattle.swd_run.specs.Starts.{ScriptCallCloses, ScriptCallFits, ScriptStarts}
use Rattle.swd_run.specs.Engine.{AreRunTraceItems, IsRunTraceOf, IsPartOfRunTrace}

-- a run stops early only if the plan excuses it, where the plan bounds what was disturbed and lost by its end
pub script_run_end_excused : (ended : End) (tries : ℕ) (marks : List Mark) (s t : Port) →
    t.tally.disturbed ≤ port_disturbed_among marks → t.tally.lost ≤ port_lost_among marks → HostEndsAt ended tries s t
    → IsRunExcused ended tries marks
script_run_end_excused All tries marks s t p q e = tt
script_run_end_excused Lost tries marks s t p q e = let grew = e.1 in omega arith
script_run_end_excused TriesOut tries marks s t p q e = let grew = e.1 in omega arith
script_run_end_excused (WrongId word) tries marks s t p q e = absurd e
script_run_end_excused Confused tries marks s t p q e = absurd e

-- a target that was just made is at rest
pub script_target_at_rest : (m : Bus) (s : Port) → s ≡ port_made 731911287 m → IsAtRest s
script_target_at_rest m s is_made = record {
  due = ap (λ x. x.link.due) is_made;
  known = record {
    select = ap (λ x. x.target.select) is_made;
    odd = ap (λ x. x.target.identification % 2) is_made;
  };
  settled = ap (λ x. x.target.pending) is_made;
}

-- a run from a target at rest or open, which met at most the marks of a plan
pub batch_run_under_plan : (opened : Bool) (kind : Bursts) (tries : ℕ) (batch : ScriptListed) (marks : List Mark)
    (told : HostReport)
    (s t : Port) (due : Due) → ScriptStarts opened s → s.tally.lost ≤ port_lost_among marks
    → t.tally.disturbed ≤ port_disturbed_among marks → t.tally.lost ≤ port_lost_among marks
    → ScriptCallCloses opened kind batch.accesses tries told due
    → ScriptCallFits opened kind batch.accesses tries told s t
    → RunsAs opened kind tries batch s.target.memory marks told t.target.memory
batch_run_under_plan opened kind tries batch marks told s t due starts r p q closes over =
    let fits = over starts in
    let most = fits.most in
    record {
      fits = fits.now;
      excused = script_run_end_excused told.ended tries marks s t p q fits.ends;
      whole = λ none few. fits.stops_only (omega arith) (omega arith);
      least = fits.least;
      most = (let more = event_requests_sum kind (t.tally.disturbed - s.tally.disturbed) 0
          (port_disturbed_among marks) (omega arith) in omega (arith, most, more));
      spends = closes.spends;
    }

-- ---- what a recorded run leaves

-- how runs leave the wire that was recorded from its start
pub record IsRunTraceRecorded (requests : ℕ) (ended : End) (port : Port) : Type 0 where
  pub asked : port.tally.asked ≡ requests
  pub rests : recorded_due_count port.link.due ≡ 0
  pub lost : (port.link.due ≡ DueLost) ↔ (ended ≡ Lost)

-- after a run no transaction is incomplete, and a line reset is due exactly if it ended `Lost`
pub script_run_end_due : (ended : End) (tries : ℕ) (s t : Port) → HostEndsAt ended tries s t
    → (recorded_due_count t.link.due ≡ 0) × ((t.link.due ≡ DueLost) ↔ (ended ≡ Lost))
script_run_end_due All tries s t e = (
  ap recorded_due_count e.0.due,
  (λ d. absurd (apart t.link.due e.0.due d), λ f. absurd cc),
)
  where
    apart : (due : Due) → due ≡ Nothing → due ≡ DueLost → ⊥
    apart due e d = cc
script_run_end_due Lost tries s t e = (ap recorded_due_count e.0, (λ d. refl, λ f. e.0))
script_run_end_due TriesOut tries s t e = (
  ap recorded_due_count e.0,
  (λ d. absurd (apart t.link.due e.0 d), λ f. absurd cc),
)
  where
    apart : (due : Due) → due ≡ Nothing → due ≡ DueLost → ⊥
    apart due e d = cc
script_run_end_due (WrongId word) tries s t e = absurd e
script_run_end_due Confused tries s t e = absurd e

-- its items are its trace
pub run_trace_complete : (requests : ℕ) (ended : End) (port : Port) (items : List Item)
    → IsRunTraceRecorded requests ended port → AreRunTraceItems items
    → recorded_transactions items + recorded_due_count port.link.due ≡ port.tally.asked
    → RecordedEndsUnacknowledged items ↔ (port.link.due ≡ DueLost)
    → IsRunTraceOf requests ended items
run_trace_complete requests ended port items recorded read count lost = record {
  read = read;
  counted = (let asked = recorded.asked in let rests = recorded.rests in omega (arith, count, asked, rests));
  lost = (λ e. recorded.lost.0 (lost.0 e), λ e. lost.1 (recorded.lost.1 e));
}

-- and also where it was cut off they are of it
pub run_trace_truncated : (requests : ℕ) (ended : End) (port : Port) (items : List Item)
    → IsRunTraceRecorded requests ended port → AreRunTraceItems items
    → recorded_transactions items ≤ port.tally.asked → IsPartOfRunTrace requests items
run_trace_truncated requests ended port items recorded read most = record {
  read = read;
  counted = (let asked = recorded.asked in omega (arith, most, asked));
}
