use Rattle.std.proofs.Common.{[], ◌++◌, subst}
use Rattle.swd_text.specs.Sinks.{LeadsSinkOn, sink_takes_nothing}
use Rattle.swd_capture_text.specs.declared.reading.Reading.TheVariants.{Trace}
use Rattle.swd_resync.specs.AsItems.{resync_items}
use Rattle.swd_check.specs.Checks.{CheckHasTaken, CheckSaysBehind, IsCheckedCount}
use Rattle.swd_check.specs.Watched.{CheckHolds}
use Rattle.swd_check.proofs.CaptureLemmas.{check_reading_fails}
use Rattle.swd_check.proofs.text.check_trace.Goals as goal

pub returns-in-Err : goal.returns-in-Err
returns-in-Err g c =
    check_reading_fails (LeadsSinkOn CheckHasTaken) Trace (CheckSaysBehind c.args.checked.check) c.in-Err.fault
    (g.R.Read.remaining c.args.reader.now) (g.R.Read.remaining c.read_parts.new.reader) _ c.in-Err.ensures

pub returns-in-Ok : goal.returns-in-Ok
returns-in-Ok g c =
    let check = c.args.checked.check in
    let r = c.in-Ok.ensures in
    let h = r.5 check [] (c.requires, sink_takes_nothing CheckHolds check) in (
      r.0,
      r.1,
      r.2,
      r.3,
      r.4,
      subst (λ n. IsCheckedCount n c.checked.result) h.0 c.checked.ensures.count,
      λ i seen k. c.checked.ensures.says i (seen ++ resync_items r.1) (h.1 i seen k),
    )
