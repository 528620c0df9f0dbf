use Rattle.std.proofs.Common.{[]}
use Rattle.swd_text.specs.Sinks.{LeadsSinkOn, sink_takes_nothing}
use Rattle.swd_capture_text.specs.declared.reading.Reading.TheVariants.{Capture}
use Rattle.swd_check.specs.Checks.{CheckHasHeld, CheckSaysBehind}
use Rattle.swd_check.specs.Watched.{CheckHolds}
use Rattle.swd_check.proofs.CaptureLemmas.{check_parts_few, check_reading_fails}
use Rattle.swd_check.proofs.text.check_capture.Goals as goal

pub returns-in-Err : goal.returns-in-Err
returns-in-Err g c =
    check_reading_fails (LeadsSinkOn CheckHasHeld) (Capture c.args.over) (CheckSaysBehind c.args.checked.check)
    c.in-Err.fault (g.R.Read.remaining c.args.reader.now) (g.R.Read.remaining c.read_parts.new.reader) _
    c.in-Err.ensures

pub returns-in-Ok : goal.returns-in-Ok
returns-in-Ok g c =
    let check = c.args.checked.check in
    let r = c.in-Ok.ensures in
    let h = r.5 check [] (record {
      count = c.requires;
      held = c.new.ensures;
      takes = λ few. sink_takes_nothing CheckHolds check;
    }) in
    let said = c.checked.ensures check r.1 h in (
      r.0,
      r.1,
      r.2,
      r.3,
      r.4,
      said.0,
      said.1 (check_parts_few c.args.over r.0 r.1 r.4),
    )
