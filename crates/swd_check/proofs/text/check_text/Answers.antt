use Rattle.std.proofs.Common.{sym, subst}
use Rattle.swd_check.specs.Checks.{CheckSaysBehind, ChecksText}
use Rattle.swd_check.proofs.text.check_text.Goals as goal

pub returns-in-Trace : goal.returns-in-Trace
returns-in-Trace g c =
    subst (λ r. ChecksText r (CheckSaysBehind c.args.check) c.check_trace.result (g.R.Read.remaining c.args.reader.now)
    (g.R.Read.remaining c.check_trace.new.reader)) (sym c.in-Trace.is) c.check_trace.ensures

pub returns-in-Capture : goal.returns-in-Capture
returns-in-Capture g c =
    subst (λ r. ChecksText r (CheckSaysBehind c.args.check) c.check_capture.result
    (g.R.Read.remaining c.args.reader.now) (g.R.Read.remaining c.check_capture.new.reader)) (sym c.in-Capture.is)
    c.check_capture.ensures
