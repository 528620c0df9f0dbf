use Rattle.std.proofs.Common.{◌≡◌, ◌-◌, ◌≤◌, None}
use Rattle.swd_port.specs.declared.wire.Due.TheVariants.{Nothing}
use Rattle.swd_port.specs.PlainAnswers.{plain_reads}
use Rattle.swd_image.specs.Reports.{ReportsTo}
use Rattle.swd_image.specs.Sessions.{ReadsAs}
use Rattle.swd_image.proofs.reading.read_words.Given as goal

abbrev pub invariant-loop-done : goal.invariant-loop-done
invariant-loop-done g l = record {
  read : ReadsAs g.W.Wire l.limits (plain_reads l.first l.done)
      l.words.items l.fn.wire l.wire;
  reported : ReportsTo g.W.Wire l.limits (plain_reads l.first l.done) None
      l.fn.wire l.wire (g.S.CallReports.held l.fn.report) (g.S.CallReports.held l.report);
  few : l.done ≤ l.count;
  due : (g.W.Wire.port l.wire).link.due ≡ Nothing;
  plan : g.W.Wire.plan l.wire ≡ g.W.Wire.plan l.fn.wire;
}

abbrev pub decreases-loop-done : goal.decreases-loop-done
decreases-loop-done g l = l.count - l.done
