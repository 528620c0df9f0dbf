use Rattle.std.proofs.Common.{◌≡◌, ◌-◌, ◌≤◌, None}
use Rattle.swd_port.specs.declared.wire.Due.TheVariants.{Nothing}
use Rattle.swd_image.specs.Lists.{image_loaded_word, image_writes}
use Rattle.swd_image.specs.Reports.{ReportsTo}
use Rattle.swd_image.specs.Sessions.{MadeAll}
use Rattle.swd_image.proofs.writing.write_words.Given as goal

abbrev pub invariant-loop-done : goal.invariant-loop-done
invariant-loop-done g l = record {
  made : MadeAll g.W.Wire l.limits
      (image_writes (image_loaded_word l.image.addr l.image.bytes.now l.image.edges.head l.image.edges.tail)
      l.image.first l.done) l.fn.wire l.wire;
  reported : ReportsTo g.W.Wire l.limits
      (image_writes (image_loaded_word l.image.addr l.image.bytes.now l.image.edges.head l.image.edges.tail)
      l.image.first l.done) None l.fn.wire l.wire
      (g.S.CallReports.held l.fn.report) (g.S.CallReports.held l.report);
  few : l.done ≤ l.image.count;
  due : (g.W.Wire.port l.wire).link.due ≡ Nothing;
  plan : g.W.Wire.plan l.wire ≡ g.W.Wire.plan l.fn.wire;
}

abbrev pub decreases-loop-done : goal.decreases-loop-done
decreases-loop-done g l = l.image.count - l.done
