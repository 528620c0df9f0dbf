use Rattle.std.proofs.Common.{◌∙◌, sym, ap}
use Rattle.std.proofs.Math.Logic.{∥∥₁_map}
use Rattle.swd_port.specs.Stories.{port_due_by}
use Rattle.swd_port.proofs.Wents.{port_transport_has_next}
use Rattle.swd_port.proofs.outside.TransportWireWire.step.Goals as goal

pub invariant_of-self : goal.invariant_of-self
invariant_of-self g c =
    let old = c.args.self.now in
    record {
      tracked = c.due_once-self.ensures ∙ sym (ap port_due_by c.and-self.ensures);
      range = c.meet-seen.ensures.range;
      went = λ ties. ∥∥₁_map (old.went ties)
          (λ h. port_transport_has_next g.T.Transport.tells _ _ c.args.cue old.gone old.fetched c.meet-seen.result _ _
          c.and-self.ensures c.meet-seen.ensures.goes h);
    }
