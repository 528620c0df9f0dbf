use Rattle.std.proofs.Common.{refl, sym, subst}
use Rattle.swd_port.specs.Transports.{PortTransportFails, breaks}
use Rattle.swd_port.proofs.outside.fetch.Goals as goal

pub returns-in_default-clause-fetches : goal.returns-in_default-clause-fetches
returns-in_default-clause-fetches g c = record {
  told = c.step.result;
  tells = c.step.ensures.told;
  makes = λ read. breaks c.step.result (subst (PortTransportFails 33) (sym c.in-Ok.is) c.if-bits-lt8589934592.false)
      read refl
      refl refl refl;
}

pub returns-in_default-2-clause-fetches : goal.returns-in_default-2-clause-fetches
returns-in_default-2-clause-fetches g c = record {
  told = c.step.result;
  tells = c.step.ensures.told;
  makes = λ read. breaks c.step.result (subst (PortTransportFails 33) (sym c.in_default.is) tt) read refl refl refl
      refl;
}
