use Rattle.std.proofs.Common.{true, false, [], ◌∷◌, Ok, refl, sym, subst, arith}
use Rattle.swd_port.specs.declared.cue.Cue.TheVariants.{Ask}
use Rattle.swd_port.specs.Transports.{PortTransportFails, port_attempt, answers, loses, port_met_with}
use Rattle.swd_port.proofs.Wents.{port_transport_steps, port_transport_fetches}
use Rattle.swd_port.proofs.outside.ask.Goals as goal
use Rattle.swd_port.proofs.outside.ask.Goals.{else-request-via-then-request+else-seen-eq1}
use Rattle.swd_port.proofs.outside.ask.Goals.{else-request-via-else-request}

pub returns-in_default-clause-goes : goal.returns-in_default-clause-goes
returns-in_default-clause-goes g c =
    port_transport_steps _ _ _ _ (port_met_with 7 true c.args.fetched)
    (port_attempt (Ask c.args.request) c.step.result ∷ []) _ _ c.if-gone.false c.step.ensures.told
    (loses c.step.result (subst (PortTransportFails 3) (sym c.in_default.is) tt) refl refl refl refl)

pub returns-then-seen-gt7-clause-goes : goal.returns-then-seen-gt7-clause-goes
returns-then-seen-gt7-clause-goes g c =
    port_transport_steps _ _ _ _ (port_met_with 7 true c.args.fetched)
    (port_attempt (Ask c.args.request) c.step.result ∷ []) _ _ c.if-gone.false c.step.ensures.told
    (loses c.step.result (subst (PortTransportFails 3) (sym c.in-Ok.is) (omega (arith, c.if-seen-gt7.true))) refl refl
    refl refl)

pub returns-then-seen-eq1-clause-goes : goal.returns-then-seen-eq1-clause-goes
returns-then-seen-eq1-clause-goes g c =
    port_transport_fetches _ c.args.gone c.args.request c.in-Ok.seen c.args.fetched c.fetch.result c.step.result _ _ _
    c.if-gone.false c.if-request.true c.in-Ok.is c.if-seen-eq1.true c.step.ensures.told c.fetch.ensures.fetches

pub returns-clause-goes : goal.returns-clause-goes
returns-clause-goes g c =
    port_transport_steps _ _ _ _ (port_met_with c.in-Ok.seen false c.args.fetched)
    (port_attempt (Ask c.args.request) (Ok c.in-Ok.seen) ∷ []) _ _ c.if-gone.false c.in-Ok.ensures.told
    (answers
    (λ read one. elim c.else-request.branch [
      | else-request-via-then-request+else-seen-eq1 w ↦ w.if-seen-eq1.false one
      | else-request-via-else-request w ↦ grind (arith, read, w.if-request.false)
    ]) refl refl refl)
