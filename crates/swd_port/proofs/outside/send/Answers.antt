use Rattle.std.proofs.Common.{[], ◌∷◌, refl}
use Rattle.swd_port.specs.Transports.{port_attempt, port_met_with}
use Rattle.swd_port.proofs.Wents.{port_transport_steps, port_transport_makes_sent}
use Rattle.swd_port.proofs.outside.send.Goals as goal

pub returns-else-gone-clause-goes : goal.returns-else-gone-clause-goes
returns-else-gone-clause-goes g c =
    let met = port_met_with 0 c.is_err.result c.args.fetched in
    port_transport_steps _ _ _ _ met (port_attempt c.args.cue c.step.result ∷ []) _ _ c.if-gone.false
    c.step.ensures.told (port_transport_makes_sent c.args.cue _ _ met c.requires
    (record { told = c.step.result; one = refl; gone = c.is_err.ensures.value; seen = refl; fetched = refl }))
