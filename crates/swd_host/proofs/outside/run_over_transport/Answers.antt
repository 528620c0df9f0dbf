use Rattle.swd_host.proofs.Outsides.{host_run_fresh_wire, host_run_noted_calls}
use Rattle.swd_host.proofs.outside.run_over_transport.Goals as goal

pub returns-clause-fits : goal.returns-clause-fits
returns-clause-fits g c = host_run_fresh_wire c.run.result c.args.accesses.now c.args.tries g.S.Story.at
    c.args.wire.now.noted.calls c.run.new.wire.noted.calls c.requires c.run.ensures.fits

pub returns-clause-told : goal.returns-clause-told
returns-clause-told g c = host_run_noted_calls c.run.result c.args.accesses.now c.args.wire.now.noted.calls
    c.run.new.wire.noted.calls c.requires c.run.ensures.told
