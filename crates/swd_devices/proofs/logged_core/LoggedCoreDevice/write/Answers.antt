use Rattle.std.proofs.Common.{◌∙◌, ap}
use Rattle.swd_port.specs.declared.access.Access.TheVariants.{Write}
use Rattle.swd_devices.specs.LoggedCores.{logged_core_bus, logged_core_state}
use Rattle.swd_devices.proofs.LoggedLemmas.{logged_bus_after}
use Rattle.swd_devices.proofs.logged_core.LoggedCoreDevice.write.Goals as goal

pub returns-clause-after : goal.returns-clause-after
returns-clause-after g c = ap logged_core_bus c.log_write.ensures.after
    ∙ logged_bus_after (Write c.args.addr c.args.word) (logged_core_state c.args.self.now)
