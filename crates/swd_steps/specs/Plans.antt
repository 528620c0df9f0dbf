-- The transactions that a run asks for next, as long as each is answered OK with right parity.
use Rattle.std.specs.Prelude.{ℕ, ◌≡◌, ◌+◌, List, [], drop}
use Rattle.swd_port.specs.declared.access.Access.{Access}
use Rattle.swd_port.specs.declared.coming.Coming.{Coming}
use Rattle.swd_host.specs.Coming.{HostForesees}
use Rattle.swd_steps.specs.declared.run.Run.{Run}
use Rattle.swd_steps.specs.declared.run.Stage.{Stage}
use Rattle.swd_steps.specs.declared.run.Stage.TheVariants.{Driving}

abbrev pub SteppedForeseesAt : Stage → ℕ → List Access → Run → List Coming → Type 0
SteppedForeseesAt Driving room list run coming = HostForesees room run.engine (drop (run.answered + 1) list) coming
SteppedForeseesAt stage room list run coming = coming ≡ []

-- What the engine of a run foresees, with the accesses behind the current one. An opening ends with a read whose word
-- decides: there it is the same whichever accesses follow. Between accesses, and after the end, no transaction comes.
abbrev pub SteppedForesees : ℕ → List Access → Run → List Coming → Type 0
SteppedForesees room list run coming = SteppedForeseesAt run.stage room list run coming
