-- The theorem of a list over an open target: no request comes before it.
use Rattle.std.specs.Prelude.{ℕ, List}
use Rattle.swd_port.specs.declared.access.Access.{Access}
use Rattle.swd_port.specs.declared.wire.Due.{Due}
use Rattle.swd_port.specs.Port.{Port}
use Rattle.swd_host.specs.declared.task.Bursts.{Bursts}
use Rattle.swd_host.specs.Bursts.{bursts_limit}
use Rattle.swd_host.specs.Reports.{HostReport, host_list_requests, ClosesWithin, HostIsOpen, RunFitsFrom}

-- the same for a list over an open target
abbrev pub ListCloses : Bursts → List Access → ℕ → HostReport → Due → Type 0
ListCloses kind list tries told next =
    ClosesWithin (host_list_requests kind tries) (bursts_limit kind) list told next

-- the theorem of a list over an open target: no request comes before it
abbrev pub ListsWithin : Bursts → List Access → ℕ → HostReport → Port → Port → Type 0
ListsWithin kind list tries told s t = HostIsOpen s → RunFitsFrom 0 kind list tries s.target.memory told s t
