-- How a call of a script starts: it opens the target first, or the call before left the target open for it.
use Rattle.std.specs.Prelude.{ℕ, ◌+◌, Bool, true, false, List}
use Rattle.swd_port.specs.declared.access.Access.{Access}
use Rattle.swd_port.specs.declared.wire.Due.{Due}
use Rattle.swd_port.specs.Port.{Port}
use Rattle.swd_host.specs.Reports.{ClosesWithin, HostIsOpen, HostReport, IsAtRest, RunFitsFrom, host_list_requests}
use Rattle.swd_host.specs.Reports.{host_most_requests}
use Rattle.swd_host.specs.declared.task.Bursts.{Bursts}
use Rattle.swd_host.specs.Bursts.{bursts_limit}

-- the state in which it starts
abbrev pub ScriptStarts : Bool → Port → Type 0
ScriptStarts false s = IsAtRest s
ScriptStarts true s = HostIsOpen s

-- the least number of requests before its list: those of the opening
abbrev pub script_opening_requests : Bool → ℕ
script_opening_requests false = 9
script_opening_requests true = 0

-- the most requests of the opening and of n accesses, as the tries allow
abbrev pub script_most_requests : Bool → Bursts → ℕ → ℕ → ℕ
script_most_requests false kind tries = λ n. 0 + host_most_requests kind tries n
script_most_requests true kind tries = host_list_requests kind tries

-- what holds of its report whatever came back: `Closes`, or `ListCloses` over an open target
abbrev pub ScriptCallCloses : Bool → Bursts → List Access → ℕ → HostReport → Due → Type 0
ScriptCallCloses opened kind list tries told next =
    ClosesWithin (script_most_requests opened kind tries) (bursts_limit kind) list told next

-- the theorem of the call: `RunsWithin`, or `ListsWithin` over an open target
abbrev pub ScriptCallFits : Bool → Bursts → List Access → ℕ → HostReport → Port → Port → Type 0
ScriptCallFits opened kind list tries told s t =
    ScriptStarts opened s → RunFitsFrom (script_opening_requests opened) kind list tries s.target.memory told s t
