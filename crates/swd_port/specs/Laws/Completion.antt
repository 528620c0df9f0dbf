-- Laws of completion: the pending DRW transfer takes effect, now or later.
use Rattle.std.specs.Prelude.{◌≡◌, None}
use Rattle.swd_port.specs.Port.{Port}
use Rattle.swd_port.specs.Bus.{Bus}
use Rattle.swd_port.specs.Completion.{PortCompletes}
use Rattle.swd_port.specs.Becoming.{MayBecome}
use Rattle.swd_port.specs.Moves.{PortKept}

-- it may not have occurred yet
abbrev pub PortCompletionNotYet : Type 0
PortCompletionNotYet = (s : Port) → PortCompletes s s

-- without a pending transfer it does nothing
abbrev pub CompletionWithoutPending : Type 0
CompletionWithoutPending = (s t : Port) → s.target.pending ≡ None → PortCompletes s t → t ≡ s

-- two completions are one
abbrev pub PortCompletionTwice : Type 0
PortCompletionTwice = (s t u : Port) → PortCompletes s t → PortCompletes t u → PortCompletes s u

-- what it keeps
abbrev pub PortCompletionKeeps : Type 0
PortCompletionKeeps = (s t : Port) → PortCompletes s t → PortKept s t

-- what the bus may become after a completion, it might have become before it
abbrev pub PortMayBecomeStays : Type 0
PortMayBecomeStays = (m : Bus) (s t : Port) → PortCompletes s t → MayBecome t m → MayBecome s m

-- and the same between any two states with the same pending transfer, TAR and memory
abbrev pub PortMayBecomeCarried : Type 0
PortMayBecomeCarried = (m : Bus) (s t : Port) → t.target.pending ≡ s.target.pending →
    t.target.tar ≡ s.target.tar → t.target.memory ≡ s.target.memory → MayBecome t m → MayBecome s m

-- without a pending transfer the bus may become only what it is
pub record PortMayBecomeOfNone : Type 0 where
  pub same : (s : Port) → s.target.pending ≡ None → MayBecome s s.target.memory
  pub only : (m : Bus) (s : Port) → s.target.pending ≡ None → MayBecome s m → m ≡ s.target.memory
