-- Laws of a transfer by DRW, from its start to what the host learns of it.
use Rattle.std.specs.Prelude.{ℕ, ◌≡◌, ◌≢◌, ◌<◌, ◌+◌, ◌%◌, ◌^◌, ◌⊎◌, true, false, Option, None}
use Rattle.swd_port.specs.declared.access.Access.{Access}
use Rattle.swd_port.specs.declared.access.Access.TheVariants.{Read, Write}
use Rattle.swd_port.specs.Bus.{Bus, bus_after}
use Rattle.swd_port.specs.PlainMemory.{plain_address}
use Rattle.swd_port.specs.Port.{Port, Target, TarWrite, DrwRead, DrwWrite}
use Rattle.swd_port.specs.Choices.{Choice}
use Rattle.swd_port.specs.Completion.{PortCompletes, port_completion}
use Rattle.swd_port.specs.Moves.{PortWritten}
use Rattle.swd_port.specs.Outcomes.{PortAccepts}
use Rattle.swd_port.specs.Transfers.{PortSent, PortBecomes, PortCarries, PortAimed, PortSucceeded, PortFailed}

-- a transfer that is pending, done or failed is one of these after a completion too
abbrev pub PortSentStays : Type 0
PortSentStays = (access : Access) (m : Bus) (s t : Port) → PortCompletes s t → PortSent access m s.target →
    PortSent access m t.target

-- and in every state with the same pending transfer, TAR, memory, STICKYERR, read buffer and AddrInc
abbrev pub PortSentCarried : Type 0
PortSentCarried = (access : Access) (m : Bus) (x y : Target) → PortCarries x y → PortSent access m x
    → PortSent access m y

-- once no transfer is pending, a clear STICKYERR shows that it was done
abbrev pub PortSentSucceeds : Type 0
PortSentSucceeds = (access : Access) (m : Bus) (x : Target) → x.pending ≡ None → x.sticky_error ≡ false →
    PortSent access m x → PortSucceeded access m x

-- and a set one shows that it was a bus error
abbrev pub PortSentFails : Type 0
PortSentFails = (access : Access) (m : Bus) (x : Target) → x.pending ≡ None → x.sticky_error ≡ true →
    PortSent access m x → PortFailed access m x

-- in any case the bus becomes that after the access
abbrev pub PortSentBecomes : Type 0
PortSentBecomes = (access : Access) (m : Bus) (x : Target) → PortSent access m x
    → PortBecomes (bus_after access m) x

-- a completion keeps the bus that `PortBecomes` states
abbrev pub PortBecomesStays : Type 0
PortBecomesStays = (m : Bus) (s t : Port) → PortCompletes s t → PortBecomes m s.target → PortBecomes m t.target

-- so does every state with the same pending transfer, TAR and memory
abbrev pub PortBecomesCarried : Type 0
PortBecomesCarried = (m : Bus) (x y : Target) → y.pending ≡ x.pending → y.tar ≡ x.tar → y.memory ≡ x.memory →
    PortBecomes m x → PortBecomes m y

-- once no transfer is pending, it is the bus
abbrev pub PortBecomesIs : Type 0
PortBecomesIs = (m : Bus) (x : Target) → x.pending ≡ None → PortBecomes m x → x.memory ≡ m

-- it is also the bus after the pending transfer takes effect
abbrev pub PortBecomesCompleted : Type 0
PortBecomesCompleted = (m : Bus) (c : Choice) (x : Target) → PortBecomes m x → (port_completion c x).memory ≡ m

-- the bus of a sent transfer is that before it, or that after it
abbrev pub PortSentMemory : Type 0
PortSentMemory = (access : Access) (m : Bus) (x : Target) → PortSent access m x →
    (x.memory ≡ m) ⊎ (x.memory ≡ bus_after access m)

-- `PortAimed` holds in every state with the same TAR, memory, pending transfer and STICKYERR
abbrev pub PortAimedCarried : Type 0
PortAimedCarried = (at : ℕ) (m : Bus) (x y : Target) → y.tar ≡ x.tar → y.memory ≡ x.memory →
    y.pending ≡ x.pending → y.sticky_error ≡ x.sticky_error → PortAimed at m x → PortAimed at m y

-- a TAR write whose word arrived aims at this word
abbrev pub PortAimedByTar : Type 0
PortAimedByTar = (at : ℕ) (m : Bus) (s t : Port) → s.target.memory ≡ m → s.target.pending ≡ None →
    s.target.sticky_error ≡ false → PortWritten TarWrite at s t → PortAimed at m t.target

-- a transfer that was done aims at the next address, except at the end of a kilobyte
abbrev pub PortAimedByTransfer : Type 0
PortAimedByTransfer = (access : Access) (m : Bus) (x : Target) → PortSucceeded access m x
    → x.increments ≡ true → plain_address access % 4 ≡ 0 → plain_address access < 2 ^ 32
    → (plain_address access + 4) % 1024 ≢ 0 → PortAimed (plain_address access + 4) (bus_after access m) x

-- a DRW read that is answered OK where TAR is known is a transfer at that address
abbrev pub PortDrwReadSent : Type 0
PortDrwReadSent = (at : ℕ) (m : Bus) (flip : Option ℕ) (s t : Port) → PortAimed at m s.target →
    PortAccepts DrwRead true flip s t → PortSent (Read at) m t.target

-- a DRW write whose word arrived where TAR is known is a transfer at that address
abbrev pub PortDrwWriteSent : Type 0
PortDrwWriteSent = (at word : ℕ) (m : Bus) (s t : Port) → PortAimed at m s.target
    → PortWritten DrwWrite word s t → PortSent (Write at word) m t.target
