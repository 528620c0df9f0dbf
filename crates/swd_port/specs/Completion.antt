-- The pending DRW transfer takes effect.
-- Source: IHI 0031, MEM-AP, "DRW, Data Read/Write register", "CSW, Control/Status Word register",
-- "Auto-incrementing the Transfer Address Register (TAR)"; and B1, "Sticky flags and DP error responses".
use Rattle.std.specs.Prelude.{ℕ, ◌≡◌, ◌+◌, ◌%◌, ◌⊎◌, ◌||◌, not, Bool, false, if◌then◌else◌, Option, Some, None}
use Rattle.std.specs.Prelude.{unwrap_or, nat_lt}
use Rattle.std.specs.Option.{option_and_then}
use Rattle.swd_port.specs.declared.access.Access.{Access}
use Rattle.swd_port.specs.declared.access.Access.TheVariants.{Read, Write}
use Rattle.swd_port.specs.Bus.{Bus, bus_succeeds, bus_word_at, bus_after}
use Rattle.swd_port.specs.Port.{Port, Target, Drw, Reads, Writes}
use Rattle.swd_port.specs.Choices.{Choice, IsPortChoice}

-- a DRW transfer at an address, as an access of the bus
abbrev pub pending_access_at : ℕ → Drw → Access
pending_access_at at Reads = Read at
pending_access_at at (Writes word) = Write at word

-- the pending transfer is a bus error
abbrev pub pending_fails : Option Drw → ℕ → Bus → Bool
pending_fails None at m = false
pending_fails (Some drw) at m = not (bus_succeeds (pending_access_at at drw) m)

-- the bus after the transfer (this project's choice)
abbrev pub memory_after_pending : Option Drw → ℕ → Bus → Bus
memory_after_pending None at m = m
memory_after_pending (Some drw) at m = bus_after (pending_access_at at drw) m

-- the address plus 4, except past the end of a kilobyte: there it is unknown (implementation defined)
abbrev pub port_tar_next_address : ℕ → Option ℕ
port_tar_next_address at = if nat_lt (at % 1024 + 4) 1024 then Some (at + 4) else None

-- TAR after the transfer. After a bus error it is unknown, and an unknown TAR stays unknown (this project's choice).
-- Otherwise it is the next address where AddrInc is single, and unchanged where it is off.
abbrev pub tar_after_pending : Option Drw → Bool → Bool → Option ℕ → Option ℕ
tar_after_pending None failed increments tar = tar
tar_after_pending (Some drw) failed increments tar =
    if failed then None else if increments then option_and_then port_tar_next_address tar else tar

-- the read buffer after the transfer: the word of a read; unknown after a bus error (this project's choice)
abbrev pub buffer_after_pending : Option Drw → Bool → ℕ → Bus → Option ℕ → Option ℕ
buffer_after_pending None failed at m buffer = buffer
buffer_after_pending (Some Reads) failed at m buffer = if failed then None else Some (bus_word_at at m)
buffer_after_pending (Some (Writes word)) failed at m buffer = if failed then None else buffer

-- The target after the pending transfer took effect, at TAR, or at the choice's address where TAR is unknown. Without a
-- pending transfer it is unchanged. A bus error sets STICKYERR.
abbrev pub port_completion : Choice → Target → Target
port_completion c x =
    let at = unwrap_or x.tar c.address in
    let failed = pending_fails x.pending at x.memory in
    record x {
      sticky_error = x.sticky_error || failed;
      tar = tar_after_pending x.pending failed x.increments x.tar;
      buffer = buffer_after_pending x.pending failed at x.memory x.buffer;
      pending = None;
      memory = memory_after_pending x.pending at x.memory;
    }

abbrev pub port_completed : Choice → Port → Port
port_completed c s = record s { target = port_completion c s.target }

-- the pending transfer may take effect now, or not yet (when it does is this project's choice)
abbrev pub PortCompletes : Port → Port → Type 0
PortCompletes s t = (t ≡ s) ⊎ ((c : Choice) × IsPortChoice c × (t ≡ port_completed c s))
