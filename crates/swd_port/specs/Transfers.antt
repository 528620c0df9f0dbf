-- What a host can know of the transfer that it started by DRW: the vocabulary of the laws. All of it follows from the
-- definitions of the steps, which name the source of each rule.
use Rattle.std.specs.Prelude.{ℕ, ◌≡◌, ◌≢◌, ◌<◌, ◌+◌, ◌%◌, ◌^◌, true, false, Some, None}
use Rattle.swd_port.specs.declared.access.Access.{Access}
use Rattle.swd_port.specs.declared.access.Access.TheVariants.{Read, Write}
use Rattle.swd_port.specs.declared.access.Answer.TheVariants.{BusFault}
use Rattle.swd_port.specs.PlainMemory.{plain_address}
use Rattle.swd_port.specs.Bus.{Bus, bus_succeeds, bus_word_at, bus_done_answer, bus_answer, bus_after}
use Rattle.swd_port.specs.Port.{Target, Drw, Reads, Writes}

-- the pending transfer of an access
abbrev pub pending_drw_of : Access → Drw
pending_drw_of (Read at) = Reads
pending_drw_of (Write at word) = Writes word

-- the read buffer has the word of a read that was done
abbrev pub PortBuffered : Access → Bus → Target → Type 0
PortBuffered (Read at) m x = x.buffer ≡ Some (bus_word_at at m)
PortBuffered (Write at word) m x = Unit {0}

-- TAR after a transfer that was done: the next word's address; at the end of a kilobyte nothing is stated
abbrev pub PortTarAdvanced : ℕ → Target → Type 0
PortTarAdvanced at x = x.increments ≡ true → at % 4 ≡ 0 → at < 2 ^ 32 → (at + 4) % 1024 ≢ 0 → x.tar ≡ Some (at + 4)

-- An access whose DRW transfer was accepted, over the bus as it was then: the transfer is pending, done, or failed.
pub data PortSent (access : Access) (m : Bus) (x : Target) : Type 0 where
  owed : x.pending ≡ Some (pending_drw_of access) → x.tar ≡ Some (plain_address access) → x.memory ≡ m
      → x.sticky_error ≡ false → PortSent access m x
  gone : bus_succeeds access m ≡ true → x.pending ≡ None → x.memory ≡ bus_after access m →
      x.sticky_error ≡ false → PortBuffered access m x → PortTarAdvanced (plain_address access) x → PortSent access m x
  failed : bus_succeeds access m ≡ false → x.pending ≡ None → x.memory ≡ bus_after access m → x.sticky_error ≡ true →
      x.tar ≡ None → x.buffer ≡ None → PortSent access m x

-- the bus once no transfer is pending any more, whatever the flags
pub data PortBecomes (m : Bus) (x : Target) : Type 0 where
  idle : x.pending ≡ None → x.memory ≡ m → PortBecomes m x
  pends : (access : Access) → x.pending ≡ Some (pending_drw_of access) → x.tar ≡ Some (plain_address access) →
      bus_after access x.memory ≡ m → PortBecomes m x

-- the fields that `PortSent` and `PortBecomes` mention are unchanged
pub record PortCarries (x y : Target) : Type 0 where
  pub pending : y.pending ≡ x.pending
  pub tar : y.tar ≡ x.tar
  pub memory : y.memory ≡ x.memory
  pub sticky_error : y.sticky_error ≡ x.sticky_error
  pub buffer : y.buffer ≡ x.buffer
  pub increments : y.increments ≡ x.increments

-- TAR is known, no transfer is pending, and STICKYERR is clear: a DRW access would be a transfer at this address over
-- this memory
pub record PortAimed (at : ℕ) (m : Bus) (x : Target) : Type 0 where
  pub tar : x.tar ≡ Some at
  pub memory : x.memory ≡ m
  pub pending : x.pending ≡ None
  pub sticky_error : x.sticky_error ≡ false

-- the access was done: its answer, the bus, the read buffer and TAR
pub record PortSucceeded (access : Access) (m : Bus) (x : Target) : Type 0 where
  pub answer : bus_answer access m ≡ bus_done_answer access m
  pub memory : x.memory ≡ bus_after access m
  pub pending : x.pending ≡ None
  pub sticky_error : x.sticky_error ≡ false
  pub buffered : PortBuffered access m x
  pub advanced : PortTarAdvanced (plain_address access) x

-- the access was a bus error
pub record PortFailed (access : Access) (m : Bus) (x : Target) : Type 0 where
  pub answer : bus_answer access m ≡ BusFault
  pub memory : x.memory ≡ bus_after access m
  pub pending : x.pending ≡ None
  pub sticky_error : x.sticky_error ≡ true
  pub tar : x.tar ≡ None
  pub buffer : x.buffer ≡ None
