-- A write that a port gives up before a request that can't wait for it, apart from the request itself.
use Rattle.std.specs.Prelude.{ℕ, ◌≡◌, ◌⊎◌, true}
use Rattle.swd_bits.specs.declared.request.Request.{Request}
use Rattle.swd_port.specs.Port.{Port, port_register}
use Rattle.swd_port.specs.Choices.{Mark, Choice}
use Rattle.swd_port.specs.Answers.{is_exempt_register}
use Rattle.swd_port.specs.Completion.{PortCompletes}
use Rattle.swd_port.specs.Asking.{PortAsks, PortAsksNow, is_pending_write, port_without_write}

-- one call of `ask`, before which no write is given up
abbrev pub PortAsksKept : Port → Request → ℕ → Port → Type 0
PortAsksKept s q seen t =
    (a : Port) × (b : Port) × (mark : Mark) × (c : Choice) × PortCompletes s a × PortAsksNow mark c a q seen b
    × PortCompletes b t

-- the pending write is given up before an exempt request
pub record PortGaveUp (q : Request) (s t : Port) : Type 0 where
  pub exempt : is_exempt_register (port_register s.target.select q) ≡ true
  pub write : is_pending_write s.target.pending ≡ true
  pub after : t ≡ port_without_write s

-- in each call of `ask` no write is given up, or it is before the rest of the call
abbrev pub PortAsksSplit : Type 0
PortAsksSplit = (q : Request) (seen : ℕ) (s t : Port) → PortAsks s q seen t
    → PortAsksKept s q seen t ⊎ ((d : Port) × PortGaveUp q s d × PortAsksKept d q seen t)
