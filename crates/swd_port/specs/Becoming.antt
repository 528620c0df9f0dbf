-- What the bus may become.
use Rattle.std.specs.Prelude.{◌≡◌, ◌⊎◌, true}
use Rattle.swd_port.specs.Bus.{Bus}
use Rattle.swd_port.specs.Port.{Port}
use Rattle.swd_port.specs.Choices.{Choice, IsPortChoice}
use Rattle.swd_port.specs.Completion.{port_completed}
use Rattle.swd_port.specs.Asking.{is_pending_write}

-- the bus may become m once the pending transfer has taken effect, and may stay as it is where a pending write is given
-- up
unfoldable pub MayBecome : Port → Bus → Type 0
MayBecome s m = ((is_pending_write s.target.pending ≡ true) × (m ≡ s.target.memory))
    ⊎ ((c : Choice) × IsPortChoice c × (m ≡ (port_completed c s).target.memory))
