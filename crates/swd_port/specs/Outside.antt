-- What contracts see of a wire over a transport. No other crate can set it.
use Rattle.std.specs.Prelude.{Bool, List}
use Rattle.swd_port.specs.declared.call.Call.{Call}
use Rattle.swd_port.specs.declared.outside.Transport.{Ghosts as TransportGhosts}
use Rattle.swd_port.specs.declared.outside.Story.{Ghosts as StoryGhosts}
use Rattle.swd_port.specs.declared.outside.Tie.{Ghosts as TieGhosts}
use Rattle.swd_port.specs.declared.outside.TransportWire.{TransportWire}

-- all calls that were made of it, the last one first
abbrev pub wire_calls : {T S K : Type 0} {t : TransportGhosts T} {s : StoryGhosts S} {k : TieGhosts K}
    → TransportWire T S K t s k → List Call
wire_calls wire = wire.noted.calls

-- whether its transport failed, or returned a number with too many bits
abbrev pub is_wire_gone : {T S K : Type 0} {t : TransportGhosts T} {s : StoryGhosts S} {k : TieGhosts K}
    → TransportWire T S K t s k → Bool
is_wire_gone wire = wire.gone
