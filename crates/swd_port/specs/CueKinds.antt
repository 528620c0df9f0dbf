-- Kinds of cues, by what is seen.
use Rattle.std.specs.Prelude.{Bool, true, false}
use Rattle.swd_port.specs.declared.cue.Cue.{Cue}
use Rattle.swd_port.specs.declared.cue.Cue.TheVariants.{Ask as CueAsk, Take as CueTake}

abbrev pub is_port_take : Cue → Bool
is_port_take CueTake = true
is_port_take cue = false

abbrev pub is_port_send : Cue → Bool
is_port_send (CueAsk request) = false
is_port_send CueTake = false
is_port_send cue = true
