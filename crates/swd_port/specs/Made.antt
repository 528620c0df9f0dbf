-- A target before any call.
use Rattle.std.specs.Prelude.{ℕ, false, Some, None}
use Rattle.swd_port.specs.declared.state.Reset.TheVariants.{Unreset}
use Rattle.swd_port.specs.declared.state.PowerUp.TheVariants.{Unseen}
use Rattle.swd_port.specs.Bus.{Bus}
use Rattle.swd_port.specs.Registers.{port_select_zero}
use Rattle.swd_port.specs.Port.{port_idle_link, Target, Port}

-- the target before any call, with any identification and memory (this project's choice)
abbrev pub port_made_target : ℕ → Bus → Target
port_made_target identification memory = record {
  reset = Unreset;
  sticky_error = false;
  write_error = false;
  read_ok = false;
  debug_power = false;
  system_power = false;
  debug_up = Unseen;
  system_up = Unseen;
  select = port_select_zero;
  increments = false;
  tar = Some 0;
  buffer = None;
  last_returned = None;
  pending = None;
  identification = identification;
  memory = memory;
}

-- the state before any call (this project's choice)
abbrev pub port_made : ℕ → Bus → Port
port_made identification memory = record {
  link = port_idle_link;
  target = port_made_target identification memory;
  tally = record { asked = 0; disturbed = 0; lost = 0 };
}
