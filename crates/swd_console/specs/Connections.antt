-- What goes over a connection with another program.
use Rattle.std.specs.Prelude.{Option, None, Some}
use Rattle.swd_remote.specs.declared.line.Way.{Way}
use Rattle.swd_remote.specs.declared.line.Way.TheVariants.{Characters, Packets}
use Rattle.swd_command_line.specs.declared.command.ProbeLine.{ProbeLine}

-- what goes over a line: packets to a probe, and characters to a server
abbrev pub command_way : Option ProbeLine → Way
command_way (Some probe) = Packets probe.speed probe.framed
command_way None = Characters
