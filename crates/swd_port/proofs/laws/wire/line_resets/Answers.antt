use Rattle.swd_port.proofs.MovingLaws.{port_line_reset, port_idle_cycles, port_idle_cycles_at_rest}
use Rattle.swd_port.proofs.MovingLaws.{port_first_line_reset}
use Rattle.swd_port.proofs.laws.wire.line_resets.Goals as goal

pub returns-clause-reset : goal.returns-clause-reset
returns-clause-reset c = port_line_reset

pub returns-clause-idle : goal.returns-clause-idle
returns-clause-idle c = port_idle_cycles

pub returns-clause-idle_at_rest : goal.returns-clause-idle_at_rest
returns-clause-idle_at_rest c = port_idle_cycles_at_rest

pub returns-clause-first : goal.returns-clause-first
returns-clause-first c = port_first_line_reset
