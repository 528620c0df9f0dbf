use Rattle.swd_port.proofs.MovingLaws.{port_data_taken, port_take_keeps, port_take_keeps_at_rest, port_data_given}
use Rattle.swd_port.proofs.MovingLaws.{port_data_given_at_rest, port_data_given_exact, port_turnaround_passed}
use Rattle.swd_port.proofs.MovingLaws.{port_turnaround_at_rest}
use Rattle.swd_port.proofs.laws.wire.data_phases.Goals as goal

pub returns-clause-taken : goal.returns-clause-taken
returns-clause-taken c = port_data_taken

pub returns-clause-take_moves_nothing : goal.returns-clause-take_moves_nothing
returns-clause-take_moves_nothing c = port_take_keeps

pub returns-clause-take_at_rest : goal.returns-clause-take_at_rest
returns-clause-take_at_rest c = port_take_keeps_at_rest

pub returns-clause-given : goal.returns-clause-given
returns-clause-given c = port_data_given

pub returns-clause-given_at_rest : goal.returns-clause-given_at_rest
returns-clause-given_at_rest c = port_data_given_at_rest

pub returns-clause-given_exact : goal.returns-clause-given_exact
returns-clause-given_exact c = port_data_given_exact

pub returns-clause-passed : goal.returns-clause-passed
returns-clause-passed c = port_turnaround_passed

pub returns-clause-passed_at_rest : goal.returns-clause-passed_at_rest
returns-clause-passed_at_rest c = port_turnaround_at_rest
