use Rattle.swd_host.proofs.StandIns.{engine_turned_by_stand_in, engine_turns_by_stand_ins, host_reports_stand_ins}
use Rattle.swd_host.proofs.StandIns.{host_stand_ins_both_ways}
use Rattle.swd_host.proofs.laws.stand_ins.Goals as goal

pub returns-clause-both : goal.returns-clause-both
returns-clause-both c = host_stand_ins_both_ways

pub returns-clause-turned : goal.returns-clause-turned
returns-clause-turned c = engine_turned_by_stand_in

pub returns-clause-turns : goal.returns-clause-turns
returns-clause-turns c = engine_turns_by_stand_ins

pub returns-clause-reports : goal.returns-clause-reports
returns-clause-reports c = host_reports_stand_ins
