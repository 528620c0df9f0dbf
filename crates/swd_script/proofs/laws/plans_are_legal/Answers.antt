use Rattle.swd_script.proofs.TextLaws.{plan_file_is_plan}
use Rattle.swd_script.proofs.laws.plans_are_legal.Goals as goal

pub returns : goal.returns
returns g c = plan_file_is_plan c
