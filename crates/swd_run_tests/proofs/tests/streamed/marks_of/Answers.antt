use Rattle.swd_script.proofs.TextLaws.{plan_file_is_plan}
use Rattle.swd_run_tests.proofs.tests.streamed.marks_of.Goals as goal

pub returns-in-Ok : goal.returns-in-Ok
returns-in-Ok c = plan_file_is_plan c.in-Ok.ensures.ok.0 c.in-Ok.marks.items c.in-Ok.ensures.ok.2
