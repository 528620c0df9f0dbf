use Rattle.swd_script.specs.Readers.{read_script_meaning}
use Rattle.swd_script.proofs.TextLaws.{script_is_runnable, plan_file_is_plan}
use Rattle.swd_run.proofs.texts.read_texts.Goals as goal

pub returns-in-Ok-read_plan-clause-script : goal.returns-in-Ok-read_plan-clause-script
returns-in-Ok-read_plan-clause-script g c = let read = c.in-Ok.ensures.ok in script_is_runnable read.0
    (read_script_meaning c.in-Ok.script) read.2

pub returns-in-Ok-read_plan-clause-plan : goal.returns-in-Ok-read_plan-clause-plan
returns-in-Ok-read_plan-clause-plan g c = let read = c.in-Ok-read_plan.ensures.ok in plan_file_is_plan read.0
    c.in-Ok-read_plan.plan.items read.2
