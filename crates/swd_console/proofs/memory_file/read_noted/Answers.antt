use Rattle.swd_script.proofs.TextLaws.{plan_file_is_plan}
use Rattle.swd_console.proofs.memory_file.read_noted.Goals as goal

pub returns-in-Ok-clause-legal : goal.returns-in-Ok-clause-legal
returns-in-Ok-clause-legal g c =
    plan_file_is_plan c.in-Ok.ensures.ok.0 c.in-Ok.marks.items c.in-Ok.ensures.ok.2
