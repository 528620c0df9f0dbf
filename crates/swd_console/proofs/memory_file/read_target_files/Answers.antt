use Rattle.std.proofs.Common.{subst}
use Rattle.swd_console.specs.Roles.{ReadsConsolePlan}
use Rattle.swd_console.proofs.memory_file.read_target_files.Goals as goal

pub returns-in-Ok-read_marks-clause-used : goal.returns-in-Ok-read_marks-clause-used
returns-in-Ok-read_marks-clause-used g c = (
  c.in-Ok.opened.identity,
  subst (λ used. ReadsConsolePlan c.args.memory.now.plan used c.read_marks.new.in_use) c.in-Ok.ensures.used
      c.in-Ok-read_marks.ensures.used,
)
