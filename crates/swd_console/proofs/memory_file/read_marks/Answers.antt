use Rattle.std.proofs.Common.{Err, Ok, subst, sym}
use Rattle.std.specs.Prelude.{OnOk, Result}
use Rattle.swd_console.specs.Roles.{ReadsConsolePlan}
use Rattle.swd_console.proofs.memory_file.read_marks.Goals as goal

-- what holds in any case holds at `Ok`
on_ok : {T E P : Type 0} (r : Result T E) → P → OnOk r P
on_ok (Ok x) holds = holds
on_ok (Err e) holds = tt

pub returns-in-Ok-clause-used : goal.returns-in-Ok-clause-used
returns-in-Ok-clause-used g c =
    let new = c.open_read.new.self in
    on_ok c.read_noted.result
    (subst (λ plan. ReadsConsolePlan plan c.args.in_use.now new) (sym c.in-Some.is)
    (c.in-Ok.opened.identity, c.in-Ok.ensures.file, c.in-Ok.ensures.used))
