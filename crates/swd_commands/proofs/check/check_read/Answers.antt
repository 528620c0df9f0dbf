use Rattle.std.proofs.Common.{rules, [], inl, subst}
use Rattle.std.specs.Prelude.{Ok, Err}
use Rattle.swd_check.specs.Checks.{CheckSaysBehind, WritesChecked}
use Rattle.swd_check.specs.Watched.{CheckHolds, CheckSays, check_index}
use Rattle.swd_check.proofs.SaidLemmas.{check_writes_said}
use Rattle.swd_commands.specs.Conversions.{command_check_start}
use Rattle.swd_commands.proofs.check.check_read.Goals as goal

pub returns-in-Ok-check_to : goal.returns-in-Ok-check_to
returns-in-Ok-check_to g c =
    let i = check_index (command_check_start c.args.check.now) c.args.check.now.clean in
    let text = g.R.Read.remaining c.args.input.now in
    let left = g.R.Read.remaining c.check_to.new.reader in
    let old = g.O.Write.contents c.args.output.now in
    let new = g.O.Write.contents c.check_to.new.writer in
    let holds : CheckHolds i c.new.result [] =
    subst (λ s. CheckHolds (check_index s c.args.check.now.clean) c.new.result []) c.options.ensures.start
    (subst (λ b. CheckHolds (check_index c.options.result.start b) c.new.result []) c.options.ensures.clean
    c.new.ensures) in
    inl (
      Ok c.in-Ok-check_to.checked,
      subst (λ r. WritesChecked r (CheckSays i) (Ok c.in-Ok-check_to.checked) text left old new)
          c.reading_of-reading.ensures
          (check_writes_said (CheckSaysBehind c.new.result) (CheckSays i) (λ items checked h. h i [] holds)
          c.reading_of-reading.result (Ok c.in-Ok-check_to.checked) text left old new c.in-Ok-check_to.ensures),
      c.told_status.ensures,
    )

pub returns-in-Err : goal.returns-in-Err
returns-in-Err g c =
    let i = check_index (command_check_start c.args.check.now) c.args.check.now.clean in
    let text = g.R.Read.remaining c.args.input.now in
    let left = g.R.Read.remaining c.check_to.new.reader in
    let old = g.O.Write.contents c.args.output.now in
    let new = g.O.Write.contents c.check_to.new.writer in
    let holds : CheckHolds i c.new.result [] =
    subst (λ s. CheckHolds (check_index s c.args.check.now.clean) c.new.result []) c.options.ensures.start
    (subst (λ b. CheckHolds (check_index c.options.result.start b) c.new.result []) c.options.ensures.clean
    c.new.ensures) in
    inl (
      Err c.in-Err.fault,
      subst (λ r. WritesChecked r (CheckSays i) (Err c.in-Err.fault) text left old new) c.reading_of-reading.ensures
          (check_writes_said (CheckSaysBehind c.new.result) (CheckSays i) (λ items checked h. h i [] holds)
          c.reading_of-reading.result (Err c.in-Err.fault) text left old new c.in-Err.ensures),
      search rules,
    )
