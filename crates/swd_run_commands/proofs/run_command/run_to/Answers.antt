use Rattle.std.proofs.Common.{subst, sym, true}
use Rattle.swd_capture_text.specs.Captures.{accesses_printed}
use Rattle.swd_script.specs.Readers.{read_script_meaning}
use Rattle.swd_run.specs.declared.limits.Limits.{Limits}
use Rattle.swd_run.specs.Records.{run_files_of}
use Rattle.swd_run.specs.Running.{ScriptRunAnswers}
use Rattle.swd_run_commands.specs.Runs.{AreRunCommandFiles}
use Rattle.swd_run_commands.proofs.RecordLemmas.{run_files_told}
use Rattle.swd_run_commands.proofs.run_command.run_to.Goals as goal

pub returns : goal.returns
returns g c =
    let contents = g.T.Write.contents in
    let told = c.paced-records.ensures in
    let before = run_files_of contents accesses_printed c.paced-records.result in
    let after = run_files_of contents accesses_printed c.run_script-answer.new.records in (
      c.run_script-answer.result,
      before,
      after,
      subst (AreRunCommandFiles c.args.run.now true)
          (sym (run_files_told contents c.args.records c.paced-records.result told.trace told.accesses told.printer))
          c.requires.files,
      subst (λ (limits : Limits). ScriptRunAnswers limits (read_script_meaning c.args.texts.script)
          c.args.texts.plan.items c.run_script-answer.result (g.O.Write.contents c.args.output.now)
          (g.O.Write.contents c.run_script-answer.new.writer) before after) c.limits_of-limits.ensures
          c.run_script-answer.ensures,
      c.answer_status.ensures,
    )
