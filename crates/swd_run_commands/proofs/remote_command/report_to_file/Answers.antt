use Rattle.std.proofs.Common.{false, subst, sym}
use Rattle.swd_capture_text.specs.Captures.{accesses_printed}
use Rattle.swd_script.specs.Readers.{read_script_meaning}
use Rattle.swd_run.specs.Records.{run_files_of}
use Rattle.swd_run_commands.specs.Remotes.{RunsRemoteScript}
use Rattle.swd_run_commands.specs.Runs.{AreRunCommandFiles}
use Rattle.swd_run_commands.proofs.LimitLemmas.{ran_as_asked}
use Rattle.swd_run_commands.proofs.RecordLemmas.{run_files_told}
use Rattle.swd_run_commands.proofs.remote_command.report_to_file.Goals as goal

pub returns : goal.returns
returns g c =
    let (calls, came, over) = c.at_the_target-answer.ensures in
    let (answer, streams, verdict) = c.at_the_target-answer.result in
    let contents = g.T.Write.contents in
    let told = c.paced.ensures in
    let run = c.args.run.now in
    subst (λ line. RunsRemoteScript g.P.Story.at run c.ended.result.0 g.I.Read.remaining g.O.Write.contents
    (g.O.Write.contents c.args.ends.1) (g.I.Read.remaining c.args.ends.0) line
    (read_script_meaning c.args.script.now).batches) (sym c.ended.ensures.line) (
      answer,
      _,
      _,
      run_files_of contents accesses_printed c.paced.result,
      run_files_of contents accesses_printed c.at_the_target-answer.new.job.records,
      verdict,
      subst (AreRunCommandFiles run false)
          (sym (run_files_told contents c.args.records c.paced.result told.trace told.accesses told.printer))
          c.requires.files,
      ran_as_asked g.P.Story.at run.check g.I.Read.remaining g.O.Write.contents _ _ streams calls verdict _ _
          c.limits_of.ensures _ came over,
      c.ended.ensures.status,
    )
