use Rattle.std.proofs.Common.{ℕ, List, Option, Ok, Err, inl, inr, true}
use Rattle.std.proofs.KnownBytes.{Appends-nil}
use Rattle.swd_port.specs.declared.mark.Mark.{Mark}
use Rattle.swd_script.specs.Readers.{read_script_meaning}
use Rattle.swd_script.specs.Scripts.{ScriptMeaning}
use Rattle.swd_capture_text.specs.Captures.{accesses_printed}
use Rattle.swd_run.specs.declared.fault.RunFault.TheVariants.{Texts, Engine}
use Rattle.swd_run.specs.Records.{run_files_of}
use Rattle.swd_run.specs.Running.{AreScriptAndPlan}
use Rattle.swd_run.proofs.EngineLemmas.{run_files_unchanged}
use Rattle.swd_command_line.specs.declared.command.RunLine.{RunLine}
use Rattle.swd_run_commands.specs.Runs.{PerformsRunCommandUnder, RunsCommandScript}
use Rattle.swd_run_commands.proofs.RecordLemmas.{run_command_files_named}
use Rattle.swd_console.specs.Streams.{stream_watched}
use Rattle.swd_run_commands.proofs.run_command.run_under.Goals as goal

-- the script that was read was run so
read_and_ran : {script plan old new : Option (List ℕ)} (run : RunLine) (status : ℕ) (meaning : ScriptMeaning)
    (marks : List Mark) → AreScriptAndPlan script plan meaning marks
    → RunsCommandScript run status meaning marks old new → PerformsRunCommandUnder run status script plan old new
read_and_ran run status meaning marks read (Ok finished, before, after, files, ran, is) =
    inr (
      Ok finished,
      before,
      after,
      files,
      record { meaning = meaning; marks = marks; read = read; answers = ran },
      is,
    )
read_and_ran run status meaning marks read (Err fault, before, after, files, ran, is) =
    inr (
      Err (Engine fault),
      before,
      after,
      files,
      record { meaning = meaning; marks = marks; read = read; answers = ran },
      is,
    )

pub returns-in-Err : goal.returns-in-Err
returns-in-Err g c = inl (c.in-Err.ensures.err.1, (c.in-Err.ensures.err.0, Appends-nil _))

pub returns-in-Err-read_texts : goal.returns-in-Err-read_texts
returns-in-Err-read_texts g c =
    let contents = stream_watched g.F.Made.Write.contents in
    let files = run_files_of contents accesses_printed c.in-Ok.records in
    inr (
      Err (Texts c.in-Err-read_texts.fault),
      files,
      files,
      run_command_files_named contents c.args.run.now true c.in-Ok.records c.in-Ok.ensures.ok,
      (c.in-Err-read_texts.ensures.fault, Appends-nil _, run_files_unchanged files),
      c.unread_status.ensures,
    )

pub returns-in-Ok-cut_off_records : goal.returns-in-Ok-cut_off_records
returns-in-Ok-cut_off_records g c =
    let texts = c.in-Ok-read_texts.texts in
    read_and_ran c.args.run.now c.run_to.result (read_script_meaning texts.script) texts.plan.items
    c.in-Ok-read_texts.ensures.read
    c.run_to.ensures

pub returns-in-Err-cut_off_records : goal.returns-in-Err-cut_off_records
returns-in-Err-cut_off_records g c =
    let is = c.in-Err-cut_off_records.ensures in
    inl (is.1, (is.0, Appends-nil _))
