use Rattle.std.proofs.Common.{◌∙◌, None, ap, inl, inr, subst}
use Rattle.std.proofs.KnownBytes.{Appends-nil}
use Rattle.swd_console.specs.Streams.{command_status_over}
use Rattle.swd_run_commands.specs.Runs.{PerformsRunCommand}
use Rattle.swd_run_commands.proofs.run_command.perform_run.Goals as goal

pub returns-in-Err-clause-file : goal.returns-in-Err-clause-file
returns-in-Err-clause-file g c = λ named local. inl (c.in-Err.ensures.status, Appends-nil _)

pub returns-clause-file : goal.returns-clause-file
returns-clause-file g c = λ named local.
    let opened = c.in-Ok.opened in
    let run = c.args.run.now in
    let own = c.run_planned-own.result in
    let old = g.O.Write.contents c.args.output.now in
    let new = g.O.Write.contents c.run_planned-own.new.output in
    inr (
      opened,
      subst (λ name. g.F.Files.opens c.args.console.now.files.now name opened)
          (c.in-Some.ensures.file.0 ∙ c.as_str.ensures.value) c.in-Ok.ensures.opens,
      None,
      (
        own,
        subst (λ stream. PerformsRunCommand run.plan run own (g.F.File.Read.remaining stream) old new)
            (ap (λ watched. watched.stream) c.new-script.ensures ∙ c.new.ensures.stream) c.run_planned-own.ensures,
        c.status_after-2.ensures ∙ ap (λ error. command_status_over error own) c.kept_error-2.ensures,
      ),
    )
