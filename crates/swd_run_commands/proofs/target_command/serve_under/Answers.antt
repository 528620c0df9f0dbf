use Rattle.std.proofs.Common.{◌∙◌, ap, inl, inr, sym}
use Rattle.std.proofs.KnownBytes.{Appends-nil}
use Rattle.swd_bitbang.specs.Traces.{is_pins_trace_cut_off}
use Rattle.swd_run_commands.proofs.ServedLemmas.{target_command_status_map}
use Rattle.swd_run_commands.proofs.target_command.serve_under.Goals as goal

pub returns-in-Ok-read_target : goal.returns-in-Ok-read_target
returns-in-Ok-read_target g c =
    inr (
      c.serve_host-served.result.served,
      c.serve_host-served.result.is_cut_off,
      c.empty_trace-kept.result,
      c.in-Ok-read_target.pins,
      c.serve_host-served.result.pins,
      c.in-Ok-read_target.ensures.made,
      c.serve_host-served.ensures,
      target_command_status_map c.serve_host-served.result.served _ _ _
          (λ none. let whole = c.missing_of-missing.ensures none in
          (ap is_pins_trace_cut_off (sym c.trace.ensures) ∙ whole.0, whole.1))
          c.served_status.ensures,
    )

pub returns : goal.returns
returns g c = inl (c.target_status.ensures, Appends-nil _)

pub returns-in-Err-cut_off_session : goal.returns-in-Err-cut_off_session
returns-in-Err-cut_off_session g c = inl (c.in-Err-cut_off_session.ensures, Appends-nil _)
