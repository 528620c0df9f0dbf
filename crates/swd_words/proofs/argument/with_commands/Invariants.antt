use Rattle.std.proofs.Common.{◌≡◌, false, drop}
use Rattle.clap.specs.Words.{app_of}
use Rattle.clap.specs.declared.builder.command.Command.TheViews.{out-Command}
use Rattle.swd_words.specs.Tables.{command_rows_app}
use Rattle.swd_words.proofs.argument.with_commands.Given as goal

-- What the rows behind add is still to come.
abbrev pub invariant-loop-row : goal.invariant-loop-row
invariant-loop-row l = record {
  app : command_rows_app (app_of l.command) (drop l.row-index l.rows)
      ≡ command_rows_app (app_of l.fn.command) l.rows;
  local : (out-Command l.command).has_globals ≡ false;
}
