use Rattle.std.proofs.Common.{◌∙◌, ◌≡◌, ◌+◌, ◌<◌, ℕ, List, ◌∷◌, suc, length, drop, get_or, sym, ap, arith}
use Rattle.std.proofs.Math.Seq.{drop-cons}
use Rattle.clap.specs.Words.{App, app_of, with_subcommand}
use Rattle.swd_words.specs.declared.argument.CommandRow.{CommandRow}
use Rattle.swd_words.specs.Tables.{command_row_app, command_rows_app}
use Rattle.swd_words.proofs.argument.with_commands.Goals as goal

-- One more row: what it adds, and the rows behind it.
one_more : (rows : List CommandRow) (k : ℕ) (d : CommandRow) (one two sub : App) → k < length rows
    → two ≡ with_subcommand one sub.top → sub ≡ command_row_app (get_or rows k d)
    → command_rows_app two (drop (k + 1) rows) ≡ command_rows_app one (drop k rows)
one_more rows k d one two sub low added is =
    let next : suc k ≡ k + 1 = omega arith in
    ap (λ (app : App). command_rows_app app (drop (k + 1) rows))
    (added ∙ ap (λ (a : App). with_subcommand one a.top) is)
    ∙ ap (command_rows_app one) (sym (drop-cons rows k d low ∙ ap (λ j. get_or rows k d ∷ drop j rows) next))

pub loop-row-preserved : goal.loop-row-preserved
loop-row-preserved c = record {
  app = one_more c.args.rows.now c.loop-row.row-index _ (app_of c.loop-row.command) (app_of c.in_ok-command.command)
      (app_of c.in_ok-command_of.field-0) (omega arith) c.in_ok-command.ensures.app c.in_ok-command_of.ensures.app
      ∙ c.loop-row.invariant.app;
  local = c.in_ok-command.ensures.local;
}
