-- What the rows of a table of arguments mean to the parser.
use Rattle.std.specs.Prelude.{List, [], ◌∷◌}
use Rattle.clap.specs.Words.{App, Rule, Text, new_app, with_rule, with_subcommand}
use Rattle.swd_words.specs.declared.argument.Argument.{Argument}
use Rattle.swd_words.specs.declared.argument.CommandRow.{CommandRow}
use Rattle.swd_words.specs.declared.argument.Form.{Form}
use Rattle.swd_words.specs.declared.argument.Form.TheVariants.{Place, Flag, Value, Optional, Number, Places}
use Rattle.swd_words.specs.declared.argument.Form.TheVariants.{Repeated}
use Rattle.swd_words.specs.Rules.{flag_rule, number_rule, optional_rule, place_rule, places_rule, repeated_rule}
use Rattle.swd_words.specs.Rules.{value_rule}

-- the rule of an argument of this name and form
abbrev pub argument_form_rule : Text → Form → Rule
argument_form_rule name (Place required) = place_rule name required
argument_form_rule name Flag = flag_rule name
argument_form_rule name (Value called) = value_rule name
argument_form_rule name (Optional called) = optional_rule name
argument_form_rule name (Number least default) = number_rule name least default.now
argument_form_rule name Places = places_rule name
argument_form_rule name (Repeated values) = repeated_rule name values.now

-- the rule of a row
abbrev pub argument_rule : Argument → Rule
argument_rule argument = argument_form_rule argument.name.now argument.form

-- a command with the arguments of these rows
abbrev pub argument_rows_app : App → List Argument → App
argument_rows_app app [] = app
argument_rows_app app (row ∷ more) = argument_rows_app (with_rule app (argument_rule row)) more

-- the command of a row
abbrev pub command_row_app : CommandRow → App
command_row_app row = argument_rows_app (new_app row.name.now) row.arguments.now

-- a program with the commands of these rows
abbrev pub command_rows_app : App → List CommandRow → App
command_rows_app app [] = app
command_rows_app app (row ∷ more) = command_rows_app (with_subcommand app (command_row_app row).top) more
