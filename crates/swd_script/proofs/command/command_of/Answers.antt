use Rattle.std.proofs.Common.{sym}
use Rattle.swd_script.proofs.ScriptLemmas.{script_no_four_words, script_no_six_words}
use Rattle.swd_script.proofs.command.command_of.Goals as goal

pub returns-in_default-2 : goal.returns-in_default-2
returns-in_default-2 c = sym (script_no_four_words c.args.words.now c.in_default.len_at_least c.in_default.len_below)

pub returns-in_default-3 : goal.returns-in_default-3
returns-in_default-3 c = sym (script_no_six_words c.args.words.now c.in_default.len_at_least)
