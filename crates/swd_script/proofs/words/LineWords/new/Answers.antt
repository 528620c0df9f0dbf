use Rattle.swd_script.proofs.WordLemmas.{script_gathers_none}
use Rattle.swd_script.proofs.words.LineWords.new.Goals as goal

pub returns : goal.returns
returns c = script_gathers_none _ c.new.ensures c.new-2.ensures
