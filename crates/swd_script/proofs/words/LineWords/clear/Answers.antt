use Rattle.swd_script.proofs.WordLemmas.{script_gathers_none}
use Rattle.swd_script.proofs.words.LineWords.clear.Goals as goal

pub returns : goal.returns
returns c = script_gathers_none _ c.clear.ensures c.clear-2.ensures
