use Rattle.std.proofs.Common.{◌∙◌}
use Rattle.swd_words.proofs.words.text_in.Goals as goal

pub returns-in-Ok : goal.returns-in-Ok
returns-in-Ok c = c.in-Ok.ensures ∙ c.value_in.ensures
