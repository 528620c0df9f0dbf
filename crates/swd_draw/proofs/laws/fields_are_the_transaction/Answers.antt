use Rattle.swd_draw.proofs.FieldLemmas.{drawn_fields_spell}
use Rattle.swd_draw.proofs.laws.fields_are_the_transaction.Goals as goal

pub returns : goal.returns
returns c = drawn_fields_spell
