use Rattle.std.proofs.Common.{sym, ◌∙◌}
use Rattle.swd_trace.proofs.EqualLemmas.{item_equality_sound}
use Rattle.swd_trace.proofs.listing.normal.is_same.Goals as goal

pub returns-clause-yes : goal.returns-clause-yes
returns-clause-yes c = λ h. item_equality_sound c.args.item.now c.args.other.now (sym c.eq.ensures ∙ h)
