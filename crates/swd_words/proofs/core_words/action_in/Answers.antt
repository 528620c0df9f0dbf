use Rattle.std.proofs.Common.{◌∙◌, Some, sym, ap}
use Rattle.std.specs.Option.{option_map}
use Rattle.swd_words.proofs.core_words.action_in.Goals as goal

pub returns : goal.returns
returns c = sym c.value_in.ensures ∙ ap (option_map (λ s. s.now)) c.in-Some.is ∙ ap Some (sym c.in_ok-action.ensures)
