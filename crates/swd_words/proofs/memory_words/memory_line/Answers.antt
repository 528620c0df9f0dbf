use Rattle.std.proofs.Common.{◌∙◌, sym, ap, subst}
use Rattle.std.specs.Option.{option_map}
use Rattle.std.specs.String.{string_bytes}
use Rattle.swd_words.specs.Commands.{IsBaseArgument}
use Rattle.swd_words.proofs.memory_words.memory_line.Goals as goal

pub returns : goal.returns
returns c = record {
  file = ap (option_map string_bytes) (sym c.in-Some.is) ∙ c.in_ok-file.ensures;
  base = subst (IsBaseArgument c.in_ok-base.base) c.value_in.ensures c.in_ok-base.ensures.base;
  plan = c.in_ok-plan.ensures;
}
