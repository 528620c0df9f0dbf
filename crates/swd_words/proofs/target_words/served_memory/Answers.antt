use Rattle.std.proofs.Common.{◌∙◌, sym, ap}
use Rattle.std.specs.Option.{option_map}
use Rattle.std.specs.String.{string_bytes}
use Rattle.swd_words.proofs.target_words.served_memory.Goals as goal

pub returns-in-Ok : goal.returns-in-Ok
returns-in-Ok c = (
  sym (ap (option_map string_bytes) (sym c.in_default.is) ∙ c.in_ok-script.ensures),
  c.in-Ok.ensures,
)

pub returns : goal.returns
returns c = (
  record {
    file = ap (option_map string_bytes) (sym c.in-Some.is) ∙ c.in_ok-script.ensures;
    plan = c.in_ok-plan.ensures;
  },
  c.is_missing.ensures.0 c.if-not-is_missing.false,
  c.is_missing-2.ensures.0 c.if-not-is_missing-2.false,
)
