use Rattle.std.proofs.Common.{◌∙◌, sym, ap}
use Rattle.std.specs.Option.{option_map}
use Rattle.std.specs.String.{string_bytes}
use Rattle.swd_words.proofs.image_words.names_in.Goals as goal

pub returns-clause-file : goal.returns-clause-file
returns-clause-file c = ap (option_map string_bytes) (sym c.in-Some.is) ∙ c.in_ok-file.ensures
