-- What a sink took.
use Rattle.std.specs.Prelude.{Option, Some, None, List, [], ◌∷◌}
use Rattle.swd_port.specs.declared.access.Answer.{Answer}

-- the answer, if there is one
abbrev pub answer_list : Option Answer → List Answer
answer_list None = []
answer_list (Some answer) = answer ∷ []
