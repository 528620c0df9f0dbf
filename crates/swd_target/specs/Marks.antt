-- Plans of marks (this project's choice).
use Rattle.std.specs.Prelude.{ℕ, Bool, true, List, All, slice_get, unwrap_or, nat_lt}
use Rattle.swd_port.specs.declared.mark.Mark.{Mark}
use Rattle.swd_port.specs.declared.mark.Mark.TheVariants.{Clean, Flip, Mute}
use Rattle.swd_port.specs.Choices.{IsPortMark}

-- the mark of a request by its number, counted from 0; after the end of the plan it is `Clean`
abbrev pub plan_mark_at : List Mark → ℕ → Mark
plan_mark_at plan number = unwrap_or (slice_get plan number) Clean

-- all marks of a plan are legal
abbrev pub IsLegalPlan : List Mark → Type 0
IsLegalPlan plan = All IsPortMark plan

-- the test for a legal mark
abbrev pub is_legal_mark : Mark → Bool
is_legal_mark (Flip place) = nat_lt place 33
is_legal_mark (Mute place) = nat_lt place 3
is_legal_mark mark = true
