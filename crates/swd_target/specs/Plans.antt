-- What contracts see of a plan. All of it is this project's choice.
use Rattle.std.specs.Prelude.{List}
use Rattle.swd_port.specs.declared.mark.Mark.{Mark}
use Rattle.swd_port.specs.Port.{PortTally}
use Rattle.swd_target.specs.declared.plan.Plan.{Plan}
use Rattle.swd_target.specs.Marks.{plan_mark_at}

-- its marks
abbrev pub plan_marks : {A : Type 0} → Plan A → List Mark
plan_marks p = p.marks.items

-- its counts of requests
abbrev pub plan_tally : {A : Type 0} → Plan A → PortTally
plan_tally p = record { asked = p.asked.ticks; disturbed = p.disturbed.ticks; lost = p.lost.ticks }

-- the mark of its next request
abbrev pub plan_next_mark : {A : Type 0} → Plan A → Mark
plan_next_mark p = plan_mark_at (plan_marks p) (plan_tally p).asked
