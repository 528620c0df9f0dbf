-- The accesses that reach the bus in a sequence of states of the port model: each when the pending transfer takes
-- effect. A bus error is one of them.
use Rattle.std.specs.Prelude.{ℕ, List, [], ◌∷◌, ◌++◌, Option, Some, None, unwrap_or}
use Rattle.std.proofs.Common.{inl, inr}
use Rattle.swd_port.specs.declared.access.Access.{Access}
use Rattle.swd_port.specs.declared.call.Call.{Call}
use Rattle.swd_port.specs.declared.cue.Cue.{Cue}
use Rattle.swd_port.specs.declared.cue.Cue.TheVariants.{Lead, Ask, Take, Give, Pass}
use Rattle.swd_port.specs.Port.{Port, Target, Drw}
use Rattle.swd_port.specs.Choices.{Choice}
use Rattle.swd_port.specs.Completion.{PortCompletes, pending_access_at}
use Rattle.swd_port.specs.Steps.{IsPortStep}
use Rattle.swd_port.specs.Stories.{FitsStory, port_at}

-- the access of a pending transfer at an address
abbrev pub pending_accesses : Option Drw → ℕ → List Access
pending_accesses None at = []
pending_accesses (Some drw) at = pending_access_at at drw ∷ []

-- the access that the bus gets once the pending transfer takes effect
abbrev pub accesses_once_completed : Choice → Target → List Access
accesses_once_completed c x = pending_accesses x.pending (unwrap_or x.tar c.address)

-- the accesses that the bus gets where the pending transfer may take effect
abbrev pub accesses_of_completion : (s t : Port) → PortCompletes s t → List Access
accesses_of_completion s t (inl same) = []
accesses_of_completion s t (inr (c, legal, after)) = accesses_once_completed c s.target

-- those of one call of the wire: the pending transfer may take effect before and after it
abbrev pub accesses_of_step : (cue : Cue) (seen : ℕ) (s t : Port) → IsPortStep cue seen s t → List Access
accesses_of_step (Lead ones undriven switch zeros) seen s t (a, b, first, now, last) =
    accesses_of_completion s a first ++ accesses_of_completion b t last
accesses_of_step (Ask request) seen s t (a, d, b, mark, c, first, kept, now, last) =
    accesses_of_completion s a first ++ accesses_of_completion b t last
accesses_of_step Take seen s t (a, b, first, now, last) =
    accesses_of_completion s a first ++ accesses_of_completion b t last
accesses_of_step (Give bits) seen s t (a, b, first, now, last) =
    accesses_of_completion s a first ++ accesses_of_completion b t last
accesses_of_step Pass seen s t (a, b, first, now, last) =
    accesses_of_completion s a first ++ accesses_of_completion b t last

-- those of all calls that are consistent with a story, in order
abbrev pub accesses_of_story : (story : ℕ → Port) (calls : List Call) → FitsStory story calls → List Access
accesses_of_story story [] fits = []
accesses_of_story story (call ∷ calls) (before, step) =
    accesses_of_story story calls before
    ++ accesses_of_step call.cue call.seen (port_at story calls) (port_at story (call ∷ calls)) step

-- the calls before are consistent with the story, too
abbrev pub story_before : (story : ℕ → Port) (calls past : List Call) → FitsStory story (calls ++ past)
    → FitsStory story past
story_before story [] past fits = fits
story_before story (call ∷ calls) past (before, step) = story_before story calls past before
