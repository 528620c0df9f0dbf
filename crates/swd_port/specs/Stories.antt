-- Sequences of states of the port model, and the calls of a wire that are consistent with them.
use Rattle.std.specs.Prelude.{ℕ, List, [], ◌∷◌, length}
use Rattle.swd_port.specs.declared.call.Call.{Call}
use Rattle.swd_port.specs.declared.wire.Due.{Due}
use Rattle.swd_port.specs.declared.wire.Due.TheVariants.{Nothing}
use Rattle.swd_port.specs.Port.{Port}
use Rattle.swd_port.specs.Steps.{port_due_once, IsPortStep}

-- what is due after these calls, the last one first
abbrev pub port_due_by : List Call → Due
port_due_by [] = Nothing
port_due_by (call ∷ calls) = port_due_once call.cue call.seen

-- The port after these calls, by a story: the states of the model before any call and after each. What is due follows
-- from the calls alone.
abbrev pub port_at : (ℕ → Port) → List Call → Port
port_at story calls =
    let s = story (length calls) in
    record s { link = record s.link { due = port_due_by calls } }

-- the calls are consistent with the story: each is a step of it
abbrev pub FitsStory : (ℕ → Port) → List Call → Type 0
FitsStory story [] = Unit {0}
FitsStory story (call ∷ calls) =
    FitsStory story calls × IsPortStep call.cue call.seen (port_at story calls) (port_at story (call ∷ calls))
