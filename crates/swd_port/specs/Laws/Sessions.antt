-- Every session of a host is consistent with some states of the model. Whatever the host chooses to do next, and
-- whatever marks its requests have, consistent replies and states exist. So what is proved for every consistent
-- sequence of states doesn't hold vacuously.
use Rattle.std.specs.Prelude.{ℕ, ◌≡◌, ◌<◌, ◌^◌, List, [], ◌∷◌, length, Option, Some, IfSome}
use Rattle.swd_port.specs.declared.cue.Cue.{Cue}
use Rattle.swd_port.specs.declared.cue.Cue.TheVariants.{Ask}
use Rattle.swd_port.specs.declared.call.Call.{Call}
use Rattle.swd_port.specs.declared.wire.Due.TheVariants.{Nothing}
use Rattle.swd_port.specs.Bus.{Bus}
use Rattle.swd_port.specs.Port.{Port, Drw, Writes}
use Rattle.swd_port.specs.Made.{port_made}
use Rattle.swd_port.specs.Asking.{PortAsksNow}
use Rattle.swd_port.specs.Choices.{Choice, Mark, IsPortMark}
use Rattle.swd_port.specs.Completion.{PortCompletes}
use Rattle.swd_port.specs.Moving.{port_bits_driven}
use Rattle.swd_port.specs.Steps.{IsPortSeen, IsPortStep}
use Rattle.swd_port.specs.Stories.{FitsStory, port_at}
use Rattle.swd_port.specs.Laws.NeverStuck.{PortReadsWords, BusReadsWords}

-- the word that a pending transfer writes
abbrev pub pending_write_word : Option Drw → ℕ
pending_write_word (Some (Writes word)) = word
pending_write_word pending = 0

-- each value of the state that a read may ever return has 32 bits, and the target drives 33 bits
pub record PortHasWords (s : Port) : Type 0 where
  pub reads : PortReadsWords s.target
  pub tar : IfSome s.target.tar (λ word. word < 2 ^ 32)
  pub pending : pending_write_word s.target.pending < 2 ^ 32
  pub driven : port_bits_driven s.link.line < 2 ^ 33

-- a state before any call, over a bus that answers words, is such a state
abbrev pub MadePortHasWords : Type 0
MadePortHasWords = (identification : ℕ) (m : Bus) → identification < 2 ^ 32
    → BusReadsWords m → PortHasWords (port_made identification m)

-- a step of the port model, where a request has this mark
abbrev pub IsPortStepUnder : Mark → Cue → ℕ → Port → Port → Type 0
IsPortStepUnder mark (Ask request) seen s t = (a : Port) × (b : Port) × (c : Choice) × PortCompletes s a
    × PortAsksNow mark c a request seen b × PortCompletes b t
IsPortStepUnder mark cue seen s t = IsPortStep cue seen s t

-- From such a state each cue has a step to such a state again, a request under each mark.
abbrev pub PortStepForEachCue : Type 0
PortStepForEachCue = (mark : Mark) (cue : Cue) (s : Port) → IsPortMark mark → PortHasWords s
    → (seen : ℕ) × (t : Port) × IsPortSeen cue seen × IsPortStepUnder mark cue seen s t × PortHasWords t

-- The cues of these calls, the last one first, are those that a host chose after the calls before each.
abbrev pub PortCallsChosen : (List Call → Cue) → List Call → Type 0
PortCallsChosen next [] = Unit {0}
PortCallsChosen next (call ∷ calls) = (call.cue ≡ next calls) × IsPortSeen call.cue call.seen
    × PortCallsChosen next calls

-- The calls are consistent with the story, and each request was made under the mark of its call, counted from 0.
abbrev pub FitsStoryUnder : (ℕ → Mark) → (ℕ → Port) → List Call → Type 0
FitsStoryUnder marks story [] = Unit {0}
FitsStoryUnder marks story (call ∷ calls) = FitsStoryUnder marks story calls
    × IsPortStepUnder (marks (length calls)) call.cue call.seen (port_at story calls) (port_at story (call ∷ calls))

-- a sequence of states from s on, and n calls that a host chose and that are consistent with it under these marks
pub record PortSession (next : List Call → Cue) (marks : ℕ → Mark) (s : Port) (n : ℕ) : Type 0 where
  pub story : ℕ → Port
  pub calls : List Call
  pub begins : story 0 ≡ s
  pub long : length calls ≡ n
  pub chosen : PortCallsChosen next calls
  pub fits : FitsStory story calls
  pub marked : FitsStoryUnder marks story calls

-- Each host has such a session of any length, under any marks. It may choose each cue by all that it did and saw
-- before.
abbrev pub PortSessionFits : Type 0
PortSessionFits = (next : List Call → Cue) (marks : ℕ → Mark) (s : Port) (n : ℕ) → ((k : ℕ) → IsPortMark (marks k))
    → PortHasWords s → s.link.due ≡ Nothing → PortSession next marks s n
