-- The port model is never stuck. Each call has a step from every state whose values are words, a request under every
-- mark. So what is proved of all steps doesn't hold vacuously.
use Rattle.std.specs.Prelude.{ℕ, ◌≡◌, ◌<◌, ◌^◌, IfSome, false, List, [], ◌∷◌, unwrap_or}
use Rattle.swd_bits.specs.declared.request.Request.{Request}
use Rattle.swd_port.specs.declared.cue.Cue.{Cue}
use Rattle.swd_port.specs.declared.access.Access.{Access}
use Rattle.swd_port.specs.declared.access.Access.TheVariants.{Read, Write}
use Rattle.swd_port.specs.Bus.{Bus}
use Rattle.swd_port.specs.Port.{Port, Target}
use Rattle.swd_port.specs.Choices.{Mark, IsPortMark, Choice}
use Rattle.swd_port.specs.Completion.{PortCompletes}
use Rattle.swd_port.specs.Asking.{PortAsksNow}
use Rattle.swd_port.specs.Steps.{IsPortStep, is_port_ask}

-- the words that these accesses write have 32 bits
abbrev pub AreWordAccesses : List Access → Type 0
AreWordAccesses [] = Unit {0}
AreWordAccesses (Read at ∷ made) = AreWordAccesses made
AreWordAccesses (Write at word ∷ made) = (word < 2 ^ 32) × AreWordAccesses made

-- each word that the bus ever answers has 32 bits
abbrev pub BusReadsWords : Bus → Type 0
BusReadsWords b = (made : List Access) → AreWordAccesses made → (at : ℕ)
    → unwrap_or (b.answers made (Read at)) 0 < 2 ^ 32

-- each value that a read may return has 32 bits
pub record PortReadsWords (x : Target) : Type 0 where
  pub identification : x.identification < 2 ^ 32
  pub buffer : IfSome x.buffer (λ word. word < 2 ^ 32)
  pub last_returned : IfSome x.last_returned (λ word. word < 2 ^ 32)
  pub memory : BusReadsWords x.memory

-- every request has a step under every mark, with some choice, after the pending transfer took effect or not
abbrev pub PortRequestNeverStuck : Type 0
PortRequestNeverStuck = (mark : Mark) (s : Port) (q : Request) → IsPortMark mark → PortReadsWords s.target →
    (seen : ℕ) × (t : Port) × (a : Port) × (c : Choice) × PortCompletes s a × PortAsksNow mark c a q seen t

-- every other call has a step
abbrev pub PortCallNeverStuck : Type 0
PortCallNeverStuck = (cue : Cue) (s : Port) → is_port_ask cue ≡ false → (seen : ℕ) × (t : Port)
    × IsPortStep cue seen s t
