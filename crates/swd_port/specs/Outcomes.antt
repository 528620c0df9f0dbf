-- What a request changes, by what the host sees: the vocabulary of the laws. All of it follows from the definition of a
-- request, which names the source of each rule.
pub use Rattle.swd_port.specs.Answers.{IsPortNoAck}
use Rattle.std.specs.Prelude.{ℕ, ◌≡◌, ◌≢◌, ◌<◌, ◌≤◌, ◌+◌, ◌^◌, ◌⊎◌, ◌||◌, Bool, true, false, if◌then◌else◌, Option}
use Rattle.std.specs.Prelude.{Some, None}
use Rattle.swd_port.specs.declared.wire.Due.TheVariants.{Take, Give, Pass, Lost}
use Rattle.swd_port.specs.Port.{Port, Target, Register, Unreset, Live, Seen}
use Rattle.swd_port.specs.Choices.{Choice, IsPortChoice}
use Rattle.swd_port.specs.Answers.{is_exempt_register}
use Rattle.swd_port.specs.Asking.{port_value_in, port_phase_after, port_after_okay, port_after_wait, port_after_fault}

-- what no request changes, whatever its answer and mark: the written registers, and the bus
pub record PortSteady (x y : Target) : Type 0 where
  pub write_error : y.write_error ≡ x.write_error
  pub debug_power : y.debug_power ≡ x.debug_power
  pub system_power : y.system_power ≡ x.system_power
  pub debug_seen : x.debug_up ≡ Seen → y.debug_up ≡ Seen
  pub system_seen : x.system_up ≡ Seen → y.system_up ≡ Seen
  pub select : y.select ≡ x.select
  pub increments : y.increments ≡ x.increments
  pub tar : y.tar ≡ x.tar
  pub identification : y.identification ≡ x.identification
  pub memory : y.memory ≡ x.memory

-- the request had no effect at the target
pub record PortIgnores (s t : Port) : Type 0 where
  pub line : t.link.line ≡ s.link.line
  pub target : t.target ≡ s.target

-- the target answered WAIT: only READOK changed
pub record PortDefers (r : Register) (s t : Port) : Type 0 where
  pub line : t.link.line ≡ s.link.line
  pub target : t.target ≡ port_after_wait r s.target

-- the target answered FAULT: no transfer was pending, and only READOK changed, and STICKYERR for an AP access without
-- power
pub record PortRefuses (r : Register) (ap : Bool) (s t : Port) : Type 0 where
  pub line : t.link.line ≡ s.link.line
  pub target : t.target ≡ port_after_fault r ap s.target
  pub settled : s.target.pending ≡ None

-- The target answered OK, and is live. A read's value is fixed here, and its phase is on the line, with this bit
-- changed, if any. A write's phase is awaited. The choice has what the model leaves open. Where a power is late, the
-- request is disturbed, and its phase isn't changed.
pub record PortAccepts (r : Register) (read : Bool) (flip : Option ℕ) (s t : Port) : Type 0 where
  pub choice : Choice
  pub legal : IsPortChoice choice
  pub disturbed : (choice.debug_late || choice.system_late) ≡ true
      → (flip ≡ None) × (t.tally.disturbed ≡ s.tally.disturbed + 1)
  pub target : t.target ≡ port_after_okay choice r s.target
  pub live : t.target.reset ≡ Live
  pub settled : is_exempt_register r ≡ false → s.target.pending ≡ None
  pub value_range : read ≡ true → port_value_in choice r s.target < 2 ^ 32
  pub line : t.link.line ≡ port_phase_after read r flip (port_value_in choice r s.target)

-- the host saw OK, WAIT or FAULT: the counts rise by one request, no lost one, and at most one disturbed one
pub record PortHeard (s t : Port) : Type 0 where
  pub asked : t.tally.asked ≡ s.tally.asked + 1
  pub lost : t.tally.lost ≡ s.tally.lost
  pub disturbed_least : s.tally.disturbed ≤ t.tally.disturbed
  pub disturbed_most : t.tally.disturbed ≤ s.tally.disturbed + 1

-- no bit of the data phase is changed, or one is, and the request is disturbed
abbrev pub PortPhaseSpared : Option ℕ → Port → Port → Type 0
PortPhaseSpared flip s t =
    (flip ≡ None) ⊎
    ((place : ℕ) × (place < 33) × (flip ≡ Some place) × (t.tally.disturbed ≡ s.tally.disturbed + 1))

-- OK was seen
pub record PortOkaySeen (r : Register) (read : Bool) (seen : ℕ) (s t : Port) : Type 0 where
  pub is : seen ≡ 1
  pub due : t.link.due ≡ (if read then Take else Give)
  pub heard : PortHeard s t
  pub flip : Option ℕ
  pub spares : PortPhaseSpared flip s t
  pub accepts : PortAccepts r read flip s t

-- WAIT was seen, and the request was disturbed
pub record PortWaitSeen (r : Register) (seen : ℕ) (s t : Port) : Type 0 where
  pub is : seen ≡ 2
  pub due : t.link.due ≡ Pass
  pub heard : PortHeard s t
  pub disturbed : t.tally.disturbed ≡ s.tally.disturbed + 1
  pub defers : PortDefers r s t

-- FAULT was seen
pub record PortFaultSeen (r : Register) (ap : Bool) (seen : ℕ) (s t : Port) : Type 0 where
  pub is : seen ≡ 4
  pub due : t.link.due ≡ Pass
  pub heard : PortHeard s t
  pub refuses : PortRefuses r ap s t

-- no acknowledgement was seen, and the request was lost
pub record PortNoneSeen (seen : ℕ) (s t : Port) : Type 0 where
  pub none : IsPortNoAck seen
  pub due : t.link.due ≡ Lost
  pub asked : t.tally.asked ≡ s.tally.asked + 1
  pub disturbed : t.tally.disturbed ≡ s.tally.disturbed
  pub lost : t.tally.lost ≡ s.tally.lost + 1

-- the result of a request that is answered OK unless it is lost; a lost one had its effect, or no effect
pub data PortOkayOrLost (r : Register) (read : Bool) (seen : ℕ) (s t : Port) : Type 0 where
  okay : PortOkaySeen r read seen s t → PortOkayOrLost r read seen s t
  lost : PortNoneSeen seen s t → PortIgnores s t ⊎ PortAccepts r read None s t → PortOkayOrLost r read seen s t

-- the result of a request that is answered OK or WAIT unless it is lost
pub data PortOkayWaitOrLost (r : Register) (read : Bool) (seen : ℕ) (s t : Port) : Type 0 where
  okay : PortOkaySeen r read seen s t → PortOkayWaitOrLost r read seen s t
  wait : PortWaitSeen r seen s t → PortOkayWaitOrLost r read seen s t
  lost : PortNoneSeen seen s t → PortIgnores s t ⊎ PortAccepts r read None s t → PortOkayWaitOrLost r read seen s t

-- the result of a request that is answered FAULT unless it is lost
pub data PortFaultOrLost (r : Register) (ap : Bool) (seen : ℕ) (s t : Port) : Type 0 where
  fault : PortFaultSeen r ap seen s t → PortFaultOrLost r ap seen s t
  lost : PortNoneSeen seen s t → PortIgnores s t ⊎ PortRefuses r ap s t → PortFaultOrLost r ap seen s t

-- what a request that accesses neither DRW nor an AP register elsewhere keeps, whatever its result: the written
-- registers, STICKYERR, the bus and the pending transfer; and a target that is reset, or live, stays so
pub record PortUnmoved (x y : Target) : Type 0 where
  pub steady : PortSteady x y
  pub sticky_error : y.sticky_error ≡ x.sticky_error
  pub pending : y.pending ≡ x.pending
  pub live : x.reset ≡ Live → y.reset ≡ Live
  pub reset : x.reset ≢ Unreset → y.reset ≢ Unreset
