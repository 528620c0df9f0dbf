-- Laws of every call, in any state and under any mark: what is due after it, and the counts of requests.
use Rattle.std.specs.Prelude.{true}
use Rattle.std.specs.Prelude.{ℕ, ◌≡◌, ◌≢◌, ◌<◌, ◌≤◌, ◌+◌, ◌↔◌, Bool, false}
use Rattle.swd_bits.specs.declared.request.Request.{Request}
use Rattle.swd_bits.specs.declared.ack.Ack.{Ack}
use Rattle.swd_bits.specs.Bits.{bit, low_bits, bits_number}
use Rattle.swd_bits.specs.Acks.{bits_of_ack}
use Rattle.swd_port.specs.declared.wire.Due.TheVariants.{Lost}
use Rattle.swd_port.specs.declared.cue.Cue.{Cue}
use Rattle.swd_port.specs.Port.{Port, Seen}
use Rattle.swd_port.specs.Answers.{port_due_after}
use Rattle.swd_port.specs.Asking.{PortAsks}
use Rattle.swd_port.specs.Steps.{IsPortStep, port_due_once, is_port_ask}
use Rattle.swd_port.specs.Outcomes.{IsPortNoAck}

-- what is due after a call follows from the cue and what was seen
abbrev pub PortDueAfterStep : Type 0
PortDueAfterStep = (cue : Cue) (seen : ℕ) (s t : Port) → IsPortStep cue seen s t → t.link.due ≡ port_due_once cue seen

-- the three bits that were seen are an acknowledgement exactly if their number is its number, 1, 2 or 4
abbrev pub PortAckSeen : Type 0
PortAckSeen = (seen : ℕ) (a : Ack) → seen < 8 → (bits_of_ack a ≡ low_bits 3 seen) ↔ (seen ≡ bits_number (bits_of_ack a))

-- with any other number they aren't an acknowledgement, and only a line reset may follow
abbrev pub PortNoAckSeen : Type 0
PortNoAckSeen = (seen : ℕ) (read : Bool) → seen < 8 → ((a : Ack) → bits_of_ack a ≢ low_bits 3 seen) →
    IsPortNoAck seen × (port_due_after read seen ≡ Lost)

-- A request adds one to the count of requests, at most one to that of lost ones, and at most two to that of
-- disturbances: one by its mark, one by a write that is given up before it. What only hosts write is unchanged, and
-- WDATAERR stays set.
pub record PortAsked (s t : Port) : Type 0 where
  pub asked : t.tally.asked ≡ s.tally.asked + 1
  pub disturbed_least : s.tally.disturbed ≤ t.tally.disturbed
  pub disturbed_most : t.tally.disturbed ≤ s.tally.disturbed + 2
  pub lost_least : s.tally.lost ≤ t.tally.lost
  pub lost_most : t.tally.lost ≤ s.tally.lost + 1
  pub write_error : s.target.write_error ≡ true → t.target.write_error ≡ true
  pub debug_power : t.target.debug_power ≡ s.target.debug_power
  pub system_power : t.target.system_power ≡ s.target.system_power
  pub debug_seen : s.target.debug_up ≡ Seen → t.target.debug_up ≡ Seen
  pub system_seen : s.target.system_up ≡ Seen → t.target.system_up ≡ Seen
  pub select : t.target.select ≡ s.target.select
  pub increments : t.target.increments ≡ s.target.increments
  pub identification : t.target.identification ≡ s.target.identification

abbrev pub PortRequestCounted : Type 0
PortRequestCounted = (q : Request) (seen : ℕ) (s t : Port) → PortAsks s q seen t → PortAsked s t

-- no other call changes the counts
abbrev pub PortOthersUncounted : Type 0
PortOthersUncounted = (cue : Cue) (seen : ℕ) (s t : Port) → is_port_ask cue ≡ false → IsPortStep cue seen s t
    → t.tally ≡ s.tally

-- no call changes what DPIDR returns
abbrev pub PortIdentificationKept : Type 0
PortIdentificationKept = (cue : Cue) (seen : ℕ) (s t : Port) → IsPortStep cue seen s t
    → t.target.identification ≡ s.target.identification

-- a state with another count of requests
abbrev pub port_with_asked : ℕ → Port → Port
port_with_asked n s = record s { tally = record s.tally { asked = n } }

-- The steps don't depend on that count: with another count, which each request raises by one, every call is a step
-- again. So a wire that forwards calls conforms to the model with a count of its own.
abbrev pub PortCountedApart : Type 0
PortCountedApart = (n : ℕ) (cue : Cue) (seen : ℕ) (s t : Port) → IsPortStep cue seen s t
    → IsPortStep cue seen (port_with_asked n s) (port_with_asked (n + bit (is_port_ask cue)) t)
