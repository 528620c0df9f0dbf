-- Packets of a CMSIS-DAP host, each with its length before it, as a probe takes them that moves the pins of a target.
-- That a length stands before a packet is this project's choice.
use Rattle.std.specs.Prelude.{ℕ, ◌≡◌, ◌+◌, ◌-◌, ◌*◌, ◌^◌, ◌<◌, ◌≤◌, min, max, not, ◌==◌}
use Rattle.std.specs.Prelude.{Bool, List, [], ◌∷◌, ◌++◌, length, drop, Option}
use Rattle.std.specs.Int.{w16, to_le_bytes}
use Rattle.swd_port.specs.Bus.{Bus}
use Rattle.swd_bitbang.specs.declared.pins.Pins.{Pins}
use Rattle.swd_bitbang.specs.declared.serving.Served.{Served}
use Rattle.swd_bitbang.specs.declared.serving.Served.TheVariants as ends
use Rattle.swd_bitbang.specs.Lines.{ArePinsBetweenClocks, PinsClock}
use Rattle.swd_bitbang.specs.Protocols.{ProtocolServes}
use Rattle.swd_bitbang.specs.Watching.{PinsReach}
use Rattle.swd_dap_probe.specs.Packets.{DapTakes, IsDapBegun, processor_line}
use Rattle.swd_packets.specs.declared.line.PinsLine.{PinsLine}
use Rattle.swd_packets.specs.declared.packets.SimulatedProbe.{SimulatedProbe}

-- THE LINE

-- one clock, as characters make it: between two others it is a cycle of the target
pub record PinsLineClock {D A : Type 0} (bus : D → Bus) (drive : Option Bool) (level : Bool) (s t : PinsLine D A) :
    Type 0 where
  pub made : ArePinsBetweenClocks s.pins → PinsClock bus drive level s.pins t.pins
  pub reached : PinsReach bus s.pins t.pins

-- nRESET is connected to nothing
abbrev pub PinsLineResets : {D A : Type 0} → Bool → PinsLine D A → PinsLine D A → Type 0
PinsLineResets level s t = t ≡ s

-- PACKETS

-- how many bytes a packet has with its length, which comes first, the less significant byte before the other
abbrev pub packet_frame : List ℕ → ℕ
packet_frame [] = 2
packet_frame (low ∷ []) = 2
packet_frame (low ∷ high ∷ rest) = 2 + (low + 256 * high)

-- a reply behind its length; where there is none, nothing
abbrev pub packet_told : List ℕ → List ℕ
packet_told [] = []
packet_told (byte ∷ rest) = to_le_bytes w16 (length (byte ∷ rest)) ++ byte ∷ rest

abbrev pub pins_of_line : {D A : Type 0} → PinsLine D A → Pins D A
pins_of_line line = line.pins

abbrev pub packets_pins : {D A : Type 0} → SimulatedProbe D A → Pins D A
packets_pins packets = (processor_line packets.probe).pins

-- a packet is performed or refused, and the next one begins
pub record PacketsPerform {D A : Type 0} (bus : D → Bus) (packet told : List ℕ) (s t : SimulatedProbe D A)
    : Type 0 where
  pub takes : DapTakes (PinsLineClock bus) PinsLineResets packet told s.probe t.probe
  pub next : t.frame.items ≡ []

-- One byte: it is kept, or makes a packet whole, whose reply is returned.
pub data PacketsStep {D A : Type 0} (bus : D → Bus) (byte : ℕ) (answers : List ℕ) (s t : SimulatedProbe D A)
    : Type 0 where
  keeps : length (s.frame.items ++ byte ∷ []) < packet_frame (s.frame.items ++ byte ∷ [])
      → t.frame.items ≡ s.frame.items ++ byte ∷ [] → t.probe ≡ s.probe → answers ≡ []
      → PacketsStep bus byte answers s t
  completes : packet_frame (s.frame.items ++ byte ∷ []) ≤ length (s.frame.items ++ byte ∷ []) → (told : List ℕ)
      → PacketsPerform bus (drop 2 (s.frame.items ++ byte ∷ [])) told s t → answers ≡ packet_told told
      → PacketsStep bus byte answers s t

-- a byte after which a packet would have more than 512 bytes, at its position
pub record IsPacketsBad {D A : Type 0} (place which : ℕ) (s : SimulatedProbe D A) (taken : List ℕ) (byte : ℕ)
    : Type 0 where
  pub long : 514 < max (length (s.frame.items ++ byte ∷ [])) (packet_frame (s.frame.items ++ byte ∷ []))
  pub which_is : which ≡ byte
  pub place_is : place ≡ min (length taken) (2 ^ 64 - 1)

-- some bytes of a packet, or of its length, are missing
abbrev pub is_packet_cut_off : {D A : Type 0} → SimulatedProbe D A → Bool
is_packet_cut_off probe = not (length probe.frame.items == 0)

-- why a byte ends a session
abbrev pub IsPacketsEnd : {D A : Type 0} → Served → SimulatedProbe D A → List ℕ → ℕ → Type 0
IsPacketsEnd (ends.Bad place which) s taken byte = IsPacketsBad place which s taken byte
IsPacketsEnd served s taken byte = ⊥

-- a probe before its first packet, at these pins
pub record IsPacketsAtRest {D A : Type 0} (pins : Pins D A) (size : ℕ) (packets : SimulatedProbe D A) : Type 0 where
  pub over : packets_pins packets ≡ pins
  pub begun : IsDapBegun (processor_line packets.probe) (min (max size 64) 512) packets.probe
  pub empty : packets.frame.items ≡ []

-- what a session says of the reader's input, of the writer, and of the probe
abbrev pub PacketsServe : {D A : Type 0} → (D → Bus) → Served → Option (List ℕ) → Option (List ℕ) → Option (List ℕ)
    → Option (List ℕ) → SimulatedProbe D A → SimulatedProbe D A → Type 0
PacketsServe bus served text left old new s t =
    ProtocolServes (PacketsStep bus) IsPacketsEnd served text left old new s t
