-- A host and a target at both ends of a connection: the characters that a host sends for its sequences of
-- clocks, as the pins take them.
use Rattle.std.specs.Prelude.{ℕ, ◌≡◌, ◌≢◌, Bool, List, ◌∷◌, ◌++◌, All, map, Option, Some, None, if◌then◌else◌}
use Rattle.std.specs.Io.KnownBytes.{Appends}
use Rattle.swd_port.specs.Bus.{Bus}
use Rattle.swd_clocked.specs.Giving.{BufferedCycles}
use Rattle.swd_sequences.specs.declared.character.Character.TheVariants.{Quits}
use Rattle.swd_sequences.specs.declared.sequence.Sequence.{Sequence}
use Rattle.swd_sequences.specs.Alphabet.{alphabet_byte, alphabet_character, alphabet_level}
use Rattle.swd_sequences.specs.Clocks.{all_sequence_characters}
use Rattle.swd_sequences.specs.Going.{SequencesGoBy}
use Rattle.swd_bitbang.specs.declared.pins.Pins.{Pins}
use Rattle.swd_bitbang.specs.declared.serving.Served.TheVariants as ends
use Rattle.swd_bitbang.specs.Traces.{PinsTraceKeeps}
use Rattle.swd_bitbang.specs.Sessions.{PinsSession, BitbangEndsAs}

-- the next fall of SWCLK begins a clock: true at first, and after each clock
abbrev pub ArePinsBetweenClocks : {D A : Type 0} → Pins D A → Type 0
ArePinsBetweenClocks s = (if s.clock then None else s.seen) ≡ None

-- One clock between two others: the cycle of the target, in which the host drives this level or none, and the bit on
-- the line, which the trace keeps.
pub record PinsClock {D A : Type 0} (bus : D → Bus) (drive : Option Bool) (bit : Bool) (s t : Pins D A) : Type 0 where
  pub cycle : BufferedCycles bus drive bit s.target t.target
  pub trace : PinsTraceKeeps bit s.trace t.trace
  pub between : ArePinsBetweenClocks t

-- Sequences were performed at the target of these pins, and their sampled levels were returned. The pins are
-- between two clocks again.
pub record PinsWentBy {D A : Type 0} (bus : D → Bus) (sequences : List Sequence) (answers : List ℕ)
    (s t : Pins D A) : Type 0 where
  pub levels : List Bool
  pub goes : SequencesGoBy (BufferedCycles bus) sequences levels s.target t.target
  pub answered : answers ≡ map alphabet_level levels
  pub between : ArePinsBetweenClocks t

-- The characters of sequences are read as these sequences. Each clock is one cycle of the target, in which
-- the host drives what the sequence says. Exactly the sampled levels are returned, in order.
abbrev pub PinsReadSequences : {D : Type 0} → Type 0 → (D → Bus) → Type 0
PinsReadSequences {D} A bus = (sequences : List Sequence) (answers : List ℕ) (s t : Pins D A) → ArePinsBetweenClocks s
    → PinsSession bus (all_sequence_characters s.drives sequences) answers s t → PinsWentBy bus sequences answers s t

-- The same for a host that is served up to its Q: exactly the sampled levels were written.
abbrev pub AreServed : {D : Type 0} → Type 0 → (D → Bus) → Type 0
AreServed {D} A bus = (sequences : List Sequence) (more : List ℕ) (old new : Option (List ℕ)) (s t : Pins D A)
    → ArePinsBetweenClocks s
    → BitbangEndsAs bus ends.Quit old new (all_sequence_characters s.drives sequences ++ alphabet_byte Quits ∷ more) s t
    → (answers : List ℕ) × PinsWentBy bus sequences answers s t × Appends old new answers

-- a character of the protocol that doesn't end the session
abbrev pub KeepsBitbangOpen : ℕ → Type 0
KeepsBitbangOpen byte = (alphabet_character byte ≢ None) × (alphabet_character byte ≢ Some Quits)

-- no character of a sequence ends the session
abbrev pub SequencesKeepBitbangOpen : Type 0
SequencesKeepBitbangOpen = (drives : Bool) (sequences : List Sequence)
    → All KeepsBitbangOpen (all_sequence_characters drives sequences)
