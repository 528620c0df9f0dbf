-- What a probe over a target's clocks does to the target.
use Rattle.std.specs.Prelude.{ℕ, ◌≡◌, ◌+◌, Bool, List, [], ◌++◌, take, Option, is_some, Result, Ok}
use Rattle.swd_port.specs.Bus.{Bus}
use Rattle.swd_bits.specs.Bits.{low_bits, bits_number}
use Rattle.swd_port.specs.declared.outside.Disconnected.{Disconnected}
use Rattle.swd_clocked.specs.declared.marked.FaultyClocked.{FaultyClocked}
use Rattle.swd_clocked.specs.Frames.{cycles_counted, contended_cycle}
use Rattle.swd_clocked.specs.Marked.{marked_clocked_frame, marked_clocked_cycles, marked_clocked_contended}
use Rattle.swd_clocked.specs.Giving.{BufferedCycles}
use Rattle.swd_sequences.specs.declared.sequence.Sequence.{Sequence}
use Rattle.swd_sequences.specs.declared.sequence.Sequence.TheVariants.{Sample}
use Rattle.swd_sequences.specs.Clocks.{sequence_drives}
use Rattle.swd_sequences.specs.Going.{SequenceClocksGoBy}
use Rattle.swd_ends.specs.declared.clocked_probe.ClockedProbe.{ClockedProbe}

-- one cycle of the target: the bit that the host drives, if any, and the level that it sees
pub record ClockedProbeCycle {D A : Type 0} (bus : D → Bus) (drive : Option Bool) (level : Bool)
    (s t : FaultyClocked D A) : Type 0 where
  pub cycle : BufferedCycles bus drive level s t
  pub cycles : marked_clocked_cycles t ≡ cycles_counted 1 (marked_clocked_cycles s)
  pub contended : marked_clocked_contended t ≡ marked_clocked_contended s
      + contended_cycle (marked_clocked_frame s) (is_some drive)

-- successive cycles, each with its level, and the target before and after them
abbrev pub ClockedProbeCycles : {D A : Type 0} → (D → Bus) → List (Option Bool) → List Bool → FaultyClocked D A
    → FaultyClocked D A
    → Type 0
ClockedProbeCycles bus drives levels s t = SequenceClocksGoBy (ClockedProbeCycle bus) drives levels s t

-- the probe's target, and the levels that wait for the next exchange, in order
abbrev pub clocked_probe_target : {D A : Type 0} → ClockedProbe D A → FaultyClocked D A
clocked_probe_target probe = probe.target

abbrev pub clocked_probe_waiting : {D A : Type 0} → ClockedProbe D A → List Bool
clocked_probe_waiting probe = low_bits probe.sampled probe.levels

-- the levels that wait after a sequence during which these were seen: a sample adds its own, up to 64 in all
abbrev pub clocked_probe_waits_after : Sequence → List Bool → List Bool → List Bool
clocked_probe_waits_after (Sample count) levels seen = take 64 (levels ++ seen)
clocked_probe_waits_after sequence levels seen = levels

-- The clocks of a sequence pass, and the levels that it samples wait.
pub record ClockedProbeSequence {D A : Type 0} (bus : D → Bus) (sequence : Sequence)
    (s t : ClockedProbe D A) : Type 0 where
  pub seen : List Bool
  pub clocks : ClockedProbeCycles bus (sequence_drives sequence) seen (clocked_probe_target s) (clocked_probe_target t)
  pub waits : clocked_probe_waiting t ≡ clocked_probe_waits_after sequence (clocked_probe_waiting s) seen

-- these clocks pass, and the waiting levels are unchanged
abbrev pub ClockedProbePasses : {D A : Type 0} → (D → Bus) → List (Option Bool) → ClockedProbe D A → ClockedProbe D A
    → Type 0
ClockedProbePasses bus drives s t = (seen : List Bool)
    × ClockedProbeCycles bus drives seen (clocked_probe_target s) (clocked_probe_target t)
    × (clocked_probe_waiting t ≡ clocked_probe_waiting s)

-- The waiting levels are returned, and no clock passes.
pub record ClockedProbeHandsOut {D A : Type 0} (result : Result ℕ Disconnected) (s t : ClockedProbe D A) : Type 0 where
  pub levels : result ≡ Ok (bits_number (clocked_probe_waiting s))
  pub target : clocked_probe_target t ≡ clocked_probe_target s
  pub waits : clocked_probe_waiting t ≡ []
