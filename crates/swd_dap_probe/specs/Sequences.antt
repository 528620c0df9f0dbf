-- DAP_SWJ_Sequence and DAP_SWD_Sequence: the sequences of clocks that a request asks for, and the bytes of their
-- levels.
use Rattle.std.specs.Prelude.{ℕ, zero, suc, ◌≡◌, ◌+◌, ◌/◌, ◌%◌, ◌^◌, ◌==◌, Bool, List, [], ◌∷◌, ◌++◌, length, map}
use Rattle.std.specs.Prelude.{drop, replicate, slice_index, if◌then◌else◌, Option, Some, None}
use Rattle.swd_sequences.specs.Going.{SequenceClock, SequenceClocksGoBy}
use Rattle.swd_dap.specs.Sequences.{dap_bytes_of}
use Rattle.swd_dap_probe.specs.declared.shape.Items.TheVariants.{Sequences}
use Rattle.swd_dap_probe.specs.Shapes.{dap_clocks, dap_samples, dap_bytes_for, dap_item_shape}

-- one sequence: the bits that are driven, or how many levels are sampled
pub data DapSequence : Type 0 where
  Drives : List Bool → DapSequence
  Samples : ℕ → DapSequence

-- so many bits of these bytes from a place on: the first in time is bit 0 of the first byte
abbrev pub dap_bits : List ℕ → ℕ → ℕ → List Bool
dap_bits bytes place zero = []
dap_bits bytes place (suc n) = (slice_index bytes (place / 8) / 2 ^ (place % 8) % 2 == 1) ∷ dap_bits bytes (place + 1) n

-- the sequence at the head of these bytes
abbrev pub dap_sequence_at : List ℕ → DapSequence
dap_sequence_at bytes =
    let clocks = dap_clocks (slice_index bytes 0) in
    if dap_samples (slice_index bytes 0) then Samples clocks else Drives (dap_bits (drop 1 bytes) 0 clocks)

-- so many sequences, one after the other
abbrev pub dap_sequences : ℕ → List ℕ → List DapSequence
dap_sequences zero bytes = []
dap_sequences (suc n) bytes =
    dap_sequence_at bytes ∷ dap_sequences n (drop (dap_item_shape Sequences bytes).request bytes)

-- what is driven in each clock of a sequence, if a bit is
abbrev pub dap_sequence_drives : DapSequence → List (Option Bool)
dap_sequence_drives (Drives bits) = map Some bits
dap_sequence_drives (Samples count) = replicate count None

-- levels in whole bytes, the first in time least significant, and the bits above the last one 0
abbrev pub dap_level_bytes : List Bool → List ℕ
dap_level_bytes levels = dap_bytes_of (dap_bytes_for (length levels)) levels

-- what is told of a sequence during which these levels were seen
abbrev pub dap_sequence_told : DapSequence → List Bool → List ℕ
dap_sequence_told (Drives bits) levels = []
dap_sequence_told (Samples count) levels = dap_level_bytes levels

-- The clocks of these sequences go by, one after the other, and these bytes are told of the levels.
abbrev pub DapSequencesGo : {L : Type 0} → SequenceClock L → List DapSequence → List ℕ → L → L → Type 0
DapSequencesGo clock [] told s t = (told ≡ []) × (t ≡ s)
DapSequencesGo {L} clock (q ∷ more) told s t = (m : L) × (levels : List Bool) × (rest : List ℕ)
    × SequenceClocksGoBy clock (dap_sequence_drives q) levels s m × DapSequencesGo clock more rest m t
    × (told ≡ dap_sequence_told q levels ++ rest)

-- Levels are sampled, and their bytes appended.
pub record DapLevelsSampled {L : Type 0} (clock : SequenceClock L) (count : ℕ) (before after : List ℕ) (s t : L) :
    Type 0 where
  pub levels : List Bool
  pub long : length levels ≡ count
  pub goes : SequenceClocksGoBy clock (replicate count None) levels s t
  pub told : after ≡ before ++ dap_level_bytes levels

-- A sequence goes by, and what is told of it is appended.
pub record DapSequenceGoes {L : Type 0} (clock : SequenceClock L) (sequence : DapSequence) (before after : List ℕ)
    (s t : L) : Type 0 where
  pub levels : List Bool
  pub goes : SequenceClocksGoBy clock (dap_sequence_drives sequence) levels s t
  pub told : after ≡ before ++ dap_sequence_told sequence levels
