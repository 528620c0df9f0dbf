-- Sequences of clocks as a target performs them, whatever a clock does to it.
use Rattle.std.specs.Prelude.{◌≡◌, Bool, List, [], ◌∷◌, ◌++◌, Option}
use Rattle.swd_sequences.specs.declared.sequence.Sequence.{Sequence}
use Rattle.swd_sequences.specs.declared.sequence.Sequence.TheVariants.{Sample}
use Rattle.swd_sequences.specs.Clocks.{sequence_drives}

-- what one clock does: what the host drives, if it drives, the level that it sees, and the target before and
-- after
abbrev pub SequenceClock : Type 0 → Type 1
SequenceClock T = Option Bool → Bool → T → T → Type 0

-- clocks one after the other, each with its level
abbrev pub SequenceClocksGoBy : {T : Type 0} → SequenceClock T → List (Option Bool) → List Bool → T → T → Type 0
SequenceClocksGoBy clock [] [] s t = t ≡ s
SequenceClocksGoBy clock [] (level ∷ levels) s t = ⊥
SequenceClocksGoBy clock (drive ∷ drives) [] s t = ⊥
SequenceClocksGoBy {T} clock (drive ∷ drives) (level ∷ levels) s t =
    (m : T) × clock drive level s m × SequenceClocksGoBy clock drives levels m t

-- the levels of a sequence that the host sampled
abbrev pub sequence_sampled : Sequence → List Bool → List Bool
sequence_sampled (Sample count) seen = seen
sequence_sampled sequence seen = []

-- The clocks of a sequence are performed, and these levels are sampled.
pub record SequenceGoesBy {T : Type 0} (clock : SequenceClock T) (sequence : Sequence) (levels : List Bool) (s t : T) :
    Type 0 where
  pub seen : List Bool
  pub clocks : SequenceClocksGoBy clock (sequence_drives sequence) seen s t
  pub samples : levels ≡ sequence_sampled sequence seen

-- sequences one after the other
abbrev pub SequencesGoBy : {T : Type 0} → SequenceClock T → List Sequence → List Bool → T → T → Type 0
SequencesGoBy clock [] levels s t = (levels ≡ []) × (t ≡ s)
SequencesGoBy {T} clock (sequence ∷ more) levels s t = (m : T) × (first : List Bool) × (rest : List Bool)
    × SequenceGoesBy clock sequence first s m × SequencesGoBy clock more rest m t × (levels ≡ first ++ rest)
