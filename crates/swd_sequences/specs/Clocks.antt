-- Sequences of clocks: what the host drives in each clock, and their characters in the remote_bitbang
-- protocol. Where in a clock the host samples is this project's choice.
use Rattle.std.specs.Prelude.{ℕ, Bool, true, false, List, [], ◌∷◌, ◌++◌, map, replicate, Option, Some, None}
use Rattle.swd_bits.specs.Bits.{low_bits}
use Rattle.swd_sequences.specs.declared.character.Character.TheVariants.{Moves, Looks, Drives}
use Rattle.swd_sequences.specs.declared.sequence.Sequence.{Sequence}
use Rattle.swd_sequences.specs.declared.sequence.Sequence.TheVariants.{Drive, Hold, Release, Sample}
use Rattle.swd_sequences.specs.Alphabet.{alphabet_byte, alphabet_level}

-- what the host drives in each clock, if it drives
abbrev pub sequence_drives : Sequence → List (Option Bool)
sequence_drives (Drive bits count) = map Some (low_bits count bits)
sequence_drives (Hold level count) = replicate count (Some level)
sequence_drives (Release count) = replicate count None
sequence_drives (Sample count) = replicate count None

-- SWCLK falls and rises; SWDIO has this level if the host drives: d f for 0, e g for 1
abbrev pub sequence_driven_clock : Bool → List ℕ
sequence_driven_clock level = alphabet_byte (Moves false level) ∷ alphabet_byte (Moves true level) ∷ []

-- a clock that is sampled while SWCLK is low: d c f
abbrev pub sequence_sampled_clock : List ℕ
sequence_sampled_clock = alphabet_byte (Moves false false) ∷ alphabet_byte Looks ∷ alphabet_byte (Moves true false) ∷ []

-- clocks one after the other
abbrev pub sequence_joined : List (List ℕ) → List ℕ
sequence_joined [] = []
sequence_joined (clock ∷ more) = clock ++ sequence_joined more

-- the host drives or releases SWDIO from here on, if it didn't do so before
abbrev pub sequence_turn : Bool → Bool → List ℕ
sequence_turn false true = alphabet_byte (Drives true) ∷ []
sequence_turn true false = alphabet_byte (Drives false) ∷ []
sequence_turn drives wanted = []

-- whether the host drives
abbrev pub is_driven_sequence : Sequence → Bool
is_driven_sequence (Drive bits count) = true
is_driven_sequence (Hold level count) = true
is_driven_sequence (Release count) = false
is_driven_sequence (Sample count) = false

-- the clocks of a sequence; where nobody drives or samples, those of a 0
abbrev pub sequence_clocks : Sequence → List ℕ
sequence_clocks (Drive bits count) = sequence_joined (map sequence_driven_clock (low_bits count bits))
sequence_clocks (Hold level count) = sequence_joined (replicate count (sequence_driven_clock level))
sequence_clocks (Release count) = sequence_joined (replicate count (sequence_driven_clock false))
sequence_clocks (Sample count) = sequence_joined (replicate count sequence_sampled_clock)

-- the characters of a sequence, after the host drove or not
abbrev pub sequence_characters : Bool → Sequence → List ℕ
sequence_characters drives sequence = sequence_turn drives (is_driven_sequence sequence) ++ sequence_clocks sequence

-- and those of sequences one after the other
abbrev pub all_sequence_characters : Bool → List Sequence → List ℕ
all_sequence_characters drives [] = []
all_sequence_characters drives (sequence ∷ more) =
    sequence_characters drives sequence ++ all_sequence_characters (is_driven_sequence sequence) more

-- how many levels a sequence asks for
abbrev pub sequence_looks : Sequence → ℕ
sequence_looks (Sample count) = count
sequence_looks sequence = 0

-- `count` levels; in their number the first one is least significant
abbrev pub sequence_levels : ℕ → ℕ → List ℕ
sequence_levels count number = map alphabet_level (low_bits count number)
