-- Levels that are sampled, and what holds of a line however it is moved.
use Rattle.std.specs.Prelude.{ℕ, ◌≡◌, Bool, List, Option, None, length, replicate}
use Rattle.swd_bits.specs.Bits.{bits_number}
use Rattle.swd_sequences.specs.Going.{SequenceClock, SequenceClocksGoBy}

-- clocks in which the line is released, and the number of their levels, the first in time least significant
pub record DapSampled {L : Type 0} (clock : SequenceClock L) (count number : ℕ) (s t : L) : Type 0 where
  pub levels : List Bool
  pub long : length levels ≡ count
  pub goes : SequenceClocksGoBy clock (replicate count None) levels s t
  pub is : number ≡ bits_number levels

-- What holds of a line at two times, however clocks and nRESET move it between them.
pub record IsDapMotion {L : Type 0} (clock : SequenceClock L) (resets : Bool → L → L → Type 0) (R : L → L → Type 0) :
    Type 0 where
  pub stays : (s : L) → R s s
  pub goes_on : (s m t : L) → R s m → R m t → R s t
  pub clocked : (drive : Option Bool) (level : Bool) (s t : L) → clock drive level s t → R s t
  pub reset : (level : Bool) (s t : L) → resets level s t → R s t
