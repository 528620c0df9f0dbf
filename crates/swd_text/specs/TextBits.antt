-- Which bits a trace text has, and why a text is invalid.
use Rattle.std.specs.Prelude.{◌≡◌, ℕ, ◌+◌, ◌-◌, ◌^◌, ◌<◌, ◌⊎◌, min, Bool, List, length, take, Some}
use Rattle.swd_bits.specs.TraceText.{scan_bits_of_text}
use Rattle.swd_bits.specs.One.{IsFirstBadScanByte}
use Rattle.swd_text.specs.declared.fault.TextFault.{TextFault}
use Rattle.swd_text.specs.declared.fault.TextFault.TheVariants.{BadChar, TooLong}

-- the text has these bits, fewer than 2^64
pub record TextHasBits (text : List ℕ) (bits : List Bool) : Type 0 where
  pub has : scan_bits_of_text text ≡ Some bits
  pub counted : length bits < 2 ^ 64

-- the byte at this place is the first bad one, and these are the bits before it
pub record TextStopsAtBad (told : ℕ) (bits : List Bool) (text : List ℕ) : Type 0 where
  pub place : ℕ
  pub tells : told ≡ min place (2 ^ 64 - 1)
  pub bad : IsFirstBadScanByte text place
  pub before : TextHasBits (take place text) bits

-- with the byte at this place the text has one bit more than 2^64 - 1, and these are the bits before it
pub record TextStopsAtLong (bits : List Bool) (text : List ℕ) : Type 0 where
  pub place : ℕ
  pub all : List Bool
  pub has : scan_bits_of_text (take (place + 1) text) ≡ Some all
  pub long : length all ≡ 2 ^ 64
  pub before : TextHasBits (take place text) bits

-- the text is invalid at some byte, and these are the bits before it
abbrev pub TextStopsWith : TextFault → List Bool → List ℕ → Type 0
TextStopsWith (BadChar told) bits text = TextStopsAtBad told bits text
TextStopsWith TooLong bits text = TextStopsAtLong bits text

-- of the bits of a text this holds
abbrev pub TextBitsAre : (List Bool → Type 0) → List ℕ → Type 0
TextBitsAre Holds text = (bits : List Bool) × TextHasBits text bits × Holds bits

-- the text is invalid at some byte, and of the bits before it this holds
abbrev pub TextBitsBefore : (List Bool → Type 0) → TextFault → List ℕ → Type 0
TextBitsBefore Holds fault text = (bits : List Bool) × TextStopsWith fault bits text × Holds bits

-- of the bits of what was read of a text, or if it is invalid, of those before its first invalid byte, this holds
abbrev pub TextBitsSoFar : (List Bool → Type 0) → List ℕ → Type 0
TextBitsSoFar Holds text = TextBitsAre Holds text ⊎ ((fault : TextFault) × TextBitsBefore Holds fault text)
