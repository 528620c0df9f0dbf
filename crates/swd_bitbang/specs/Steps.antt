-- What a character does to the two pins. The characters are OpenOCD's; which of them make a clock is this
-- project's choice.
use Rattle.std.specs.Prelude.{◌≡◌, Bool, true, false, Option, Some, None, if◌then◌else◌}
use Rattle.swd_port.specs.Bus.{Bus}
use Rattle.swd_clocked.specs.Giving.{BufferedCycles}
use Rattle.swd_bitbang.specs.Traces.{PinsTraceKeeps}
use Rattle.swd_sequences.specs.declared.character.Character.{Character}
use Rattle.swd_sequences.specs.declared.character.Character.TheVariants.{Moves, Looks, Drives, Quits}
use Rattle.swd_bitbang.specs.declared.pins.PinReply.{PinReply}
use Rattle.swd_bitbang.specs.declared.pins.PinReply.TheVariants.{Silent, Level, Quit, Bad}
use Rattle.swd_bitbang.specs.declared.pins.Pins.{Pins}

-- the bit that the host drives, if it does
abbrev pub pins_driven : {D A : Type 0} → Pins D A → Option Bool
pins_driven s = if s.drives then Some s.level else None

-- SWCLK falls: this begins a clock, of which no bit was seen
abbrev pub pins_fallen : {D A : Type 0} → Bool → Pins D A → Pins D A
pins_fallen level s = record s { clock = false; level = level; seen = if s.clock then None else s.seen }

-- The cycle of this clock, with its bit. It is made once: at the first sample, or when SWCLK rises.
pub record PinsCyclePasses {D A : Type 0} (bus : D → Bus) (bit : Bool) (s t : Pins D A) : Type 0 where
  pub cycle : BufferedCycles bus (pins_driven s) bit s.target t.target
  pub seen : t.seen ≡ Some bit
  pub clock : t.clock ≡ s.clock
  pub level : t.level ≡ s.level
  pub drives : t.drives ≡ s.drives
  pub trace : PinsTraceKeeps bit s.trace t.trace

abbrev pub PinsShowBy : {D A : Type 0} → (D → Bus) → Option Bool → Bool → Pins D A → Pins D A → Type 0
PinsShowBy bus (Some seen) bit s t = (bit ≡ seen) × (t ≡ s)
PinsShowBy bus None bit s t = PinsCyclePasses bus bit s t

abbrev pub PinsShow : {D A : Type 0} → (D → Bus) → Bool → Pins D A → Pins D A → Type 0
PinsShow bus bit s t = PinsShowBy bus s.seen bit s t

-- The host samples: if it drives, it sees its own level.
abbrev pub PinsSeenBy : {D A : Type 0} → (D → Bus) → Bool → Bool → Pins D A → Pins D A → Type 0
PinsSeenBy bus true bit s t = (bit ≡ s.level) × (t ≡ s)
PinsSeenBy bus false bit s t = PinsShow bus bit s t

-- one character, and its result
abbrev pub PinsStep : {D A : Type 0} → (D → Bus) → Option Character → Pins D A → PinReply → Pins D A → Type 0
PinsStep bus (Some (Moves false level)) s sign t = (sign ≡ Silent) × (t ≡ pins_fallen level s)
PinsStep bus (Some (Moves true level)) s sign t = (sign ≡ Silent)
    × ((bit : Bool) × PinsShow bus bit (record s { clock = true; level = level }) t)
PinsStep bus (Some Looks) s sign t = (bit : Bool) × (sign ≡ Level bit) × PinsSeenBy bus s.drives bit s t
PinsStep bus (Some (Drives drives)) s sign t = (sign ≡ Silent) × (t ≡ record s { drives = drives })
PinsStep bus (Some Quits) s sign t = (sign ≡ Quit) × (t ≡ s)
-- the lamp, the reset lines, waits
PinsStep bus (Some character) s sign t = (sign ≡ Silent) × (t ≡ s)
PinsStep bus None s sign t = (sign ≡ Bad) × (t ≡ s)
