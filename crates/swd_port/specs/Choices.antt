-- What the model leaves open in a call of the wire: the fault injected into a request, and the choices that the
-- standard leaves to a target. All of it is this project's choice.
pub use Rattle.swd_port.specs.declared.mark.Mark.{Mark}
pub use Rattle.swd_port.specs.declared.mark.Mark.TheVariants.{Clean, Wait, Flip, Deaf, Mute}
use Rattle.std.specs.Prelude.{ℕ, ◌≡◌, ◌<◌, ◌^◌, Bool, true, false, Option, Some, None, ◌-◌, bit_xor}

-- the bit is one of the 33 of a data phase, or of the three of an acknowledgement
abbrev pub IsPortMark : Mark → Type 0
IsPortMark (Flip place) = place < 33
IsPortMark (Mute place) = place < 3
IsPortMark _ = Unit {0}

-- WAIT is asked for
abbrev pub is_port_wait : Mark → Bool
is_port_wait Wait = true
is_port_wait _ = false

-- the target doesn't see the request
abbrev pub is_port_deaf : Mark → Bool
is_port_deaf Deaf = true
is_port_deaf _ = false

-- the bit of the data phase that arrives changed
abbrev pub port_flip_of : Mark → Option ℕ
port_flip_of (Flip place) = Some place
port_flip_of _ = None

-- a request whose mark is Wait or Flip is disturbed, whether or not the mark had an effect
abbrev pub port_disturbs : Mark → ℕ
port_disturbs Wait = 1
port_disturbs (Flip place) = 1
port_disturbs _ = 0

-- a request whose mark is Deaf or Mute is lost, whether or not the mark had an effect
abbrev pub port_loses : Mark → ℕ
port_loses Deaf = 1
port_loses (Mute place) = 1
port_loses _ = 0

-- what a target may choose, anew at each use
pub record Choice : Type 0 where
  -- the address that replaces an unknown TAR
  pub address : ℕ
  -- the word that replaces an unknown value
  pub filler : ℕ
  -- the bits that CTRL/STAT and CSW read where the model leaves them open
  pub others : ℕ
  -- the word of a register elsewhere: in another bank of the debug port, another AP or AP bank, or at AP address 8
  pub elsewhere : ℕ
  -- whether an access of an AP register elsewhere is a bus error
  pub refuses : Bool
  -- whether debug power and system power are found not acknowledged yet
  pub debug_late : Bool
  pub system_late : Bool

-- the address and the words are below 2^32
pub record IsPortChoice (c : Choice) : Type 0 where
  pub address : c.address < 2 ^ 32
  pub filler : c.filler < 2 ^ 32
  pub others : c.others < 2 ^ 32
  pub elsewhere : c.elsewhere < 2 ^ 32

-- power is found late at a Wait mark alone, each for itself (this project's choice)
abbrev pub PortMayBeLate : Mark → Choice → Type 0
PortMayBeLate mark c = is_port_wait mark ≡ false → (c.debug_late ≡ false) × (c.system_late ≡ false)

-- a phase as the other side receives it, with this bit changed, if any
abbrev pub port_flipped : Option ℕ → ℕ → ℕ
port_flipped None sent = sent
port_flipped (Some place) sent = bit_xor sent (2 ^ place)

-- the bits of a data phase that nobody drives: ones (this project's choice)
abbrev pub port_undriven : ℕ
port_undriven = 2 ^ 33 - 1
