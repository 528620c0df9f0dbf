-- Worlds that are joined into one: what the words of the two have to do with its words.
use Rattle.std.specs.Prelude.{ℕ, ◌≡◌, ◌⊎◌, Option, Some, None}
use Rattle.swd_checker.specs.Worlds.{World, Tar, Held, HeldUnknown}
use Rattle.swd_checker.specs.Covering.{IsWorldWider}
use Rattle.swd_checker.specs.Exact.{IsTarExact, IsTarSound, IsHeldSound}
use Rattle.swd_checker.specs.Reaching.{HeldHas}

-- all words of the second are words of the first, unless nothing is known of the first alone
pub record HeldCovers (held other : Held) : Type 0 where
  pub has : (held ≡ HeldUnknown → other ≡ HeldUnknown) → IsHeldSound other → HeldHas held other

-- the same of two worlds but for TAR
pub record WorldCovers (w other : World) : Type 0 where
  pub buffer : HeldCovers w.buffer other.buffer
  pub last_returned : HeldCovers w.last_returned other.last_returned

-- they differ in TAR alone
pub record AreWorldsAlike (w other : World) : Type 0 where
  pub wider : IsWorldWider w other
  pub narrower : IsWorldWider other w
  pub covered : WorldCovers other w

-- exactly the addresses of both
pub record AreTarsUnited (tar other joined : Tar) : Type 0 where
  pub sound : IsTarSound tar → IsTarSound other → IsTarSound joined
  pub each : (at : Option ℕ) → IsTarExact joined at → IsTarExact tar at ⊎ IsTarExact other at

-- the same, if they are joined
abbrev pub AreTarsWhole : Tar → Tar → Option Tar → Type 0
AreTarsWhole tar other None = Unit {0}
AreTarsWhole tar other (Some joined) = AreTarsUnited tar other joined
