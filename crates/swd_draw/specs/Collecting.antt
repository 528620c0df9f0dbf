-- What is kept of the parts of a text.
use Rattle.std.specs.Prelude.{◌≡◌, ℕ, List, length, min, take}
use Rattle.swd_resync.specs.declared.part.Part.{Part}
use Rattle.swd_draw.specs.Drawings.{drawing_left_out, drawn}
use Rattle.swd_draw.specs.declared.kept.DrawnParts.{DrawnParts}

-- the parts that are kept
abbrev pub drawn_kept_parts : DrawnParts → List Part
drawn_kept_parts k = take k.count k.parts

-- of these parts those that are drawn, `most` at most, are the first `count` of `kept`, and the others were counted
pub record KeepsDrawnFirst (most : ℕ) (parts kept : List Part) (room count left_out : ℕ) : Type 0 where
  pub size : length kept ≡ 1000
  pub limit : room ≡ most
  pub first : take count kept ≡ drawn most parts
  pub number : count ≡ min most (length parts)
  pub others : left_out ≡ drawing_left_out most parts

-- it was given these parts, keeps those that are drawn, and counts the others
abbrev pub KeepsDrawn : ℕ → List Part → DrawnParts → Type 0
KeepsDrawn most parts k = KeepsDrawnFirst most parts k.parts k.most k.count k.left_out

-- the same as a sink that writes nothing, and that never stops
abbrev pub DrawnHasTaken : ℕ → DrawnParts × Unit {0} → List Part → Type 0
DrawnHasTaken most state parts = KeepsDrawn most parts state.0

abbrev pub drawing_never_stops : DrawnParts × Unit {0} → ℕ → DrawnParts × Unit {0} → Type 0
drawing_never_stops before told now = ⊥
