-- Laws of the parts that are drawn.
use Rattle.std.proofs.Common.{◌≡◌, ℕ, ◌+◌, ◌-◌, ◌<◌, ◌≤◌, ◌^◌, List, [], ◌∷◌, ◌++◌, length, take, min, sym, ap, ◌∙◌}
use Rattle.std.proofs.Common.{arith}
use Rattle.std.proofs.lemmas.List.{length-append, length-set, length-take, take-append-drop}
use Rattle.std.proofs.lemmas.List.{take-append-le, take_all, take_more_set}
use Rattle.std.specs.Prelude.{slice_set, drop}
use Rattle.swd_resync.specs.declared.part.Part.{Part}
use Rattle.swd_draw.specs.Drawings.{drawing_left_out, drawn}
use Rattle.swd_draw.specs.Collecting.{KeepsDrawnFirst}

-- one part more
longer : (parts : List Part) (part : Part) → length (parts ++ part ∷ []) ≡ length parts + 1
longer parts part = length-append parts (part ∷ [])

-- a part is given that isn't drawn
pub drawn_kept_full : (most : ℕ) (parts kept : List Part) (room count left_out : ℕ) (part : Part) → room ≤ count
    → KeepsDrawnFirst most parts kept room count left_out
    → KeepsDrawnFirst most (parts ++ part ∷ []) kept room count (min (left_out + 1) (2 ^ 64 - 1))
drawn_kept_full most parts kept room count left_out part full h =
    let more = longer parts part in
    let fits : most ≤ length parts = omega (arith, h.limit, h.number) in
    record {
      size = h.size;
      limit = h.limit;
      first = h.first ∙ sym (take-append-le most parts (part ∷ []) fits);
      number = omega (arith, h.limit, h.number);
      others = omega (arith, h.others);
    }

-- a part is given that is drawn
pub drawn_kept_more : (most : ℕ) (parts kept : List Part) (room count left_out : ℕ) (part : Part) → count < room
    → room ≤ 1000 → KeepsDrawnFirst most parts kept room count left_out
    → KeepsDrawnFirst most (parts ++ part ∷ []) (slice_set kept count part) room (count + 1) left_out
drawn_kept_more most parts kept room count left_out part some within h =
    let more = longer parts part in
    let at : count < length kept = omega (arith, h.size) in
    let all : take count kept ≡ parts = h.first ∙ take_all most parts (omega (arith, h.limit, h.number)) in
    record {
      size = length-set _ _ _ ∙ h.size;
      limit = h.limit;
      first = take_more_set kept count part at ∙ ap (λ x. x ++ part ∷ []) all
          ∙ sym (take_all most (parts ++ part ∷ []) (omega (arith, h.limit, h.number)));
      number = omega (arith, h.limit, h.number);
      others = omega (arith, h.others, h.limit, h.number);
    }

-- what is drawn is a front
pub drawn_front : (most : ℕ) (parts : List Part) → (rest : List Part) × (parts ≡ drawn most parts ++ rest)
drawn_front most parts = (drop most parts, sym (take-append-drop most parts))

-- of so many parts at most
pub drawn_few : (most : ℕ) (parts : List Part) → length (drawn most parts) ≤ most
drawn_few most parts = let h = length-take most parts in omega arith

-- each part is drawn or left out
pub drawn_or_left_out : (most : ℕ) (parts : List Part) → length parts < 2 ^ 64
    → length (drawn most parts) + drawing_left_out most parts ≡ length parts
drawn_or_left_out most parts few = let h = length-take most parts in omega arith

-- and all are drawn where none is left out
pub drawn_all : (most : ℕ) (parts : List Part) → drawing_left_out most parts ≡ 0 → drawn most parts ≡ parts
drawn_all most parts none = take_all most parts (omega arith)
