-- Laws of the parts of a capture: they divide it, and no skip stands beside another.
use Rattle.std.proofs.Common.{◌≡◌, ℕ, zero, suc, ◌-◌, ◌<◌, ◌≤◌, Bool, false, List, [], ◌∷◌, length, take, drop, refl}
use Rattle.std.proofs.Common.{sym, ap, ◌∙◌, subst, arith, inl, inr}
use Rattle.std.proofs.lemmas.List.{take-append-drop, length-drop}
use Rattle.swd_resync.specs.declared.part.Part.{Part}
use Rattle.swd_resync.specs.declared.overrun.Overrun.{Overrun}
use Rattle.swd_resync.specs.declared.part.Part.TheVariants.{Item as Told, Phased, Skip}
use Rattle.swd_resync.specs.Parts.{ResyncPlace, ResyncStep, resync_step, resync_parts, parts_after}
use Rattle.swd_resync.specs.Divisions.{PartsDivide, SkipsApart}
use Rattle.swd_resync.proofs.StepLemmas.{StretchAfterSkip, ResyncSteps, resync_is_skip, resync_step_takes_bits}

-- ---- one part after the other

passed : (over : Overrun) (n : ℕ) (place : ResyncPlace) (bits : List Bool)
    → parts_after over n place bits ≡ resync_parts over place (drop n bits)
unfolding parts_after
passed over zero place bits = refl
passed over (suc n) place [] = refl
passed over (suc n) place (b ∷ bits) = passed over n place bits

-- no bits have no parts, from any place on
pub resync_parts_none : (over : Overrun) (place : ResyncPlace) → resync_parts over place [] ≡ []
unfolding parts_after
resync_parts_none over place = refl

-- a list without its first n elements, at least one, is its tail without n - 1
pub resync_drop_one_less : (n : ℕ) (b : Bool) (bits : List Bool) → 0 < n → drop (n - 1) bits ≡ drop n (b ∷ bits)
resync_drop_one_less zero b bits h = absurd (omega arith)
resync_drop_one_less (suc n) b bits h = ap (λ m. drop m bits) (omega arith)

parts_by : (over : Overrun) (place : ResyncPlace) (b : Bool) (bits : List Bool) →
    resync_parts over place (b ∷ bits) ≡ (resync_step over place (b ∷ bits)).part
    ∷ resync_parts (resync_step over place (b ∷ bits)).over (resync_step over place (b ∷ bits)).after
    (drop ((resync_step over place (b ∷ bits)).taken - 1) bits)
unfolding parts_after
parts_by over place b bits = ap (λ x. (resync_step over place (b ∷ bits)).part ∷ x)
    (passed (resync_step over place (b ∷ bits)).over ((resync_step over place (b ∷ bits)).taken - 1)
    (resync_step over place (b ∷ bits)).after bits)

pub resync_parts_first : (over : Overrun) (place : ResyncPlace) (b : Bool) (bits : List Bool) →
    resync_parts over place (b ∷ bits) ≡ (resync_step over place (b ∷ bits)).part
    ∷ resync_parts (resync_step over place (b ∷ bits)).over (resync_step over place (b ∷ bits)).after
    (drop (resync_step over place (b ∷ bits)).taken (b ∷ bits))
resync_parts_first over place b bits =
    parts_by over place b bits
    ∙ ap (λ x. (resync_step over place (b ∷ bits)).part ∷ resync_parts (resync_step over place (b ∷ bits)).over
    (resync_step over place (b ∷ bits)).after x)
    (resync_drop_one_less (resync_step over place (b ∷ bits)).taken b bits
    (resync_step_takes_bits over place b bits).some)

-- the same, from what a step computes to
pub parts_from_step : (over : Overrun) (place : ResyncPlace) (b : Bool) (bits : List Bool) (s : ResyncStep)
    → resync_step over place (b ∷ bits) ≡ s
    → resync_parts over place (b ∷ bits) ≡ s.part ∷ resync_parts s.over s.after (drop s.taken (b ∷ bits))
parts_from_step over place b bits s e = resync_parts_first over place b bits
    ∙ ap (λ t. t.part ∷ resync_parts t.over t.after (drop t.taken (b ∷ bits))) e

-- ---- every bit is in one part

-- of at most n + 1 bits, at most n are left where at least one is removed
pub resync_fewer_left : (n m : ℕ) (b : Bool) (bits : List Bool) → length (b ∷ bits) ≤ suc n → 0 < m
    → length (drop m (b ∷ bits)) ≤ n
resync_fewer_left n m b bits h k = let l : length (drop m (b ∷ bits)) ≡ length (b ∷ bits) - m =
    length-drop m (b ∷ bits) in
    omega arith

divided : (n : ℕ) (over : Overrun) (place : ResyncPlace) (bits : List Bool) → length bits ≤ n
    → PartsDivide (resync_parts over place bits) bits
divided n over place [] h = subst (λ x. PartsDivide x []) (sym (resync_parts_none over place)) refl
divided zero over place (b ∷ bits) h = absurd (omega arith)
divided (suc n) over place (b ∷ bits) h =
    let s = resync_step over place (b ∷ bits) in
    let r : ResyncSteps (b ∷ bits) s = resync_step_takes_bits over place b bits in
    subst (λ x. PartsDivide x (b ∷ bits)) (sym (resync_parts_first over place b bits)) (
      take s.taken (b ∷ bits),
      drop s.taken (b ∷ bits),
      sym (take-append-drop s.taken (b ∷ bits)),
      r.shows,
      divided n s.over s.after (drop s.taken (b ∷ bits)) (resync_fewer_left n s.taken b bits h r.some),
    )

-- from any place on, the parts of some bits divide them: each bit is in one part, and the parts are in order
pub resync_parts_divide : (over : Overrun) (place : ResyncPlace) (bits : List Bool)
    → PartsDivide (resync_parts over place bits) bits
resync_parts_divide over place bits = divided (length bits) over place bits (omega arith)

-- ---- no skip beside another

-- a skip before a part that isn't one
apart_before : (n : ℕ) (part : Part) (parts : List Part) → resync_is_skip part ≡ false → SkipsApart (part ∷ parts)
    → SkipsApart (Skip n ∷ part ∷ parts)
apart_before n (Told item) parts e h = h
apart_before n (Phased tx) parts e h = h
apart_before n (Skip m) parts e h = absurd cc

-- a skip before what the next step leaves
skip_before_rest : (over : Overrun) (n : ℕ) (after : ResyncPlace) (rest : List Bool)
    → StretchAfterSkip over (Skip n) after rest
    → SkipsApart (resync_parts over after rest) → SkipsApart (Skip n ∷ resync_parts over after rest)
skip_before_rest over n after [] g a =
    subst (λ x. SkipsApart (Skip n ∷ x)) (sym (resync_parts_none over after)) tt
skip_before_rest over n after (b ∷ bits) g a = elim g [
  | inl e ↦ absurd cc
  | inr e ↦
      let first = resync_parts_first over after b bits in
      subst (λ x. SkipsApart (Skip n ∷ x)) (sym first)
      (apart_before n (resync_step over after (b ∷ bits)).part _ e (subst SkipsApart first a))
]

part_before : (over : Overrun) (part : Part) (after : ResyncPlace) (rest : List Bool)
    → StretchAfterSkip over part after rest
    → SkipsApart (resync_parts over after rest) → SkipsApart (part ∷ resync_parts over after rest)
part_before over (Told item) after rest g a = a
part_before over (Phased tx) after rest g a = a
part_before over (Skip n) after rest g a = skip_before_rest over n after rest g a

apart : (n : ℕ) (over : Overrun) (place : ResyncPlace) (bits : List Bool) → length bits ≤ n
    → SkipsApart (resync_parts over place bits)
apart n over place [] h = subst SkipsApart (sym (resync_parts_none over place)) tt
apart zero over place (b ∷ bits) h = absurd (omega arith)
apart (suc n) over place (b ∷ bits) h =
    let s = resync_step over place (b ∷ bits) in
    let r : ResyncSteps (b ∷ bits) s = resync_step_takes_bits over place b bits in
    subst SkipsApart (sym (resync_parts_first over place b bits))
    (part_before s.over s.part s.after (drop s.taken (b ∷ bits)) r.goes
    (apart n s.over s.after (drop s.taken (b ∷ bits)) (resync_fewer_left n s.taken b bits h r.some)))

-- from any place on, no two skips among the parts follow one another
pub skips_never_adjacent : (over : Overrun) (place : ResyncPlace) (bits : List Bool)
    → SkipsApart (resync_parts over place bits)
skips_never_adjacent over place bits = apart (length bits) over place bits (omega arith)
