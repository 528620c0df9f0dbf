-- The lowest address that two ranges have.
use Rattle.std.proofs.Common.{◌≡◌, ℕ, ◌+◌, ◌<◌, ◌≤◌, List, [], ◌∷◌, ◌⊎◌, cond, ap, refl, sym, ◌∙◌, arith, suc, All}
use Rattle.std.proofs.Common.{Some, None, inl, inr, length, get_or, subst, ap₂}
use Rattle.std.proofs.lemmas.Bool.{cases_lt, lt-ltb, le-ltb, le-leb, lt-leb}
use Rattle.std.proofs.lemmas.List.Elements.{All-head, All-tail}
use Rattle.std.proofs.lemmas.List.Sums.{sum_by-cons}
use Rattle.std.proofs.lemmas.List.Sorted.{sum_by-IsPermutation}
use Rattle.std.specs.Prelude.{nat_lt, ◌&&◌, MatchOption, Option}
use Rattle.std.specs.List.Sorted.{IsNonDecreasingBy, IsPermutation}
use Rattle.swd_image_files.specs.declared.image.Range.{Range}
use Rattle.swd_image_files.specs.Overlaps.{AreImageRangesApart, IsLowestImageOverlap, IsSoundImageRange}
use Rattle.swd_image_files.specs.Overlaps.{first_image_overlap_from, image_range_has, image_range_times}

-- the ranges begin at ever higher addresses, the first one at `low` or above
abbrev pub ImageFileRangesRise : ℕ → List Range → Type 0
ImageFileRangesRise low [] = Unit {0}
ImageFileRangesRise low (range ∷ ranges) = (low ≤ range.addr) × ImageFileRangesRise range.addr ranges

has_one : (at : ℕ) (r : Range) → r.addr ≤ at → at < r.addr + r.len → image_range_has at r ≡ 1
has_one at r low high =
    ap₂ (λ a b. cond (a && b) 1 0) (le-leb r.addr at low) (lt-ltb at (r.addr + r.len) high)

has_none_below : (at : ℕ) (r : Range) → at < r.addr → image_range_has at r ≡ 0
has_none_below at r low = ap (λ a. cond (a && nat_lt at (r.addr + r.len)) 1 0) (lt-leb r.addr at low)

has_at_most : (at : ℕ) (r : Range) → (image_range_has at r ≡ 0) ⊎ (image_range_has at r ≡ 1) × (at < r.addr + r.len)
has_at_most at r =
    let low = cases_lt at r.addr in
    let high = cases_lt at (r.addr + r.len) in
    elim low [
      | inl below ↦ inl (has_none_below at r below)
      | inr above ↦ elim high [
        | inl within ↦ inr (has_one at r above within, within)
        | inr past ↦ inl (ap₂ (λ a b. cond (a && b) 1 0) (le-leb r.addr at above) (le-ltb at (r.addr + r.len) past))
      ]
    ]

times_cons : (at : ℕ) (r : Range) (rs : List Range)
    → image_range_times (r ∷ rs) at ≡ image_range_has at r + image_range_times rs at
times_cons at r rs = sum_by-cons (image_range_has at) r rs

none_below : (low at : ℕ) (rs : List Range) → ImageFileRangesRise low rs → at < low → image_range_times rs at ≡ 0
none_below low at [] rise below = refl
none_below low at (r ∷ rs) rise below =
    let e = times_cons at r rs in
    let h = has_none_below at r (omega (arith, rise.0)) in
    let t = none_below r.addr at rs rise.1 (omega (arith, rise.0)) in
    omega (arith, e, h, t)

-- no range begins before the end of the one before it
record Apart (end at : ℕ) (rs : List Range) : Type 0 where
  below : at < end → image_range_times rs at ≡ 0
  once : image_range_times rs at ≤ 1

apart_cons : (end at : ℕ) (r : Range) (rs : List Range) → end ≤ r.addr → Apart (r.addr + r.len) at rs
    → Apart end at (r ∷ rs)
apart_cons end at r rs past rest =
    let e = times_cons at r rs in
    record {
      below = λ below.
          let h = has_none_below at r (omega arith) in
          let t = rest.below (omega arith) in
          omega (arith, e, h, t);
      once = elim (has_at_most at r) [
        | inl none ↦ (let o = rest.once in omega (arith, e, none, o))
        | inr one ↦ (let t = rest.below one.1 in let h = one.0 in omega (arith, e, h, t))
      ];
    }

none_apart : (end at : ℕ) (rs : List Range) → first_image_overlap_from end rs ≡ None → Apart end at rs
none_apart end at [] none = record { below = λ below. refl; once = omega arith }
none_apart end at (r ∷ rs) none = elim (cases_lt r.addr end) [
  | inl before ↦ (
      let found : first_image_overlap_from end (r ∷ rs) ≡ Some r.addr =
      ap (λ b. cond b (Some r.addr) (first_image_overlap_from (r.addr + r.len) rs)) (lt-ltb r.addr end before) in
      absurd cc)
  | inr past ↦ (
      let skips : first_image_overlap_from end (r ∷ rs) ≡ first_image_overlap_from (r.addr + r.len) rs =
      ap (λ b. cond b (Some r.addr) (first_image_overlap_from (r.addr + r.len) rs)) (le-ltb r.addr end past) in
      apart_cons end at r rs past (none_apart (r.addr + r.len) at rs (sym skips ∙ none)))
]

-- the first range that begins before the end of the one before it does so at `x`
record Found (low end x : ℕ) (rs : List Range) : Type 0 where
  above : low ≤ x
  before : (at : ℕ) → at < x → Apart end at rs
  here : (x < end) × (1 ≤ image_range_times rs x) ⊎ (2 ≤ image_range_times rs x)

found_first : (low end : ℕ) (r : Range) (rs : List Range) → ImageFileRangesRise low (r ∷ rs) → IsSoundImageRange r
    → r.addr < end → Found low end r.addr (r ∷ rs)
found_first low end r rs rise sound before = record {
  above = rise.0;
  before = λ at below.
      let e = times_cons at r rs in
      let h = has_none_below at r below in
      let t = none_below r.addr at rs rise.1 below in
      record { below = λ b. omega (arith, e, h, t); once = omega (arith, e, h, t) };
  here =
      let e = times_cons r.addr r rs in
      let s = sound.some in
      let h = has_one r.addr r (omega arith) (omega arith) in
      inl (before, omega (arith, e, h));
}

found_later : (low end x : ℕ) (r : Range) (rs : List Range) → ImageFileRangesRise low (r ∷ rs) → end ≤ r.addr
    → Found r.addr (r.addr + r.len) x rs → Found low end x (r ∷ rs)
found_later low end x r rs rise past rest = record {
  above = (let a = rest.above in omega (arith, a, rise.0));
  before = λ at below. apart_cons end at r rs past (rest.before at below);
  here =
      let e = times_cons x r rs in
      elim rest.here [
        | inl within ↦ (
            let w = within.0 in
            let o = within.1 in
            let h = has_one x r rest.above within.0 in
            inr (omega (arith, e, h, o)))
        | inr twice ↦ inr (omega (arith, e, twice))
      ];
}

some_found : (low end x : ℕ) (rs : List Range) → ImageFileRangesRise low rs → All IsSoundImageRange rs
    → first_image_overlap_from end rs ≡ Some x → Found low end x rs
some_found low end x [] rise sound some = absurd cc
some_found low end x (r ∷ rs) rise sound some = elim (cases_lt r.addr end) [
  | inl before ↦ (
      let found : first_image_overlap_from end (r ∷ rs) ≡ Some r.addr =
      ap (λ b. cond b (Some r.addr) (first_image_overlap_from (r.addr + r.len) rs)) (lt-ltb r.addr end before) in
      let e : r.addr ≡ x = cc in
      subst (λ y. Found low end y (r ∷ rs)) e
      (found_first low end r rs rise (All-head IsSoundImageRange r rs sound) before))
  | inr past ↦ (
      let skips : first_image_overlap_from end (r ∷ rs) ≡ first_image_overlap_from (r.addr + r.len) rs =
      ap (λ b. cond b (Some r.addr) (first_image_overlap_from (r.addr + r.len) rs)) (le-ltb r.addr end past) in
      found_later low end x r rs rise past
      (some_found r.addr (r.addr + r.len) x rs rise.1 (All-tail IsSoundImageRange r rs sound) (sym skips ∙ some)))
]

-- sorted ranges rise
pub image_file_sorted_rise : (low : ℕ) (rs : List Range) → IsNonDecreasingBy (λ r. r.addr) rs
    → ((d : Range) → 0 < length rs → low ≤ (get_or rs 0 d).addr) → ImageFileRangesRise low rs
image_file_sorted_rise low [] sorted first = tt
image_file_sorted_rise low (r ∷ rs) sorted first =
    let l = first r (omega arith) in
    let tail : IsNonDecreasingBy (λ q. q.addr) rs =
    λ i j d below within. sorted (suc i) (suc j) d (omega arith) (omega arith) in
    let next : (d : Range) → 0 < length rs → r.addr ≤ (get_or rs 0 d).addr =
    λ d some. sorted 0 1 d (omega arith) (omega arith) in
    (l, image_file_sorted_rise r.addr rs tail next)

Matches : List Range → Option ℕ → Type 0
Matches ranges found = MatchOption found (AreImageRangesApart ranges) (IsLowestImageOverlap ranges)

-- what the search in sorted ranges finds, of the ranges in any order
pub image_file_lowest_overlap : (ranges sorted : List Range) (found : Option ℕ) → IsPermutation ranges sorted
    → All IsSoundImageRange sorted → IsNonDecreasingBy (λ r. r.addr) sorted → found ≡ first_image_overlap_from 0 sorted
    → MatchOption found (AreImageRangesApart ranges) (IsLowestImageOverlap ranges)
image_file_lowest_overlap ranges sorted None moved sound rises is = λ at.
    let same = sum_by-IsPermutation (image_range_has at) ranges sorted moved in
    let o = (none_apart 0 at sorted (sym is)).once in
    omega (arith, same, o)
image_file_lowest_overlap ranges sorted (Some x) moved sound rises is =
    let f = some_found 0 0 x sorted (image_file_sorted_rise 0 sorted rises (λ d some. omega arith)) sound (sym is) in
    let same = sum_by-IsPermutation (image_range_has x) ranges sorted moved in
    record {
      twice = elim f.here [
        | inl within ↦ (let w = within.0 in absurd (omega arith))
        | inr twice ↦ omega (arith, same, twice)
      ];
      first = λ at below.
          let o = (f.before at below).once in
          let s = sum_by-IsPermutation (image_range_has at) ranges sorted moved in
          omega (arith, s, o);
    }
