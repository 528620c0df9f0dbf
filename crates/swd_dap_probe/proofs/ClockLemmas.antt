-- Laws of clocks that go by.
use Rattle.std.proofs.Common.{◌≡◌, ℕ, suc, ◌+◌, ◌-◌, ◌*◌, ◌/◌, ◌%◌, ◌^◌, ◌<◌, ◌≤◌, Bool, true, false, List, []}
use Rattle.std.proofs.Common.{◌∷◌, ◌++◌, length, map, Option, Some, None, refl, sym, ap, ◌∙◌, subst, arith, add-one}
use Rattle.std.specs.Prelude.{◌==◌, replicate}
use mir.Val.{bool_byte}
use Rattle.std.proofs.Math.Nat.{pow-succ'}
use Rattle.std.proofs.lemmas.Nat.{one_shl}
use Rattle.swd_bits.specs.Bits.{low_bits, bit, bits_number}
use Rattle.swd_sequences.specs.Going.{SequenceClock, SequenceClocksGoBy}

-- if the clocks that are left go by from here, all of them have gone by from there
abbrev pub ClocksLead : {L : Type 0} → SequenceClock L → List (Option Bool) → List (Option Bool) → L → L → Type 0
ClocksLead {L} clock left all s0 s = (seen : List Bool) (t : L) → SequenceClocksGoBy clock left seen s t
    → (levels : List Bool) × SequenceClocksGoBy clock all levels s0 t

-- before the first clock
pub clocks_lead_first : {L : Type 0} (clock : SequenceClock L) (left all : List (Option Bool)) (s : L) → left ≡ all
    → ClocksLead clock left all s s
clocks_lead_first clock left all s e seen t h = (seen, subst (λ x. SequenceClocksGoBy clock x seen s t) e h)

-- one clock more
pub clocks_lead_next : {L : Type 0} (clock : SequenceClock L) (left more all : List (Option Bool)) (drive : Option Bool)
    (level : Bool) (s0 s m : L) → left ≡ drive ∷ more → clock drive level s m → ClocksLead clock left all s0 s
    → ClocksLead clock more all s0 m
clocks_lead_next clock left more all drive level s0 s m e one leads seen t h =
    leads (level ∷ seen) t (subst (λ x. SequenceClocksGoBy clock x (level ∷ seen) s t) (sym e) (m, one, h))

-- once no clock is left
pub clocks_lead_last : {L : Type 0} (clock : SequenceClock L) (left all : List (Option Bool)) (s0 s : L) → left ≡ []
    → ClocksLead clock left all s0 s → (levels : List Bool) × SequenceClocksGoBy clock all levels s0 s
clocks_lead_last clock left all s0 s e leads =
    leads [] s (subst (λ x. SequenceClocksGoBy clock x [] s s) (sym e) refl)

-- the bits that are left
pub low_bits_next : (count place rest : ℕ) → place < count
    → map Some (low_bits (count - place) rest) ≡ Some (rest % 2 == 1) ∷ map Some
    (low_bits (count - (place + 1)) (rest / 2))
unfolding low_bits
low_bits_next count place rest l =
    let n = count - (place + 1) in
    let e : count - place ≡ suc n = omega arith in
    ap (λ k. map Some (low_bits k rest)) e

-- none is left once all went by
pub low_bits_none : (count place rest : ℕ) → count ≤ place → map Some (low_bits (count - place) rest) ≡ []
unfolding low_bits
low_bits_none count place rest l =
    let e : count - place ≡ 0 = omega arith in
    ap (λ k. map Some (low_bits k rest)) e

-- all are left at first
pub low_bits_all : (count bits : ℕ) → map Some (low_bits (count - 0) bits) ≡ map Some (low_bits count bits)
low_bits_all count bits =
    let e : count - 0 ≡ count = omega arith in
    ap (λ k. map Some (low_bits k bits)) e

-- the equal clocks that are left
pub alike_next : (count place : ℕ) (drive : Option Bool) → place < count
    → replicate (count - place) drive ≡ drive ∷ replicate (count - (place + 1)) drive
alike_next count place drive l =
    let n = count - (place + 1) in
    let e : count - place ≡ suc n = omega arith in
    ap (λ k. replicate k drive) e

-- none is left once all went by
pub alike_none : (count place : ℕ) (drive : Option Bool) → count ≤ place → replicate (count - place) drive ≡ []
alike_none count place drive l =
    let e : count - place ≡ 0 = omega arith in
    ap (λ k. replicate k drive) e

-- all are left at first
pub alike_all : (count : ℕ) (drive : Option Bool) → replicate (count - 0) drive ≡ replicate count drive
alike_all count drive =
    let e : count - 0 ≡ count = omega arith in
    ap (λ k. replicate k drive) e

-- clocks, and others behind them
pub clocks_append : {L : Type 0} (clock : SequenceClock L) (a b : List (Option Bool)) (p q : List Bool) (s m t : L)
    → SequenceClocksGoBy clock a p s m → SequenceClocksGoBy clock b q m t
    → SequenceClocksGoBy clock (a ++ b) (p ++ q) s t
clocks_append clock [] b [] q s m t e h = subst (λ x. SequenceClocksGoBy clock b q x t) e h
clocks_append clock [] b (l ∷ p) q s m t e h = absurd e
clocks_append clock (d ∷ a) b [] q s m t e h = absurd e
clocks_append clock (d ∷ a) b (l ∷ p) q s m t e h = (e.0, e.1, clocks_append clock a b p q e.0 m t e.2 h)

-- If the levels that are left go by from here, all of them have gone by from there, and their number is that of the
-- first ones and these.
pub record LevelsLead {L : Type 0} (clock : SequenceClock L) (count place number : ℕ) (seen : List Bool) (s0 t : L) :
    Type 0 where
  pub levels : List Bool
  pub goes : SequenceClocksGoBy clock (replicate count None) levels s0 t
  pub long : length levels ≡ place + length seen
  pub is : bits_number levels ≡ number + 2 ^ place * bits_number seen

abbrev pub AllLevelsLead : {L : Type 0} → SequenceClock L → ℕ → ℕ → ℕ → L → L → Type 0
AllLevelsLead {L} clock count place number s0 s = (seen : List Bool) (t : L)
    → SequenceClocksGoBy clock (replicate (count - place) None) seen s t → LevelsLead clock count place number seen s0 t

-- before the first level
pub levels_lead_first : {L : Type 0} (clock : SequenceClock L) (count : ℕ) (s : L) → AllLevelsLead clock count 0 0 s s
levels_lead_first clock count s seen t h = record {
  levels = seen;
  goes = subst (λ x. SequenceClocksGoBy clock x seen s t) (alike_all count None) h;
  long = omega arith;
  is = grind arith;
}

-- the next power
pub pow_next : (place : ℕ) → 2 ^ (place + 1) ≡ 2 * 2 ^ place
pow_next place = ap (λ n. 2 ^ n) (add-one place) ∙ pow-succ' 2 place

-- one level more
level_number : (place number b n all : ℕ) → all ≡ number + 2 ^ place * (b + 2 * n)
    → all ≡ number + b * 2 ^ place + 2 ^ (place + 1) * n
level_number place number b n all e =
    let p : 2 ^ (place + 1) * n ≡ 2 * 2 ^ place * n = ap (λ x. x * n) (pow_next place) in
    e ∙ omega (arith, p)

-- a level as a number, above those of the places before
pub level_above : (place : ℕ) (level : Bool) (n : ℕ) → place < 64 → n ≡ bool_byte level
    → n * 2 ^ place % 2 ^ 64 ≡ bit level * 2 ^ place
level_above place true n l e =
    ap (λ x. x * 2 ^ place % 2 ^ 64) e ∙ one_shl place 64 l ∙ omega arith
level_above place false n l e =
    let z : 0 * 2 ^ place ≡ 0 = omega arith in
    ap (λ x. x * 2 ^ place % 2 ^ 64) e ∙ ap (λ x. x % 2 ^ 64) z ∙ sym z

-- a level more is below the next power
pub level_bound : (place number : ℕ) (level : Bool) → number < 2 ^ place
    → number + bit level * 2 ^ place < 2 ^ (place + 1)
level_bound place number true l = let p = pow_next place in omega (arith, p, l)
level_bound place number false l = let p = pow_next place in omega (arith, p, l)

-- one level more
pub levels_lead_next : {L : Type 0} (clock : SequenceClock L) (count place number : ℕ) (level : Bool) (s0 s m : L)
    → place < count → clock None level s m → AllLevelsLead clock count place number s0 s
    → AllLevelsLead clock count (place + 1) (number + bit level * 2 ^ place) s0 m
levels_lead_next clock count place number level s0 s m l one leads seen t h =
    let all = leads (level ∷ seen) t (subst (λ x. SequenceClocksGoBy clock x (level ∷ seen) s t)
    (sym (alike_next count place None l)) (m, one, h)) in
    record {
      levels = all.levels;
      goes = all.goes;
      long = let e = all.long in omega (arith, e);
      is = level_number place number (bit level) (bits_number seen) (bits_number all.levels) all.is;
    }

-- once no level is left
pub levels_lead_last : {L : Type 0} (clock : SequenceClock L) (count number : ℕ) (s0 s : L)
    → AllLevelsLead clock count count number s0 s → LevelsLead clock count count number [] s0 s
levels_lead_last clock count number s0 s leads =
    leads [] s (subst (λ x. SequenceClocksGoBy clock x [] s s) (sym (alike_none count count None (omega arith))) refl)
