-- Laws of clocks that go by, and of the levels that wait.
use Rattle.std.proofs.Common.{◌≡◌, ℕ, zero, suc, ◌+◌, ◌-◌, ◌*◌, ◌/◌, ◌%◌, ◌^◌, ◌<◌, ◌≤◌, Bool, true, false, List, []}
use Rattle.std.proofs.Common.{◌∷◌, ◌++◌, length, take, map, Option, Some, refl, sym, ap, ◌∙◌, subst, arith, append-nil}
use Rattle.std.specs.Prelude.{◌==◌, replicate}
use Rattle.std.proofs.lemmas.Nat.{one_shl}
use Rattle.std.proofs.lemmas.List.{length-append, take-append-le, take_all}
use Rattle.swd_port.specs.Bus.{Bus}
use Rattle.swd_bits.specs.Bits.{low_bits, bit}
use Rattle.swd_bits.proofs.BitsLemmas.{low_bits-cat, length-low_bits}
use Rattle.swd_clocked.specs.declared.marked.FaultyClocked.{FaultyClocked}
use Rattle.swd_ends.specs.ClockedProbes.{ClockedProbeCycles, ClockedProbeCycle}

-- the clocks that are left, of which one goes by
pub clocked_probe_next_driven : (count place rest : ℕ) → place < count
    → map Some (low_bits (count - place) rest) ≡ Some (rest % 2 == 1) ∷ map Some
    (low_bits (count - (place + 1)) (rest / 2))
unfolding low_bits
clocked_probe_next_driven count place rest l =
    let n = count - (place + 1) in
    let e : count - place ≡ suc n = omega arith in
    ap (λ k. map Some (low_bits k rest)) e

-- of equal clocks that are left, one goes by
pub clocked_probe_next_alike : {A : Type 0} (count place : ℕ) (drive : A) → place < count
    → replicate (count - place) drive ≡ drive ∷ replicate (count - (place + 1)) drive
clocked_probe_next_alike count place drive l =
    let n = count - (place + 1) in
    let e : count - place ≡ suc n = omega arith in
    ap (λ k. replicate k drive) e

-- once all driven clocks went by, none is left
pub clocked_probe_no_driven : (count place rest : ℕ) → count ≤ place → map Some (low_bits (count - place) rest) ≡ []
unfolding low_bits
clocked_probe_no_driven count place rest l =
    let e : count - place ≡ 0 = omega arith in
    ap (λ k. map Some (low_bits k rest)) e

-- once all equal clocks went by, none is left
pub clocked_probe_none_alike : {A : Type 0} (count place : ℕ) (drive : A) → count ≤ place
    → replicate (count - place) drive ≡ []
clocked_probe_none_alike count place drive l =
    let e : count - place ≡ 0 = omega arith in
    ap (λ k. replicate k drive) e

-- all clocks are left at first
pub clocked_probe_all_driven : (count bits : ℕ) → map Some (low_bits (count - 0) bits) ≡ map Some (low_bits count bits)
clocked_probe_all_driven count bits =
    let e : count - 0 ≡ count = omega arith in
    ap (λ k. map Some (low_bits k bits)) e

-- all equal clocks are left at first
pub clocked_probe_all_alike : {A : Type 0} (count : ℕ) (drive : A) → replicate (count - 0) drive ≡ replicate count drive
clocked_probe_all_alike count drive =
    let e : count - 0 ≡ count = omega arith in
    ap (λ k. replicate k drive) e

-- a clock, and those behind it
pub clocked_probe_one_cycle : {D A : Type 0} (bus : D → Bus) (all left : List (Option Bool)) (drive : Option Bool)
    (level : Bool)
    (seen : List Bool) (s m t : FaultyClocked D A)
    → all ≡ drive ∷ left → ClockedProbeCycle bus drive level s m → ClockedProbeCycles bus left seen m t
    → ClockedProbeCycles bus all (level ∷ seen) s t
clocked_probe_one_cycle bus all left drive level seen s m t e one more =
    subst (λ x. ClockedProbeCycles bus x (level ∷ seen) s t) (sym e) (m, one, more)

-- without a clock nothing changes
pub clocked_probe_no_cycle : {D A : Type 0} (bus : D → Bus) (all : List (Option Bool)) (s : FaultyClocked D A) → all ≡
    []
    → ClockedProbeCycles bus all [] s s
clocked_probe_no_cycle bus all s e = subst (λ x. ClockedProbeCycles bus x [] s s) (sym e) refl

-- one level more above those that wait
level_above : (n levels : ℕ) (b : Bool) → n < 64 → levels < 2 ^ n
    → low_bits (n + 1) (levels + bit b * 2 ^ n % 2 ^ 64) ≡ low_bits n levels ++ b ∷ []
unfolding low_bits
level_above n levels true l h =
    let e : 1 * 2 ^ n % 2 ^ 64 ≡ 2 ^ n = one_shl n 64 l in
    let f : levels + 2 ^ n ≡ 1 * 2 ^ n + levels = omega arith in
    ap (λ x. low_bits (n + 1) (levels + x)) e ∙ ap (low_bits (n + 1)) f ∙ low_bits-cat n 1 1 levels h
level_above n levels false l h =
    let z : 0 * 2 ^ n ≡ 0 = omega arith in
    let e : 0 * 2 ^ n % 2 ^ 64 ≡ 0 = ap (λ x. x % 2 ^ 64) z in
    let f : levels + 0 ≡ 0 * 2 ^ n + levels = omega arith in
    ap (λ x. low_bits (n + 1) (levels + x)) e ∙ ap (low_bits (n + 1)) f ∙ low_bits-cat n 1 0 levels h

-- cutting a list to n items before more are added makes no difference to the first n
pub clocked_probe_take_twice : {A : Type 0} (n : ℕ) (xs ys : List A) → take n (take n xs ++ ys) ≡ take n (xs ++ ys)
clocked_probe_take_twice zero xs ys = refl
clocked_probe_take_twice (suc n) [] ys = refl
clocked_probe_take_twice (suc n) (x ∷ xs) ys = ap (λ r. x ∷ r) (clocked_probe_take_twice n xs ys)

-- a level that is kept, and one for which there is no room
pub clocked_probe_level_kept : (n levels : ℕ) (b : Bool) → n < 64 → levels < 2 ^ n
    → low_bits (n + 1) (levels + bit b * 2 ^ n % 2 ^ 64) ≡ take 64 (low_bits n levels ++ b ∷ [])
clocked_probe_level_kept n levels b l h =
    let long : length (low_bits n levels ++ b ∷ []) ≡ length (low_bits n levels) + 1 = length-append (low_bits n levels)
    (b ∷ []) in
    let few : length (low_bits n levels) ≡ n = length-low_bits n levels in
    level_above n levels b l h ∙ sym (take_all 64 _ (omega arith))

-- with 64 levels waiting, one level more changes nothing of the first 64
pub clocked_probe_level_lost : (n levels : ℕ) (b : Bool) → 64 ≤ n → n ≤ 64
    → low_bits n levels ≡ take 64 (low_bits n levels ++ b ∷ [])
clocked_probe_level_lost n levels b l h =
    let few : length (low_bits n levels) ≡ n = length-low_bits n levels in
    sym (take-append-le 64 (low_bits n levels) (b ∷ []) (omega arith) ∙ take_all 64 (low_bits n levels) (omega arith))

-- what waits, and nothing more
pub clocked_probe_levels_wait : (n levels : ℕ) → n ≤ 64 → low_bits n levels ≡ take 64 (low_bits n levels ++ [])
clocked_probe_levels_wait n levels h =
    let few : length (low_bits n levels) ≡ n = length-low_bits n levels in
    sym (ap (take 64) (append-nil (low_bits n levels)) ∙ take_all 64 (low_bits n levels) (omega arith))

-- no levels wait where their count is 0
pub clocked_probe_no_levels : (levels : ℕ) → low_bits 0 levels ≡ []
unfolding low_bits
clocked_probe_no_levels levels = refl
