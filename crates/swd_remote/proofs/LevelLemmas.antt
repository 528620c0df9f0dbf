-- Laws of levels and clocks.
use Rattle.std.proofs.Common.{◌≡◌, ℕ, suc, ◌+◌, ◌-◌, ◌*◌, ◌/◌, ◌%◌, ◌^◌, ◌<◌, ◌≤◌, Bool, true, false, List, [], ◌∷◌}
use Rattle.std.proofs.Common.{◌++◌, length, drop, get_or, map, sym, ap, ◌∙◌, arith, lit<, add-one}
use mir.Val.{bool_byte}
use Rattle.std.specs.Prelude.{◌==◌, replicate}
use Rattle.std.proofs.Math.Seq.{drop-cons, drop-length}
use Rattle.std.proofs.Math.Nat.{pow-suc}
use Rattle.swd_bits.specs.Bits.{low_bits, bit}
use Rattle.swd_sequences.specs.Clocks.{sequence_levels, sequence_driven_clock, sequence_joined}
use Rattle.swd_sequences.specs.Alphabet.{alphabet_level}

-- twice a number and a bit more
twice : (number : ℕ) (b : Bool) → ((number * 2 + bit b) / 2 ≡ number) × (((number * 2 + bit b) % 2 == 1) ≡ b)
twice number true =
    let h : (number * 2 + 1) / 2 ≡ number = omega arith in
    let r : (number * 2 + 1) % 2 ≡ 1 = omega arith in (h, ap (λ x. x == 1) r)
twice number false =
    let h : (number * 2 + 0) / 2 ≡ number = omega arith in
    let r : (number * 2 + 0) % 2 ≡ 0 = omega arith in (h, ap (λ x. x == 1) r)

levels_more : (place number : ℕ) (b : Bool)
    → sequence_levels (suc place) (number * 2 + bit b) ≡ alphabet_level b ∷ sequence_levels place number
unfolding low_bits
levels_more place number b =
    let e = twice number b in
    ap (λ x. alphabet_level x ∷ sequence_levels place ((number * 2 + bit b) / 2)) e.1
    ∙ ap (λ x. alphabet_level b ∷ sequence_levels place x) e.0

bit_small : (b : Bool) → bit b < 2
bit_small true = lit< tt
bit_small false = lit< tt

-- one level more at the front
pub remote_next_level : (text : List ℕ) (place number : ℕ) (b : Bool) → place < length text
    → get_or text (length text - 1 - place) 0 ≡ alphabet_level b
    → sequence_levels place number ≡ drop (length text - place) text
    → sequence_levels (place + 1) (number * 2 + bit b) ≡ drop (length text - (place + 1)) text
remote_next_level text place number b l e h =
    let at = length text - 1 - place in
    let within : at < length text = omega arith in
    let after : suc at ≡ length text - place = omega arith in
    let here : length text - (place + 1) ≡ at = omega arith in
    ap (λ n. sequence_levels n (number * 2 + bit b)) (add-one place) ∙ levels_more place number b
    ∙ ap (λ x. alphabet_level b ∷ x) (h ∙ ap (λ n. drop n text) (sym after))
    ∙ ap (λ x. x ∷ drop (suc at) text) (sym e) ∙ sym (drop-cons text at 0 within) ∙ ap (λ n. drop n text) (sym here)

-- its number has one bit more
pub remote_next_level_bound : (place number : ℕ) (b : Bool) → number < 2 ^ place → number * 2 + bit b < 2 ^ (place + 1)
remote_next_level_bound place number b h =
    let small = bit_small b in
    let p : 2 ^ suc place ≡ 2 ^ place * 2 = pow-suc 2 place in
    let q : 2 ^ (place + 1) ≡ 2 ^ suc place = ap (λ n. 2 ^ n) (add-one place) in
    omega arith

-- the clocks that are left, of which one goes by
pub remote_next_clock : (count place rest : ℕ) → place < count
    → sequence_joined (map sequence_driven_clock (low_bits (count - place) rest))
    ≡ sequence_driven_clock (rest % 2 == 1)
    ++ sequence_joined (map sequence_driven_clock (low_bits (count - (place + 1)) (rest / 2)))
unfolding low_bits
remote_next_clock count place rest l =
    let n = count - (place + 1) in
    let e : count - place ≡ suc n = omega arith in
    ap (λ k. sequence_joined (map sequence_driven_clock (low_bits k rest))) e

-- of equal clocks that are left, one goes by
pub remote_next_equal_clock : (count place : ℕ) (clock : List ℕ) → place < count
    → sequence_joined (replicate (count - place) clock) ≡ clock
    ++ sequence_joined (replicate (count - (place + 1)) clock)
remote_next_equal_clock count place clock l =
    let n = count - (place + 1) in
    let e : count - place ≡ suc n = omega arith in
    ap (λ k. sequence_joined (replicate k clock)) e

-- at first no levels were read
pub remote_no_levels_at_first : (text : List ℕ) → sequence_levels 0 0 ≡ drop (length text - 0) text
unfolding low_bits
remote_no_levels_at_first text =
    let e : length text - 0 ≡ length text = omega arith in
    sym (ap (λ n. drop n text) e ∙ drop-length text)

-- once all driven clocks went by, none is left
pub remote_no_clock_left : (count place rest : ℕ) → count ≤ place
    → sequence_joined (map sequence_driven_clock (low_bits (count - place) rest)) ≡ []
unfolding low_bits
remote_no_clock_left count place rest l =
    let e : count - place ≡ 0 = omega arith in
    ap (λ k. sequence_joined (map sequence_driven_clock (low_bits k rest))) e

-- the byte of a level is the number of its bit
pub remote_level_byte_is_bit : (b : Bool) (n : ℕ) → n ≡ bool_byte b → n ≡ bit b
remote_level_byte_is_bit true n e = e
remote_level_byte_is_bit false n e = e
