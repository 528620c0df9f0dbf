-- Data phases of which a bit was changed on the way.
use Rattle.std.proofs.Common.{◌≡◌, ◌<◌, ◌+◌, ◌%◌, ◌^◌, ℕ, Bool, true, false, refl, sym, ap, arith, ◌∙◌, ◌⊎◌, inl, inr}
use Rattle.std.specs.Prelude.{Option, Some, None, ◌==◌, if◌then◌else◌, bit_xor, count_ones}
use Rattle.std.specs.Int.Bits.{xor_self, xor_zero_r, xor_assoc}
use Rattle.std.proofs.Math.Pow.{pow-lt}
use Rattle.std.proofs.lemmas.Nat.{xor_mod, xor_lt, mod_low}
use Rattle.swd_bits.specs.Phases.{data_phase_number, data_phase_word}
use Rattle.swd_bits.proofs.PhaseLemmas.{data_phase_gives_word, flipped_data_phase_no_word, bit_flip_changes_parity}
use Rattle.swd_bits.proofs.PhaseLemmas.{data_phase_of_found_word}
use Rattle.swd_port.specs.Choices.{port_flipped}
use Rattle.swd_checker.specs.Described.{checked_changed_at}
use Rattle.swd_checker.specs.Checked.{checked_phase}

-- the word below the parity bit
low_word : (word : ℕ) → word < 2 ^ 32 → data_phase_number word % 2 ^ 32 ≡ word
low_word word h = mod_low (count_ones word % 2) 32 word h

small_power : (place : ℕ) → place < 32 → 2 ^ place % 2 ^ 32 ≡ 2 ^ place
small_power place h = let small : 2 ^ place < 2 ^ 32 = pow-lt h in omega arith

twice : (a b : ℕ) → bit_xor (bit_xor a b) b ≡ a
twice a b = xor_assoc a b b ∙ ap (bit_xor a) (xor_self b) ∙ xor_zero_r a

low_flipped : (word place : ℕ) → word < 2 ^ 32
    → bit_xor (data_phase_number word) (2 ^ place) % 2 ^ 32 ≡ bit_xor word (2 ^ place % 2 ^ 32)
low_flipped word place h =
    xor_mod (data_phase_number word) (2 ^ place) 32 ∙ ap (λ z. bit_xor z (2 ^ place % 2 ^ 32)) (low_word word h)

low_last : (word : ℕ) → word < 2 ^ 32 → bit_xor (data_phase_number word) (2 ^ 32) % 2 ^ 32 ≡ word
low_last word h = low_flipped word 32 h ∙ xor_zero_r word

place_cases : (place : ℕ) → place < 33 → (place ≡ 32) ⊎ (place < 32)
place_cases place h = grind arith

changed_back : (word value place : ℕ) → place < 32 → word ≡ bit_xor value (2 ^ place % 2 ^ 32)
    → value ≡ bit_xor word (2 ^ place)
changed_back word value place h e = sym (twice value (2 ^ place))
    ∙ ap (λ z. bit_xor z (2 ^ place)) (sym (e ∙ ap (bit_xor value) (small_power place h)))

not_last : (place : ℕ) → place < 32 → (place == 32) ≡ false
not_last place h = grind arith

changed_at : (word place : ℕ) → place < 32 → checked_changed_at word place ≡ bit_xor word (2 ^ place)
changed_at word place h = rw (not_last place h) refl

-- a word that is seen with wrong parity is that which was sent, but for the changed bit
pub seen_changed : (word value place : ℕ) → word < 2 ^ 32 → value < 2 ^ 32 → place < 33
    → checked_phase false word ≡ port_flipped (Some place) (data_phase_number value)
    → value ≡ checked_changed_at word place
seen_changed word value place h k inside e = elim (place_cases place inside)
    as (λ _. value ≡ checked_changed_at word place) [
      | inl last ↦ (
          let f : word ≡ value = sym (low_last word h) ∙ ap (λ z. z % 2 ^ 32) e
          ∙ ap (λ p. bit_xor (data_phase_number value) (2 ^ p) % 2 ^ 32) last ∙ low_last value k in
          sym f ∙ sym (ap (checked_changed_at word) last)
          )
      | inr below ↦ changed_back word value place below
          (sym (low_last word h) ∙ ap (λ z. z % 2 ^ 32) e ∙ low_flipped value place k) ∙ sym (changed_at word place
          below)
    ]

-- a word that is seen with right parity is the one that was sent, and no bit was changed
pub seen_whole : (word value : ℕ) → word < 2 ^ 32 → value < 2 ^ 32
    → checked_phase true word ≡ port_flipped None (data_phase_number value) → word ≡ value
seen_whole word value h k e = sym (low_word word h) ∙ ap (λ z. z % 2 ^ 32) e ∙ low_word value k

no_some : (o : Option ℕ) (word : ℕ) → o ≡ Some word → o ≡ None → ⊥
no_some o word e f = absurd (let g : Some word ≡ None = sym e ∙ f in cc)

-- right parity: no bit was changed
pub seen_unchanged : (word value place : ℕ) → word < 2 ^ 32 → value < 2 ^ 32
    → checked_phase true word ≡ port_flipped (Some place) (data_phase_number value) → ⊥
seen_unchanged word value place h k e = no_some (data_phase_word (data_phase_number word)) word
    (data_phase_gives_word word h) (ap data_phase_word e ∙ flipped_data_phase_no_word value place k)

-- wrong parity: one was
pub seen_undamaged : (word value : ℕ) → word < 2 ^ 32 → value < 2 ^ 32
    → checked_phase false word ≡ port_flipped None (data_phase_number value) → ⊥
seen_undamaged word value h k e = no_some (data_phase_word (data_phase_number value)) value
    (data_phase_gives_word value k) (ap data_phase_word (sym e) ∙ flipped_data_phase_no_word word 32 h)

-- a word that is sent with wrong parity, and of which one more bit is changed
sent_changed_low : (word place : ℕ) → word < 2 ^ 32 → place < 33
    → bit_xor (checked_phase false word) (2 ^ place) % 2 ^ 32 ≡ checked_changed_at word place
sent_changed_low word place h inside =
    xor_mod (checked_phase false word) (2 ^ place) 32 ∙ ap (λ z. bit_xor z (2 ^ place % 2 ^ 32)) (low_last word h)
    ∙ elim (place_cases place inside) as (λ _. bit_xor word (2 ^ place % 2 ^ 32) ≡ checked_changed_at word place) [
      | inl last ↦ ap (λ p. bit_xor word (2 ^ p % 2 ^ 32)) last ∙ xor_zero_r word
          ∙ sym (ap (checked_changed_at word) last)
      | inr below ↦ ap (bit_xor word) (small_power place below) ∙ sym (changed_at word place below)
    ]

by_parity : (even : Bool) (a b : ℕ) → a ≡ b
    → ((if even then Some a else None) ≡ None) ⊎ ((if even then Some a else None) ≡ Some b)
by_parity true a b e = inr (ap (λ z. Some z) e)
by_parity false a b e = inl refl

-- such a word arrives with wrong parity, or with that bit changed
pub sent_changed : (word place : ℕ) → word < 2 ^ 32 → place < 33
    → (data_phase_word (port_flipped (Some place) (checked_phase false word)) ≡ None)
    ⊎ (data_phase_word (port_flipped (Some place) (checked_phase false word)) ≡ Some (checked_changed_at word place))
sent_changed word place h inside =
    by_parity (count_ones (bit_xor (checked_phase false word) (2 ^ place)) % 2 == 0)
    (bit_xor (checked_phase false word) (2 ^ place) % 2 ^ 32) (checked_changed_at word place)
    (sent_changed_low word place h inside)

uneven : (even : Bool) (bits : ℕ) → (if even then Some (bits % 2 ^ 32) else None) ≡ None → even ≡ false
uneven true bits e = absurd (cc)
uneven false bits e = refl

one_more : (ones : ℕ) → (ones % 2 == 0) ≡ false → (ones + 1) % 2 ≡ 0
one_more ones e = grind arith

-- 33 bits with wrong parity are those of a word with its parity changed
pub phase_of_wrong_parity : (bits : ℕ) → bits < 2 ^ 33 → data_phase_word bits ≡ None
    → bits ≡ checked_phase false (bit_xor bits (2 ^ 32) % 2 ^ 32)
phase_of_wrong_parity bits h e =
    let other = bit_xor bits (2 ^ 32) in
    let even : count_ones other % 2 ≡ 0 = bit_flip_changes_parity 32 bits
    ∙ one_more (count_ones bits) (uneven (count_ones bits % 2 == 0) bits e) in
    let found : data_phase_word other ≡ Some (other % 2 ^ 32) = rw even refl in
    let small : other < 2 ^ 33 = xor_lt 33 bits (2 ^ 32) h (omega arith) in
    sym (twice bits (2 ^ 32)) ∙ ap (λ z. bit_xor z (2 ^ 32))
    (data_phase_of_found_word other (other % 2 ^ 32) small found)

two_more : (a b c : ℕ) → a % 2 ≡ 0 → b % 2 ≡ (a + 1) % 2 → c % 2 ≡ (b + 1) % 2 → c % 2 ≡ 0
two_more a b c e f g = omega arith

even_of : (n : ℕ) (even : Bool) (bits word : ℕ) → (n == 0) ≡ even → (if even then Some bits else None) ≡ Some word
    → n ≡ 0
even_of n true bits word is e = grind arith
even_of n false bits word is e = absurd (cc)

found_even : (ones bits word : ℕ) → (if ones % 2 == 0 then Some bits else None) ≡ Some word → ones % 2 ≡ 0
found_even ones bits word e = even_of (ones % 2) (ones % 2 == 0) bits word refl e

phase_even : (word place : ℕ) → word < 2 ^ 32 → count_ones (bit_xor (checked_phase false word) (2 ^ place)) % 2 ≡ 0
phase_even word place h =
    let even : count_ones (data_phase_number word) % 2 ≡ 0 = found_even _ _ word (data_phase_gives_word word h) in
    let odd : count_ones (checked_phase false word) % 2 ≡ (count_ones (data_phase_number word) + 1) % 2 =
    bit_flip_changes_parity 32 (data_phase_number word) in
    let last : count_ones (bit_xor (checked_phase false word) (2 ^ place)) % 2
    ≡ (count_ones (checked_phase false word) + 1) % 2 = bit_flip_changes_parity place (checked_phase false word) in
    two_more _ _ _ even odd last

-- a word that is sent with wrong parity arrives with one more bit changed
pub sent_cured : (word place : ℕ) → word < 2 ^ 32 → place < 33
    → data_phase_word (port_flipped (Some place) (checked_phase false word)) ≡ Some (checked_changed_at word place)
sent_cured word place h inside =
    rw (phase_even word place h) (ap (λ z. Some z) (sent_changed_low word place h inside))

-- and it is what is seen of that word with that bit changed
pub seen_back : (word place : ℕ) → word < 2 ^ 32 → place < 33
    → checked_phase false word ≡ port_flipped (Some place) (data_phase_number (checked_changed_at word place))
seen_back word place h inside =
    let power : 2 ^ place < 2 ^ 33 = pow-lt inside in
    let first : data_phase_number word < 2 ^ 33 = omega arith in
    let small : bit_xor (checked_phase false word) (2 ^ place) < 2 ^ 33 =
    xor_lt 33 (checked_phase false word) (2 ^ place) (xor_lt 33 (data_phase_number word) (2 ^ 32) first (omega arith))
    power in
    sym (twice (checked_phase false word) (2 ^ place)) ∙ ap (λ z. bit_xor z (2 ^ place))
    (data_phase_of_found_word _ (checked_changed_at word place) small (sent_cured word place h inside))
