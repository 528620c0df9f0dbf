-- What a load leaves: each byte of the image, and all else as it was.
use Rattle.std.proofs.Common.{◌≡◌, ◌+◌, ◌-◌, ◌*◌, ◌/◌, ◌%◌, ◌<◌, ◌≤◌, ℕ, zero, suc, true, refl, sym, ap, arith, ◌∙◌}
use Rattle.std.proofs.Common.{List, [], ◌∷◌, length, get_or, Some, inl, inr, ◌⊎◌}
use Rattle.std.specs.Prelude.{unwrap_or}
use Rattle.std.proofs.lemmas.Bool.{cases_lt}
use Rattle.std.proofs.lemmas.Bool.Decides.{nat_tests}
use Rattle.std.proofs.lemmas.Nat.{le_bytes_4}
use Rattle.std.specs.Int.{w32, to_le_bytes, from_le_bytes}
use Rattle.std.specs.Ordering.{nat_cmp}
use Rattle.std.specs.FinMap.{FinMap, get}
use Rattle.swd_image.specs.Bytes.{image_byte_in, image_word_in, image_word_of}
use Rattle.swd_image.specs.Images.{image_byte}
use Rattle.swd_image.specs.Lists.{image_edge_word, image_last_word, image_loaded_word, image_needs_head}
use Rattle.swd_image.specs.Lists.{image_needs_tail, image_word_count}

-- ---- bytes of words

byte_small : (word i : ℕ) → get_or (to_le_bytes w32 word) i 0 < 256
byte_small word zero = omega arith
byte_small word (suc zero) = omega arith
byte_small word (suc (suc zero)) = omega arith
byte_small word (suc (suc (suc zero))) = omega arith
byte_small word (suc (suc (suc (suc i)))) = omega arith

picked : (f : ℕ → ℕ) (a r : ℕ) → r < 4
    → get_or (f a ∷ f (a + 1) ∷ f (a + 2) ∷ f (a + 3) ∷ []) r 0 ≡ f (a + r)
picked f a zero l = let e : a ≡ a + zero = omega arith in ap f e
picked f a (suc zero) l = let e : a + 1 ≡ a + suc zero = omega arith in ap f e
picked f a (suc (suc zero)) l = let e : a + 2 ≡ a + suc (suc zero) = omega arith in ap f e
picked f a (suc (suc (suc zero))) l = let e : a + 3 ≡ a + suc (suc (suc zero)) = omega arith in ap f e
picked f a (suc (suc (suc (suc r)))) l = absurd (omega arith)

four_small : (f : ℕ → ℕ) (a : ℕ) → ((at : ℕ) → f at < 256)
    → (i : ℕ) → get_or (f a ∷ f (a + 1) ∷ f (a + 2) ∷ f (a + 3) ∷ []) i 0 < 256
four_small f a small zero = small a
four_small f a small (suc zero) = small (a + 1)
four_small f a small (suc (suc zero)) = small (a + 2)
four_small f a small (suc (suc (suc zero))) = small (a + 3)
four_small f a small (suc (suc (suc (suc i)))) = omega arith

-- a byte of the word of four bytes
byte_of_four : (f : ℕ → ℕ) (at : ℕ) → ((i : ℕ) → f i < 256)
    → (let a = image_word_of at in
    image_byte_in (from_le_bytes w32 (f a ∷ f (a + 1) ∷ f (a + 2) ∷ f (a + 3) ∷ [])) at ≡ f at)
byte_of_four f at small =
    let a : ℕ = image_word_of at in
    let four : List ℕ = f a ∷ f (a + 1) ∷ f (a + 2) ∷ f (a + 3) ∷ [] in
    let back : to_le_bytes w32 (from_le_bytes w32 four) ≡ four = le_bytes_4 four _ refl (four_small f a small) refl in
    let here : a + at % 4 ≡ at = omega arith in
    ap (λ l. get_or l (at % 4) 0) back ∙ picked f a (at % 4) (omega arith) ∙ ap f here

-- ---- an image

module _ (addr : ℕ) (bytes : List ℕ) where
  byte_inside : (word at : ℕ) → addr ≤ at → at < addr + length bytes
      → image_byte addr bytes word at ≡ get_or bytes (at - addr) 0
  byte_inside word at low high = grind (arith, nat_tests)

  byte_outside : (word at : ℕ) → (at < addr) ⊎ (addr + length bytes ≤ at)
      → image_byte addr bytes word at ≡ image_byte_in word at
  byte_outside word at (inl low) = grind (arith, nat_tests)
  byte_outside word at (inr high) = grind (arith, nat_tests)

  image_small : ((k : ℕ) → get_or bytes k 0 < 256) → (word at : ℕ) → image_byte addr bytes word at < 256
  image_small small word at = elim (cases_lt at addr) [
    | inl low ↦ (let e = byte_outside word at (inl low) in let s = byte_small word (at % 4) in omega (arith, e, s))
    | inr low ↦ elim (cases_lt at (addr + length bytes)) [
      | inl high ↦ (let e = byte_inside word at low high in let s = small (at - addr) in omega (arith, e, s))
      | inr high ↦ (let e = byte_outside word at (inr high) in let s = byte_small word (at % 4) in omega (arith, e, s))
    ]
  ]

-- how many words there are
pub image_word_count_cases : (addr len : ℕ) → ((len ≡ 0) × (image_word_count addr len ≡ 0))
    ⊎ ((0 < len) × (image_word_count addr len ≡ (addr % 4 + len + 3) / 4))
image_word_count_cases addr zero = inl (refl, refl)
image_word_count_cases addr (suc len) = inr (omega arith, grind (arith, nat_tests))

-- ---- a load of an image

-- among the words of a range
pub record InImageWords (addr len q : ℕ) : Type 0 where
  pub low : image_word_of addr ≤ q
  pub high : q < image_word_of addr + 4 * image_word_count addr len
  pub aligned : q % 4 ≡ 0

-- a byte of the range is of one of them
among : (addr len at : ℕ) → addr ≤ at → at < addr + len → InImageWords addr len (image_word_of at)
among addr len at low high =
    let high_is : image_word_of at < image_word_of addr + 4 * image_word_count addr len =
    elim (image_word_count_cases addr len) [
      | inl none ↦ (let n = none.0 in absurd (omega (arith, n)))
      | inr some ↦ (let z = some.1 in omega (arith, z))
    ] in
    record { low = omega arith; high = high_is; aligned = omega arith }

-- and a word that has none of it isn't
apart : (addr len at : ℕ) → (at + 4 ≤ addr) ⊎ (addr + len ≤ at) → InImageWords addr len at → ⊥
apart addr len at out i =
    let l = i.low in
    let h = i.high in
    let g = i.aligned in
    elim (image_word_count_cases addr len) [
      | inl none ↦ (let z = none.1 in omega (arith, l, h, z))
      | inr some ↦ (let z = some.1 in elim out [ inl low ↦ omega (arith, l) | inr high ↦ omega (arith, h, g, z) ])
    ]

-- which partial word it is
later_edge : (addr head tail at : ℕ) → addr < at → image_edge_word addr head tail at ≡ tail
later_edge addr head tail at l = grind (arith, nat_tests)

first_edge : (addr head tail at : ℕ) → at ≤ addr → image_edge_word addr head tail at ≡ head
first_edge addr head tail at l = grind (arith, nat_tests)

head_there : (addr len : ℕ) → 0 < len → (image_word_of addr < addr) ⊎ (addr + len < image_word_of addr + 4)
    → image_needs_head addr len ≡ true
head_there addr len some (inl low) = grind (arith, nat_tests)
head_there addr len some (inr high) = grind (arith, nat_tests)

tail_there : (addr len : ℕ) → image_word_of addr < image_last_word addr len → addr + len < image_last_word addr len + 4
    → image_needs_tail addr len ≡ true
tail_there addr len low high = grind (arith, nat_tests)

module _ (addr : ℕ) (bytes : List ℕ) (head tail : ℕ) (before after : FinMap nat_cmp ℕ)
    (small : (k : ℕ) → get_or bytes k 0 < 256)
    (is_head : image_needs_head addr (length bytes) ≡ true → head ≡ image_word_in before (image_word_of addr))
    (is_tail : image_needs_tail addr (length bytes) ≡ true
    → tail ≡ image_word_in before (image_last_word addr (length bytes)))
    (written : (k : ℕ) → k < image_word_count addr (length bytes) → get after (image_word_of addr + 4 * k)
    ≡ Some (image_loaded_word addr bytes head tail (image_word_of addr + 4 * k)))
    (held : (q : ℕ) → (get after q ≡ get before q) ⊎ InImageWords addr (length bytes) q)
  where
    -- a byte outside the image, of a word that is written, is that of the word before
    kept : (at : ℕ) → InImageWords addr (length bytes) (image_word_of at) → (at < addr) ⊎ (addr + length bytes ≤ at)
        → image_edge_word addr head tail (image_word_of at) ≡ image_word_in before (image_word_of at)
    kept at i out = elim (cases_lt addr (image_word_of at)) [
      | inl later ↦
          (let edge : image_edge_word addr head tail (image_word_of at) ≡ tail =
          later_edge addr head tail (image_word_of at) later in
          let past : addr + length bytes ≤ at = elim out [ inl low ↦ absurd (omega arith) | inr high ↦ high ] in
          let h = i.high in
          let g = i.aligned in
          let last : image_last_word addr (length bytes) ≡ image_word_of at =
          elim (image_word_count_cases addr (length bytes)) [
            | inl none ↦ (let z = none.1 in let n = none.0 in absurd (omega (arith, h, z)))
            | inr some ↦ (let z = some.1 in let n = some.0 in omega (arith, h, g, z, n, past, later))
          ] in
          edge ∙ is_tail (tail_there addr (length bytes) (omega (arith, last)) (omega (arith, last)))
          ∙ ap (image_word_in before) last)
      | inr first ↦
          (let edge : image_edge_word addr head tail (image_word_of at) ≡ head =
          first_edge addr head tail (image_word_of at) first in
          let l = i.low in
          let g = i.aligned in
          let same : image_word_of addr ≡ image_word_of at = omega (arith, l, g, first) in
          let partial : (image_word_of addr < addr) ⊎ (addr + length bytes < image_word_of addr + 4) = elim out [
            | inl low ↦ inl (omega (arith, same))
            | inr high ↦ inr (omega (arith, same))
          ] in
          let h = i.high in
          let some : 0 < length bytes = elim (image_word_count_cases addr (length bytes)) [
            | inl none ↦ (let z = none.1 in absurd (omega (arith, h, l, z)))
            | inr some ↦ some.0
          ] in
          edge ∙ is_head (head_there addr (length bytes) some partial) ∙ ap (image_word_in before) same)
    ]

    -- so the image's byte over the word that was read is the one over the word before
    over : (at : ℕ) → InImageWords addr (length bytes) (image_word_of at)
        → image_byte addr bytes (image_edge_word addr head tail (image_word_of at)) at
        ≡ image_byte addr bytes (image_word_in before (image_word_of at)) at
    over at i = elim (cases_lt at addr) [
      | inl low ↦ ap (λ w. image_byte addr bytes w at) (kept at i (inl low))
      | inr low ↦ elim (cases_lt at (addr + length bytes)) [
        | inl high ↦ byte_inside addr bytes (image_edge_word addr head tail (image_word_of at)) at low high
            ∙ sym (byte_inside addr bytes (image_word_in before (image_word_of at)) at low high)
        | inr high ↦ ap (λ w. image_byte addr bytes w at) (kept at i (inr high))
      ]
    ]

    inside : (at : ℕ) → InImageWords addr (length bytes) (image_word_of at)
        → image_byte_in (image_word_in after (image_word_of at)) at
        ≡ image_byte addr bytes (image_word_in before (image_word_of at)) at
    inside at i =
        let a : ℕ = image_word_of at in
        let k : ℕ = (a - image_word_of addr) / 4 in
        let l = i.low in
        let h = i.high in
        let g = i.aligned in
        let place : image_word_of addr + 4 * k ≡ a = omega (arith, l, g) in
        let there : get after a ≡ Some (image_loaded_word addr bytes head tail a) =
        ap (get after) (sym place) ∙ written k (omega (arith, h, place))
        ∙ ap (λ q. Some (image_loaded_word addr bytes head tail q)) place in
        let word : image_word_in after a ≡ image_loaded_word addr bytes head tail a = ap (λ o. unwrap_or o 0) there in
        ap (λ w. image_byte_in w at) word ∙ byte_of_four (image_byte addr bytes (image_edge_word addr head tail a)) at
        (image_small addr bytes small (image_edge_word addr head tail a)) ∙ over at i

    unchanged : (at : ℕ) → (at < addr) ⊎ (addr + length bytes ≤ at)
        → get after (image_word_of at) ≡ get before (image_word_of at)
        → image_byte_in (image_word_in after (image_word_of at)) at
        ≡ image_byte addr bytes (image_word_in before (image_word_of at)) at
    unchanged at out same = ap (λ o. image_byte_in (unwrap_or o 0) at) same
        ∙ sym (byte_outside addr bytes (image_word_in before (image_word_of at)) at out)

    -- each byte is that of the image, or, outside it, the byte before
    pub bytes_are : (at : ℕ) → image_byte_in (image_word_in after (image_word_of at)) at
        ≡ image_byte addr bytes (image_word_in before (image_word_of at)) at
    bytes_are at = elim (held (image_word_of at)) [
      | inr i ↦ inside at i
      | inl same ↦ elim (cases_lt at addr) [
        | inl low ↦ unchanged at (inl low) same
        | inr low ↦ elim (cases_lt at (addr + length bytes)) [
          | inl high ↦ inside at (among addr (length bytes) at low high)
          | inr high ↦ unchanged at (inr high) same
        ]
      ]
    ]

    -- each word without a byte of the image's range is the word before
    pub others : (at : ℕ) → (at + 4 ≤ addr) ⊎ (addr + length bytes ≤ at) → get after at ≡ get before at
    others at out = elim (held at) [ inl same ↦ same | inr i ↦ absurd (apart addr (length bytes) at out i) ]
