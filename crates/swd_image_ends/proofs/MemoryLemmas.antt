-- The words of a simulated memory that are put there one after the other, and its bytes.
use Rattle.std.proofs.Common.{◌≡◌, ◌+◌, ◌*◌, ◌/◌, ◌<◌, ◌≤◌, ℕ, zero, suc, refl, sym, ap, arith, add-one, ◌∙◌}
use Rattle.std.proofs.Common.{List, [], ◌∷◌, ◌++◌, length, get_or, Some, inl, inr, ◌⊎◌}
use Rattle.std.proofs.Math.ListN.{set}
use Rattle.std.proofs.lemmas.Bool.{cases_eq}
use Rattle.std.specs.Prelude.{replicate}
use Rattle.std.specs.Int.{w32, from_le_bytes}
use Rattle.std.specs.Ordering.{nat_cmp}
use Rattle.std.specs.FinMap.{FinMap, get, insert, same_map, nat_cmp-IsAntisymmetric}
use Rattle.std.specs.Cmp.{nat_cmp_total}
use Rattle.swd_port.proofs.MapLemmas.{port_map_get_other, port_map_get_same}
use Rattle.swd_port.specs.PlainMemory.{PlainMemory}
use Rattle.swd_image.specs.Bytes.{image_byte_at, image_bytes_at}
use Rattle.swd_image_ends.specs.Memories.{image_end_words_in}

-- a map that has a value at a key is not changed by inserting it there
pub image_end_insert_same : (m : FinMap nat_cmp ℕ) (k v : ℕ) → get m k ≡ Some v → m ≡ insert m k v
image_end_insert_same m k v has = same_map nat_cmp_total nat_cmp-IsAntisymmetric _ _ (λ q. at q (cases_eq q k))
  where
    at : (q : ℕ) → (q ≡ k) ⊎ (q ≡ k → ⊥) → get m q ≡ get (insert m k v) q
    at q (inl e) = ap (get m) e ∙ has ∙ sym (port_map_get_same m k v q e)
    at q (inr n) = sym (port_map_get_other m k v q n)

-- the first i of some words, and zeros for the others
abbrev pub image_end_mixed : ℕ → List ℕ → List ℕ
image_end_mixed i [] = []
image_end_mixed zero (w ∷ ws) = 0 ∷ image_end_mixed zero ws
image_end_mixed (suc i) (w ∷ ws) = w ∷ image_end_mixed i ws

-- words of which some are zero are as many
pub image_end_mixed_length : (i : ℕ) (ws : List ℕ) → length (image_end_mixed i ws) ≡ length ws
image_end_mixed_length i [] = refl
image_end_mixed_length zero (w ∷ ws) = ap suc (image_end_mixed_length zero ws)
image_end_mixed_length (suc i) (w ∷ ws) = ap suc (image_end_mixed_length i ws)

-- none yet
pub image_end_mixed_none : (ws : List ℕ) → replicate (length ws) 0 ≡ image_end_mixed 0 ws
image_end_mixed_none [] = refl
image_end_mixed_none (w ∷ ws) = ap (λ l. 0 ∷ l) (image_end_mixed_none ws)

-- all of them
pub image_end_mixed_all : (i : ℕ) (ws : List ℕ) → length ws ≤ i → image_end_mixed i ws ≡ ws
image_end_mixed_all i [] l = refl
image_end_mixed_all zero (w ∷ ws) l = absurd (omega arith)
image_end_mixed_all (suc i) (w ∷ ws) l = ap (λ l. w ∷ l) (image_end_mixed_all i ws (omega arith))

-- the next one
pub image_end_mixed_next : (i : ℕ) (ws : List ℕ) → i < length ws
    → set (image_end_mixed i ws) i (get_or ws i 0) ≡ image_end_mixed (suc i) ws
image_end_mixed_next i [] l = absurd (omega arith)
image_end_mixed_next zero (w ∷ ws) l = refl
image_end_mixed_next (suc i) (w ∷ ws) l = ap (λ l. w ∷ l) (image_end_mixed_next i ws (omega arith))

-- which is still 0
pub image_end_mixed_zero : (i : ℕ) (ws : List ℕ) → i < length ws → get_or (image_end_mixed i ws) i 0 ≡ 0
image_end_mixed_zero i [] l = absurd (omega arith)
image_end_mixed_zero zero (w ∷ ws) l = refl
image_end_mixed_zero (suc i) (w ∷ ws) l = image_end_mixed_zero i ws (omega arith)

-- a word for every four bytes
pub image_end_words_length : (bytes : List ℕ) → length (image_end_words_in bytes) ≡ length bytes / 4
image_end_words_length [] = refl
image_end_words_length (a ∷ []) = refl
image_end_words_length (a ∷ b ∷ []) = refl
image_end_words_length (a ∷ b ∷ c ∷ []) = refl
image_end_words_length (a ∷ b ∷ c ∷ d ∷ rest) = let l = image_end_words_length rest in omega (arith, l)

-- the word at an index
skip : (a b c d : ℕ) (rest : List ℕ) (k n : ℕ) → n ≡ k + 4 → get_or rest k 0 ≡ get_or (a ∷ b ∷ c ∷ d ∷ rest) n 0
skip a b c d rest k n e =
    let f : n ≡ suc (suc (suc (suc k))) = omega arith in
    ap (λ j. get_or (a ∷ b ∷ c ∷ d ∷ rest) j 0) (sym f)

four : (a b c d e f g h : ℕ) → a ≡ e → b ≡ f → c ≡ g → d ≡ h
    → from_le_bytes w32 (a ∷ b ∷ c ∷ d ∷ []) ≡ from_le_bytes w32 (e ∷ f ∷ g ∷ h ∷ [])
four a b c d e f g h p q r s = cc

-- the word at an index is that of its four bytes
pub image_end_word_at : (bytes : List ℕ) (i : ℕ) → i < length (image_end_words_in bytes)
    → get_or (image_end_words_in bytes) i 0 ≡ from_le_bytes w32 (get_or bytes (4 * i) 0 ∷ get_or bytes (4 * i + 1) 0
    ∷ get_or bytes (4 * i + 2) 0 ∷ get_or bytes (4 * i + 3) 0 ∷ [])
image_end_word_at [] i l = absurd (omega arith)
image_end_word_at (a ∷ []) i l = absurd (omega arith)
image_end_word_at (a ∷ b ∷ []) i l = absurd (omega arith)
image_end_word_at (a ∷ b ∷ c ∷ []) i l = absurd (omega arith)
image_end_word_at (a ∷ b ∷ c ∷ d ∷ rest) zero l = refl
image_end_word_at (a ∷ b ∷ c ∷ d ∷ rest) (suc i) l =
    image_end_word_at rest i (omega arith) ∙ four _ _ _ _ _ _ _ _ (skip a b c d rest (4 * i) (4 * suc i) (omega arith))
    (skip a b c d rest (4 * i + 1) (4 * suc i + 1) (omega arith))
    (skip a b c d rest (4 * i + 2) (4 * suc i + 2) (omega arith))
    (skip a b c d rest (4 * i + 3) (4 * suc i + 3) (omega arith))

-- the last of `count + 1` bytes of a memory
pub image_end_bytes_next : (m : PlainMemory) (at count : ℕ)
    → image_bytes_at m at (count + 1) ≡ image_bytes_at m at count ++ image_byte_at m (at + count) ∷ []
image_end_bytes_next m at count = ap (image_bytes_at m at) (add-one count) ∙ by at count
  where
    by : (at count : ℕ) → image_bytes_at m at (suc count) ≡ image_bytes_at m at count ++ image_byte_at m (at + count)
        ∷ []
    by at zero = let e : at ≡ at + zero = omega arith in ap (λ p. image_byte_at m p ∷ []) e
    by at (suc count) = let e : at + 1 + count ≡ at + suc count = omega arith in
        ap (λ l. image_byte_at m at ∷ l) (by (at + 1) count
        ∙ ap (λ p. image_bytes_at m (at + 1) count ++ image_byte_at m p ∷ []) e)
