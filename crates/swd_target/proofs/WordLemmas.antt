-- A stretch of words as a map from addresses.
use Rattle.std.proofs.Common.{◌≡◌, ℕ, zero, suc, ◌+◌, ◌*◌, ◌<◌, ◌&&◌, Bool, true, false, Option, List, [], ◌∷◌, ◌++◌}
use Rattle.std.proofs.Common.{length, get_or, refl, inl, inr, ◌⊎◌, sym, ap, ◌∙◌, arith}
use Rattle.std.proofs.Math.ListN.{set}
use Rattle.std.proofs.lemmas.Bool.{cases_eq}
use Rattle.std.specs.Prelude.{Some, None, nat_lt}
use Rattle.std.specs.Ordering.{nat_cmp}
use Rattle.std.specs.FinMap.{FinMap, get, insert, get-empty, same_map, nat_cmp-IsAntisymmetric}
use Rattle.std.specs.Cmp.{nat_cmp_total}
use Rattle.swd_port.proofs.MapLemmas.{port_map_get_other, port_map_get_same, port_map_insert_twice}
use Rattle.swd_port.specs.declared.access.Transfer.{Transfer}
use Rattle.swd_port.specs.declared.access.Access.{Access}
use Rattle.swd_port.specs.declared.access.Access.TheVariants.{Read, Write}
use Rattle.swd_port.specs.declared.access.Answer.TheVariants.{Value, Written, BusFault}
use Rattle.swd_port.specs.PlainMemory.{PlainMemory, plain_address}
use Rattle.swd_port.specs.PlainAnswers.{succeeds_at, plain_answer, plain_after}
use Rattle.swd_target.specs.MemoryWords.{target_words_from, target_word_list, target_window, target_window_after}

-- the word at a place, and none outside
pub get-words_from : (base : ℕ) (ws : List ℕ) (i q d : ℕ) → i < length ws → base + 4 * i ≡ q
    → get (target_words_from base ws) q ≡ Some (get_or ws i d)
get-words_from base [] i q d l e = absurd (omega arith)
get-words_from base (w ∷ ws) zero q d l e = port_map_get_same _ base w q (omega arith)
get-words_from base (w ∷ ws) (suc i) q d l e = port_map_get_other _ base w q (λ same. omega arith)
    ∙ get-words_from (base + 4) ws i q d (omega arith) (omega arith)

pub get-outside : (base : ℕ) (ws : List ℕ) (q : ℕ) → ((i : ℕ) → i < length ws → base + 4 * i ≡ q → ⊥)
    → get (target_words_from base ws) q ≡ None
get-outside base [] q none = get-empty nat_cmp q
get-outside base (w ∷ ws) q none = port_map_get_other _ base w q (λ same. none 0 (omega arith) (omega arith))
    ∙ get-outside (base + 4) ws q (λ i l e. none (suc i) (omega arith) (omega arith))

-- two insertions at two keys
apart_at : (m : FinMap nat_cmp ℕ) (k l v w q : ℕ) → (k ≡ l → ⊥) → (q ≡ k) ⊎ (q ≡ k → ⊥) → (q ≡ l) ⊎ (q ≡ l → ⊥)
    → get (insert (insert m k v) l w) q ≡ get (insert (insert m l w) k v) q
apart_at m k l v w q n (inl e) (inl f) = absurd (n (sym e ∙ f))
apart_at m k l v w q n (inl e) (inr f) = port_map_get_other _ l w q f ∙
    (port_map_get_same m k v q e ∙ sym (port_map_get_same _ k v q e))
apart_at m k l v w q n (inr e) (inl f) = port_map_get_same _ l w q f ∙ sym
    (port_map_get_other _ k v q e ∙ port_map_get_same m l w q f)
apart_at m k l v w q n (inr e) (inr f) = port_map_get_other _ l w q f
    ∙ (port_map_get_other m k v q e ∙ sym (port_map_get_other _ k v q e ∙ port_map_get_other m l w q f))

insert_apart : (m : FinMap nat_cmp ℕ) (k l v w : ℕ) → (k ≡ l → ⊥)
    → insert (insert m k v) l w ≡ insert (insert m l w) k v
insert_apart m k l v w n = same_map nat_cmp_total nat_cmp-IsAntisymmetric _ _
    (λ q. apart_at m k l v w q n (cases_eq q k) (cases_eq q l))

-- a word that is written
pub words_from-set : (base : ℕ) (ws : List ℕ) (i v q : ℕ) → i < length ws → base + 4 * i ≡ q
    → target_words_from base (set ws i v) ≡ insert (target_words_from base ws) q v
words_from-set base [] i v q l e = absurd (omega arith)
words_from-set base (w ∷ ws) zero v q l e =
    let same : base ≡ q = omega arith in
    sym (port_map_insert_twice (target_words_from (base + 4) ws) base w v)
    ∙ ap (λ k. insert (insert (target_words_from (base + 4) ws) base w) k v) same
words_from-set base (w ∷ ws) (suc i) v q l e =
    ap (λ m. insert m base w) (words_from-set (base + 4) ws i v q (omega arith) (omega arith))
    ∙ sym (insert_apart (target_words_from (base + 4) ws) base q w v (λ same. omega arith))

-- a transfer at an address with no word fails
pub succeeds-outside : (at : ℕ) (m : PlainMemory) → get m.words at ≡ None → succeeds_at at m ≡ false
succeeds-outside at m e = rw e

-- at a word it succeeds, where the log has room
pub succeeds-inside : (at word : ℕ) (m : PlainMemory) → get m.words at ≡ Some word → length m.log < m.room
    → succeeds_at at m ≡ true
succeeds-inside at word m e h = rw e (grind arith)

-- a bus error leaves the memory as it was
pub answer-failed : (a : Access) (m : PlainMemory) → succeeds_at (plain_address a) m ≡ false
    → BusFault ≡ plain_answer a m
answer-failed a m e = rw e

pub after-failed : (a : Access) (m : PlainMemory) → succeeds_at (plain_address a) m ≡ false → m ≡ plain_after a m
after-failed a m e = rw e

-- a read that succeeds
pub answer-read : (at word : ℕ) (m : PlainMemory) → succeeds_at at m ≡ true → get m.words at ≡ Some word
    → Value word ≡ plain_answer (Read at) m
answer-read at word m e f = rw (e, f)

pub after-read : (at word : ℕ) (m : PlainMemory) (log : List Transfer) → succeeds_at at m ≡ true
    → get m.words at ≡ Some word → log ≡ m.log ++ record { read = true; addr = at; word = word } ∷ []
    → record { words = m.words; log = log; room = m.room } ≡ plain_after (Read at) m
after-read at word m log e f g =
    rw (e, f) (let new : PlainMemory =
    record { words = m.words; log = m.log ++ record { read = true; addr = at; word = word } ∷ []; room = m.room } in
    rw g)

-- a write that succeeds
pub answer-write : (at word : ℕ) (m : PlainMemory) → succeeds_at at m ≡ true → Written ≡ plain_answer (Write at word) m
answer-write at word m e = rw e

pub after-write : (at word : ℕ) (m : PlainMemory) (words : FinMap nat_cmp ℕ) (log : List Transfer)
    → succeeds_at at m ≡ true → words ≡ insert m.words at word
    → log ≡ m.log ++ record { read = false; addr = at; word = word } ∷ []
    → record { words = words; log = log; room = m.room } ≡ plain_after (Write at word) m
after-write at word m words log e f g =
    rw e (let new : PlainMemory =
    record {
      words = insert m.words at word;
      log = m.log ++ record { read = false; addr = at; word = word } ∷ [];
      room = m.room;
    } in rw (f, g))

-- where there is a word, the room of the log decides
pub succeeds-there : (at word : ℕ) (m : PlainMemory) → get m.words at ≡ Some word
    → nat_lt (length m.log) m.room ≡ succeeds_at at m
succeeds-there at word m e = rw e

-- the word of a window, and none beside it
pub get-window : (at : ℕ) (word : Option ℕ) (q : ℕ) → q ≡ at
    → get (target_words_from at (target_word_list word)) q ≡ word
get-window at None q e = get-empty nat_cmp q
get-window at (Some w) q e = port_map_get_same _ at w q e

pub get-beside : (at : ℕ) (word : Option ℕ) (q : ℕ) → (q ≡ at → ⊥)
    → get (target_words_from at (target_word_list word)) q ≡ None
get-beside at None q n = get-empty nat_cmp q
get-beside at (Some w) q n = port_map_get_other _ at w q n ∙ get-empty nat_cmp q

full : (b : Bool) → (b && false) ≡ true → ⊥
full true e = cc
full false e = cc

-- a write there that succeeds
pub window-write : (at : ℕ) (word : Option ℕ) (made : Option Transfer) (q w : ℕ)
    → succeeds_at q (target_window_after at word made) ≡ true
    → target_window_after at (Some w) (Some (record { read = false; addr = q; word = w })) ≡ plain_after (Write q w)
    (target_window_after at word made)
window-write at None made q w h =
    let fails : succeeds_at q (target_window_after at None made) ≡ false =
    succeeds-outside q (target_window_after at None made) (get-empty nat_cmp q) in
    cc
window-write at (Some old) (Some t) q w h = absurd (full _ h)
window-write at (Some old) None q w h = elim (cases_eq q at) [
  | inl e ↦
      after-write q w (target_window at (Some old)) (target_words_from at (w ∷ []))
      (record { read = false; addr = q; word = w } ∷ []) h
      (sym (port_map_insert_twice (target_words_from (at + 4) []) at old w)
      ∙ ap (λ k. insert (target_words_from at (old ∷ [])) k w) (sym e)) refl
  | inr n ↦
      let fails : succeeds_at q (target_window at (Some old)) ≡ false = succeeds-outside q (target_window at (Some old))
      (get-beside at (Some old) q n) in
      cc
]

-- the one transfer of a window
pub window-ready : (at w : ℕ) → succeeds_at at (target_window at (Some w)) ≡ true
window-ready at w = succeeds-inside at w (target_window at (Some w)) (get-window at (Some w) at refl) (omega arith)

pub window-read : (at w : ℕ) → Value w ≡ plain_answer (Read at) (target_window at (Some w))
window-read at w = answer-read at w (target_window at (Some w)) (window-ready at w) (get-window at (Some w) at refl)

pub window-written : (at v w : ℕ) → Written ≡ plain_answer (Write at w) (target_window at (Some v))
window-written at v w = answer-write at w (target_window at (Some v)) (window-ready at v)

pub window-failed : (a : Access) → BusFault ≡ plain_answer a (target_window (plain_address a) None)
window-failed a =
    answer-failed a (target_window (plain_address a) None)
    (succeeds-outside (plain_address a) (target_window (plain_address a) None)
    (get-window (plain_address a) None (plain_address a) refl))
