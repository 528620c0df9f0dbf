-- Plain memories, one of which has a longer log: where the log has room, they answer an access alike.
use Rattle.swd_host.proofs.Words.{◌≡◌, ◌+◌, ◌<◌, ◌≤◌, ℕ, Bool, true, false, refl, sym, ap, subst, arith, ◌∙◌, []}
use Rattle.swd_host.proofs.Words.{◌∷◌, length, length-append, Access, Value, plain_address}
use Rattle.std.specs.Prelude.{unwrap_or}
use Rattle.std.proofs.lemmas.Bool.{lt-ltb}
use Rattle.std.specs.Ordering.{nat_cmp}
use Rattle.std.specs.FinMap.{FinMap, get, contains_key}
use Rattle.swd_port.specs.declared.access.Access.TheVariants.{Read, Write}
use Rattle.swd_port.specs.PlainMemory.{PlainMemory}
use Rattle.swd_port.specs.PlainAnswers.{plain_done_answer, plain_answer, plain_after, succeeds_at}
use Rattle.swd_port.specs.PlainAnswers.{plain_words_after, plain_transfer_of, plain_done}
use Rattle.swd_port.proofs.MapLemmas.{port_map_get_same, port_map_insert_twice}
use Rattle.swd_port.proofs.PlainLaws.{plain_after_success, plain_after_bus_error}

-- a memory whose log is up to c transfers longer, and that is the same else
pub record PlainShadow (c : ℕ) (p q : PlainMemory) : Type 0 where
  pub words : q.words ≡ p.words
  pub room : q.room ≡ p.room
  pub most : length q.log ≤ length p.log + c
  pub least : length p.log ≤ length q.log

-- there is room for the access, and for c transfers more
pub record PlainHasRoom (c : ℕ) (a : Access) (p : PlainMemory) : Type 0 where
  pub now : length p.log < p.room
  pub later : length (plain_after a p).log + c ≤ p.room

-- WHETHER AN ACCESS SUCCEEDS
contains_succeeds : (at : ℕ) (p : PlainMemory) → length p.log < p.room → succeeds_at at p ≡ contains_key p.words at
contains_succeeds at p l = rw (lt-ltb (length p.log) p.room l) (grind arith)

done_log : (a : Access) (p : PlainMemory) → length (plain_done a p).log ≡ length p.log + 1
done_log a p = length-append p.log (plain_transfer_of a p ∷ [])

-- an access that succeeds makes the log one transfer longer
pub plain_log_one_more : (a : Access) (p : PlainMemory) → succeeds_at (plain_address a) p ≡ true
    → length (plain_after a p).log ≡ length p.log + 1
plain_log_one_more a p e = ap (λ x. length x.log) (plain_after_success a p e) ∙ done_log a p

shadow_succeeds : (c : ℕ) (a : Access) (p q : PlainMemory) → PlainHasRoom c a p → PlainShadow c p q
    → succeeds_at (plain_address a) q ≡ succeeds_at (plain_address a) p
shadow_succeeds c a p q f h = grind (arith, contains_succeeds, plain_log_one_more)

-- WHAT IT IS ANSWERED
answer_same : (a : Access) (p q : PlainMemory) → q.words ≡ p.words → plain_done_answer a q ≡ plain_done_answer a p
answer_same (Read at) p q e = ap (λ w. Value (unwrap_or (get w at) 0)) e
answer_same (Write at word) p q e = refl

plain_same : (a : Access) (p q : PlainMemory) → succeeds_at (plain_address a) q ≡ succeeds_at (plain_address a) p
    → plain_done_answer a q ≡ plain_done_answer a p → plain_answer a q ≡ plain_answer a p
plain_same a p q e g = grind arith

-- where the log has room, a memory with the same words and a longer log answers an access alike
pub plain_shadow_answer : (c : ℕ) (a : Access) (p q : PlainMemory) → PlainHasRoom c a p → PlainShadow c p q
    → plain_answer a q ≡ plain_answer a p
plain_shadow_answer c a p q f h = plain_same a p q (shadow_succeeds c a p q f h) (answer_same a p q h.words)

-- AND WHAT IT LEAVES
done_shadow : (c : ℕ) (a : Access) (p q : PlainMemory) → PlainShadow c p q
    → PlainShadow c (plain_done a p) (plain_done a q)
done_shadow c a p q h = grind (arith, done_log)

-- and after the access it has the same words again, its log longer by no more than the same bound
pub plain_shadow_next : (c : ℕ) (a : Access) (p q : PlainMemory) → PlainHasRoom c a p → PlainShadow c p q
    → PlainShadow c (plain_after a p) (plain_after a q)
plain_shadow_next c a p q f h =
    let s : succeeds_at (plain_address a) q ≡ succeeds_at (plain_address a) p = shadow_succeeds c a p q f h in
    elim (succeeds_at (plain_address a) p) as (λ b. succeeds_at (plain_address a) p ≡ b
    → PlainShadow c (plain_after a p) (plain_after a q)) [
      | true ↦ λ e. subst (λ y. PlainShadow c y (plain_after a q)) (sym (plain_after_success a p e))
          (subst (λ z. PlainShadow c (plain_done a p) z) (sym (plain_after_success a q (s ∙ e)))
          (done_shadow c a p q h))
      | false ↦ λ e. subst (λ y. PlainShadow c y (plain_after a q)) (sym (plain_after_bus_error a p e))
          (subst (λ z. PlainShadow c p z) (sym (plain_after_bus_error a q (s ∙ e))) h)
    ] refl

-- ONCE MORE
words_twice : (a : Access) (w : FinMap nat_cmp ℕ) → plain_words_after a (plain_words_after a w) ≡ plain_words_after a w
words_twice a w = grind (arith, port_map_insert_twice)

there_still : (a : Access) (w : FinMap nat_cmp ℕ) → contains_key w (plain_address a) ≡ true
    → contains_key (plain_words_after a w) (plain_address a) ≡ true
there_still a w e = grind (arith, port_map_get_same)

answer_twice : (a : Access) (p q : PlainMemory) → q.words ≡ plain_words_after a p.words
    → plain_done_answer a q ≡ plain_done_answer a p
answer_twice (Read at) p q e = ap (λ w. Value (unwrap_or (get w at) 0)) e
answer_twice (Write at word) p q e = refl

-- an access that is done once more is answered the same, and leaves one more transfer
pub record PlainTwice (c : ℕ) (a : Access) (p q : PlainMemory) : Type 0 where
  pub answer : plain_answer a q ≡ plain_answer a p
  pub shadow : PlainShadow (c + 1) (plain_after a p) (plain_after a q)

twice_done : (c : ℕ) (a : Access) (p q : PlainMemory) → succeeds_at (plain_address a) p ≡ true
    → PlainHasRoom (c + 1) a p → PlainShadow c (plain_done a p) q → PlainTwice c a p q
twice_done c a p q e f h =
    grind (
      arith,
      plain_after_success,
      answer_twice,
      contains_succeeds,
      done_log,
      plain_log_one_more,
      plain_same,
      there_still,
      words_twice,
    )

-- room for more copies is room for fewer
place_less : (c : ℕ) (a : Access) (p : PlainMemory) → PlainHasRoom (c + 1) a p → PlainHasRoom c a p
place_less c a p f = record { now = f.now; later = omega (arith, f.later) }

shadow_more : (c : ℕ) (p q : PlainMemory) → PlainShadow c p q → PlainShadow (c + 1) p q
shadow_more c p q h = record { words = h.words; room = h.room; most = omega (arith, h.most); least = h.least }

-- an access done once more is answered the same, and leaves one more transfer
pub plain_shadow_twice : (c : ℕ) (a : Access) (p q : PlainMemory) → PlainHasRoom (c + 1) a p →
    PlainShadow c (plain_after a p) q
    → PlainTwice c a p q
plain_shadow_twice c a p q f h =
    elim (succeeds_at (plain_address a) p) as (λ b. succeeds_at (plain_address a) p ≡ b → PlainTwice c a p q) [
      | true ↦ λ e. twice_done c a p q e f (subst (λ y. PlainShadow c y q) (plain_after_success a p e) h)
      | false ↦ λ e.
          (let k : PlainShadow c p q = subst (λ y. PlainShadow c y q) (plain_after_bus_error a p e) h in
          let less : PlainHasRoom c a p = place_less c a p f in
          record {
            answer = plain_shadow_answer c a p q less k;
            shadow = shadow_more c (plain_after a p) (plain_after a q) (plain_shadow_next c a p q less k);
          })
    ] refl

-- the log only grows, and the room stays
pub plain_grown : (a : Access) (p : PlainMemory) (b : Bool) → succeeds_at (plain_address a) p ≡ b
    → ((plain_after a p).room ≡ p.room) × (length p.log ≤ length (plain_after a p).log)
plain_grown a p b e = grind (arith, plain_after_bus_error, plain_after_success, plain_log_one_more)

-- a read leaves one transfer more at most, and all else as it was
pub plain_read_shadow : (at : ℕ) (p : PlainMemory) → PlainShadow 1 p (plain_after (Read at) p)
plain_read_shadow at p = elim (succeeds_at at p)
    as (λ b. succeeds_at at p ≡ b → PlainShadow 1 p (plain_after (Read at) p)) [
      | true ↦ λ e.
          (let is = plain_after_success (Read at) p e in
          let l = plain_log_one_more (Read at) p e in
          record {
            words = ap (λ x. x.words) is;
            room = ap (λ x. x.room) is;
            most = omega (arith, l);
            least = omega (arith, l);
          })
      | false ↦ λ e.
          (let is = plain_after_bus_error (Read at) p e in
          let l = ap (λ x. length x.log) is in
          record {
            words = ap (λ x. x.words) is;
            room = ap (λ x. x.room) is;
            most = omega (arith, l);
            least = omega (arith, l);
          })
    ] refl
