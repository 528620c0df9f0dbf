-- What a call leaves of the words, however often it was resumed, and whatever room the log has: each word is the one
-- before, or the one that is written at its address; what was read is the word before; what was written is there.
use Rattle.std.proofs.Common.{◌≡◌, ◌+◌, ◌≤◌, ℕ, zero, suc, true, false, refl, sym, ap, subst, arith, ◌∙◌, List, []}
use Rattle.std.proofs.Common.{◌∷◌, ◌++◌, length, take, drop, Some, inl, inr, ◌⊎◌}
use Rattle.std.specs.Prelude.{unwrap_or}
use Rattle.std.proofs.lemmas.Bool.{cases_eq}
use Rattle.std.specs.Ordering.{nat_cmp}
use Rattle.std.specs.FinMap.{FinMap, get}
use Rattle.swd_port.specs.declared.access.Access.{Access}
use Rattle.swd_port.specs.declared.access.Access.TheVariants.{Read, Write}
use Rattle.swd_port.specs.declared.access.Answer.{Answer}
use Rattle.swd_port.specs.declared.access.Answer.TheVariants.{Value, Written, BusFault}
use Rattle.swd_port.specs.PlainMemory.{PlainMemory, plain_address}
use Rattle.swd_port.specs.PlainAnswers.{plain_done_answer, plain_done, plain_after}
use Rattle.swd_port.specs.PlainAnswers.{plain_answer, succeeds_at}
use Rattle.swd_port.specs.Bus.{Bus, bus_after, bus_answer}
use Rattle.swd_port.specs.PlainBus.{plain_of}
use Rattle.swd_port.proofs.MapLemmas.{port_map_get_other, port_map_get_same}
use Rattle.swd_host.specs.Again.{resume_added}
use Rattle.swd_host.specs.Chains.{ResumeChain, first, again}
use Rattle.swd_port.specs.PlainBus.{IsPlain, plain_words_of}
use Rattle.swd_host.specs.Plain.{memory_after, answers_of}
use Rattle.swd_host.proofs.ReadChains.{resume_chain_plain}
use Rattle.swd_port.proofs.PlainBusLaws.{is_plain_next, plain_answers, plain_of_next}
use Rattle.swd_host.specs.Reports.{HostReport}
use Rattle.swd_image.specs.Bytes.{image_word_in}

after_true : (a : Access) (p : PlainMemory) → succeeds_at (plain_address a) p ≡ true → plain_after a p ≡ plain_done a p
after_true a p e = rw e refl

after_false : (a : Access) (p : PlainMemory) → succeeds_at (plain_address a) p ≡ false → plain_after a p ≡ p
after_false a p e = rw e refl

answer_true : (a : Access) (p : PlainMemory) → succeeds_at (plain_address a) p ≡ true
    → plain_answer a p ≡ plain_done_answer a p
answer_true a p e = rw e refl

answer_false : (a : Access) (p : PlainMemory) → succeeds_at (plain_address a) p ≡ false → plain_answer a p ≡ BusFault
answer_false a p e = rw e refl

-- Each write is of the word for its address, and only some addresses are written; these are the words before.
module _ (want : ℕ → ℕ) (P : ℕ → Type 0) (words : FinMap nat_cmp ℕ) where
  abbrev pub IsIn : Access → Type 0
  IsIn (Read at) = Unit {0}
  IsIn (Write at word) = (word ≡ want at) × P at

  abbrev pub AllIn : List Access → Type 0
  AllIn [] = Unit {0}
  AllIn (a ∷ list) = IsIn a × AllIn list

  -- a word is the one before, or what is written there
  abbrev pub Held : FinMap nat_cmp ℕ → Type 0
  Held now = (q : ℕ) → (get now q ≡ get words q) ⊎ (P q × (get now q ≡ Some (want q)))

  -- what was written stays
  abbrev pub Later : FinMap nat_cmp ℕ → FinMap nat_cmp ℕ → Type 0
  Later old now = (q : ℕ) → get old q ≡ Some (want q) → get now q ≡ Some (want q)

  -- what an answer means for an access
  abbrev pub Tells : FinMap nat_cmp ℕ → Access → Answer → Type 0
  Tells now (Read at) (Value word) = (word ≡ image_word_in words at) ⊎ P at
  Tells now (Read at) Written = Unit {0}
  Tells now (Read at) BusFault = Unit {0}
  Tells now (Write at word) Written = get now at ≡ Some (want at)
  Tells now (Write at word) (Value other) = Unit {0}
  Tells now (Write at word) BusFault = Unit {0}

  abbrev pub AllTell : FinMap nat_cmp ℕ → List Access → List Answer → Type 0
  AllTell now [] answers = Unit {0}
  AllTell now (a ∷ list) [] = Unit {0}
  AllTell now (a ∷ list) (x ∷ answers) = Tells now a x × AllTell now list answers

  pub all_drop : (n : ℕ) (list : List Access) → AllIn list → AllIn (drop n list)
  all_drop zero list h = h
  all_drop (suc n) [] h = tt
  all_drop (suc n) (a ∷ list) h = all_drop n list h.1

  tells_later : (old now : FinMap nat_cmp ℕ) (a : Access) (x : Answer) → Later old now → Tells old a x → Tells now a x
  tells_later old now (Read at) (Value word) l h = h
  tells_later old now (Read at) Written l h = tt
  tells_later old now (Read at) BusFault l h = tt
  tells_later old now (Write at word) Written l h = l at h
  tells_later old now (Write at word) (Value other) l h = tt
  tells_later old now (Write at word) BusFault l h = tt

  -- what answers say of the words is still so where what was written stays
  pub all_later : (old now : FinMap nat_cmp ℕ) (list : List Access) (xs : List Answer) → Later old now
      → AllTell old list xs → AllTell now list xs
  all_later old now [] xs l h = tt
  all_later old now (a ∷ list) [] l h = tt
  all_later old now (a ∷ list) (x ∷ xs) l h = (tells_later old now a x l h.0, all_later old now list xs l h.1)

  -- ONE ACCESS
  record Stepped (a : Access) (p : PlainMemory) : Type 0 where
    held : Held (plain_after a p).words
    later : Later p.words (plain_after a p).words
    tells : Tells (plain_after a p).words a (plain_answer a p)

  refused : (a : Access) (p : PlainMemory) → Held p.words → succeeds_at (plain_address a) p ≡ false → Stepped a p
  refused a p h e =
      let same : (plain_after a p).words ≡ p.words = ap (λ x. x.words) (after_false a p e) in
      record {
        held = subst Held (sym same) h;
        later = subst (Later p.words) (sym same) (λ q is. is);
        tells = subst (Tells (plain_after a p).words a) (sym (answer_false a p e)) (none a);
      }
    where
      none : (a : Access) → Tells (plain_after a p).words a BusFault
      none (Read at) = tt
      none (Write at word) = tt

  read_told : (at : ℕ) (p : PlainMemory) → Held p.words → (image_word_in p.words at ≡ image_word_in words at) ⊎ P at
  read_told at p h =
      elim (h at) [ inl same ↦ inl (ap (λ o. unwrap_or o 0) same) | inr both ↦ inr both.0 ]

  made : (a : Access) (p : PlainMemory) → IsIn a → Held p.words → succeeds_at (plain_address a) p ≡ true → Stepped a p
  made (Read at) p i h e =
      let same : (plain_after (Read at) p).words ≡ p.words = ap (λ x. x.words) (after_true (Read at) p e) in
      record {
        held = subst Held (sym same) h;
        later = subst (Later p.words) (sym same) (λ q is. is);
        tells = subst (Tells (plain_after (Read at) p).words (Read at)) (sym (answer_true (Read at) p e))
            (read_told at p h);
      }
  made (Write at word) p i h e =
      let now : FinMap nat_cmp ℕ = (plain_done (Write at word) p).words in
      let same : (plain_after (Write at word) p).words ≡ now = ap (λ x. x.words) (after_true (Write at word) p e) in
      record {
        held = subst Held (sym same) (λ q. held_at q (cases_eq q at));
        later = subst (Later p.words) (sym same) (λ q is. later_at q is (cases_eq q at));
        tells = subst (Tells (plain_after (Write at word) p).words (Write at word))
            (sym (answer_true (Write at word) p e)) (ap (λ w. get w at) same ∙ written at refl);
      }
    where
      written : (q : ℕ) → q ≡ at → get (plain_done (Write at word) p).words q ≡ Some (want q)
      written q e = port_map_get_same p.words at word q e ∙ ap (λ w. Some w) (i.0 ∙ ap want (sym e))

      held_at : (q : ℕ) → (q ≡ at) ⊎ (q ≡ at → ⊥) → (get (plain_done (Write at word) p).words q ≡ get words q)
          ⊎ (P q × (get (plain_done (Write at word) p).words q ≡ Some (want q)))
      held_at q (inl e) = inr (subst P (sym e) i.1, written q e)
      held_at q (inr none) =
          let same : get (plain_done (Write at word) p).words q ≡ get p.words q =
          port_map_get_other p.words at word q none in
          elim (h q) [ inl old ↦ inl (same ∙ old) | inr both ↦ inr (both.0, same ∙ both.1) ]

      later_at : (q : ℕ) → get p.words q ≡ Some (want q) → (q ≡ at) ⊎ (q ≡ at → ⊥)
          → get (plain_done (Write at word) p).words q ≡ Some (want q)
      later_at q is (inl e) = written q e
      later_at q is (inr none) = port_map_get_other p.words at word q none ∙ is

  stepped : (a : Access) (p : PlainMemory) → IsIn a → Held p.words → Stepped a p
  stepped a p i h = elim (succeeds_at (plain_address a) p) as (λ b. succeeds_at (plain_address a) p ≡ b → Stepped a p)
      [ true ↦ λ e. made a p i h e | false ↦ λ e. refused a p h e ] refl

  -- the same of a bus that is a plain memory
  record Moved (a : Access) (p : Bus) : Type 0 where
    held : Held (plain_words_of (bus_after a p))
    later : Later (plain_words_of p) (plain_words_of (bus_after a p))
    tells : Tells (plain_words_of (bus_after a p)) a (bus_answer a p)

  moved : (a : Access) (p : Bus) → IsPlain p → IsIn a → Held (plain_words_of p) → Moved a p
  moved a p plain i h =
      let s = stepped a (plain_of p) i h in
      let e : plain_after a (plain_of p) ≡ plain_of (bus_after a p) = sym (plain_of_next a p plain) in
      record {
        held = subst (λ m. Held m.words) e s.held;
        later = subst (λ m. Later (plain_words_of p) m.words) e s.later;
        tells = subst (Tells (plain_words_of (bus_after a p)) a) (sym (plain_answers a p plain))
            (subst (λ m. Tells m.words a (plain_answer a (plain_of p))) e s.tells);
      }

  -- SOME ACCESSES OF A LIST
  record Ran (n : ℕ) (list : List Access) (p : Bus) : Type 0 where
    held : Held (plain_words_of (memory_after (take n list) p))
    later : Later (plain_words_of p) (plain_words_of (memory_after (take n list) p))

  ran : (n : ℕ) (list : List Access) (p : Bus) → IsPlain p → AllIn list → Held (plain_words_of p) → Ran n list p
  ran zero list p plain i h = record { held = h; later = λ q is. is }
  ran (suc n) [] p plain i h = record { held = h; later = λ q is. is }
  ran (suc n) (a ∷ list) p plain i h =
      let s = moved a p plain i.0 h in
      let r = ran n list (bus_after a p) (is_plain_next a p plain) i.1 s.held in
      record { held = r.held; later = λ q is. r.later q (s.later q is) }

  ran_tells : (k n : ℕ) (list : List Access) (p : Bus) → k ≤ n → IsPlain p → AllIn list → Held (plain_words_of p)
      → AllTell (plain_words_of (memory_after (take n list) p)) list (answers_of (take k list) p)
  ran_tells k n [] p l plain i h = tt
  ran_tells zero n (a ∷ list) p l plain i h = tt
  ran_tells (suc k) zero (a ∷ list) p l plain i h = absurd (omega arith)
  ran_tells (suc k) (suc n) (a ∷ list) p l plain i h =
      let s = moved a p plain i.0 h in
      let next = is_plain_next a p plain in
      let now = memory_after (take n list) (bus_after a p) in (
        tells_later (plain_words_of (bus_after a p)) (plain_words_of now) a (bus_answer a p)
            (ran n list (bus_after a p) next i.1 s.held).later s.tells,
        ran_tells k n list (bus_after a p) (omega arith) next i.1 s.held,
      )

  tells_append : (now : FinMap nat_cmp ℕ) (list : List Access) (xs ys : List Answer) → AllTell now list xs
      → AllTell now (drop (length xs) list) ys → AllTell now list (xs ++ ys)
  tells_append now [] xs ys h g = tt
  tells_append now (a ∷ list) [] ys h g = g
  tells_append now (a ∷ list) (x ∷ xs) ys h g = (h.0, tells_append now list xs ys h.1 g)

  -- A CALL, RESUMED
  pub record Kept (list : List Access) (old now : FinMap nat_cmp ℕ) (answers : List Answer) : Type 0 where
    pub held : Held now
    pub later : Later old now
    pub tells : AllTell now list answers

  -- a call, however often it was resumed, leaves each word as before or as it is to be written there; a read word is
  -- the one before, unless its address is written; a written word is there, and stays
  pub chain_keeps : (limit : ℕ) (list : List Access) (m : Bus) (calls : List HostReport) (told : HostReport)
      (now : Bus)
      → IsPlain m → AllIn list → Held (plain_words_of m) → ResumeChain limit list m calls told now
      → Kept list (plain_words_of m) (plain_words_of now) told.answers
  chain_keeps limit list m calls told now plain i h (first fits) =
      let k = fits.0 in
      let fit = fits.1 in
      let j = fit.memory.0 in
      let is : now ≡ memory_after (take (k + j) list) m = fit.memory.2 in
      let r = ran (k + j) list m plain i h in
      record {
        held = subst (λ x. Held (plain_words_of x)) (sym is) r.held;
        later = subst (λ x. Later (plain_words_of m) (plain_words_of x)) (sym is) r.later;
        tells = subst (AllTell (plain_words_of now) list) (sym fit.answers)
            (subst (λ x. AllTell (plain_words_of x) list (answers_of (take k list) m)) (sym is)
            (ran_tells k (k + j) list m (omega arith) plain i h));
      }
  chain_keeps limit list m calls told now plain i h
      (again {calls = before} {earlier = earlier} {before = left} chain own kept begun fits) =
      let c = chain_keeps limit list m before earlier left plain i h chain in
      let plain_left = resume_chain_plain limit list m before earlier left plain chain in
      let k = fits.0 in
      let fit = fits.1 in
      let j = fit.memory.0 in
      let rest : List Access = drop (length earlier.answers) list in
      let inside : AllIn rest = all_drop (length earlier.answers) list i in
      let is : now ≡ memory_after (take (k + j) rest) left = fit.memory.2 in
      let r = ran (k + j) rest left plain_left inside c.held in
      let later : Later (plain_words_of left) (plain_words_of now) =
      subst (λ x. Later (plain_words_of left) (plain_words_of x)) (sym is) r.later in
      let added : AllTell (plain_words_of now) rest (resume_added earlier told) =
      subst (AllTell (plain_words_of now) rest) (sym fit.answers)
      (subst (λ x. AllTell (plain_words_of x) rest (answers_of (take k rest) left)) (sym is)
      (ran_tells k (k + j) rest left (omega arith) plain_left inside c.held)) in
      record {
        held = subst (λ x. Held (plain_words_of x)) (sym is) r.held;
        later = λ q is. later q (c.later q is);
        tells = subst (AllTell (plain_words_of now) list) (sym kept)
            (tells_append (plain_words_of now) list earlier.answers (resume_added earlier told)
            (all_later (plain_words_of left) (plain_words_of now) list earlier.answers later c.tells) added);
      }
