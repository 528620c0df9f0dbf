-- A memory where accesses were repeated has the words of the plain memory, and answers as it does, where the log has
-- room for the copies.
use Rattle.swd_host.proofs.Words.{◌≡◌, ◌+◌, ◌<◌, ◌≤◌, ℕ, Bool, false, refl, sym, ap, subst, arith, ◌∙◌, List, []}
use Rattle.swd_host.proofs.Words.{◌∷◌, length, take, zero, suc, get_or, inl, inr, drop, replicate}
use Rattle.swd_host.proofs.Words.{nat_lt, if◌then◌else◌, ◌==◌, Access, Bus, plain_address, bus_answer}
use Rattle.swd_host.proofs.Words.{bus_after, memory_after, All, HostReport, resume_repeats_of}
use Rattle.swd_host.proofs.Words.{list_with_resume_repeats, IsAfterResumeRepeats, Again, LogHasRoomForResume}
use Rattle.std.proofs.lemmas.List.{take_all}
use Rattle.swd_port.specs.PlainAnswers.{plain_after, succeeds_at}
use Rattle.swd_port.specs.PlainBus.{plain_of}
use Rattle.swd_port.specs.PlainBus.{IsPlain, plain_words_of, plain_logged}
use Rattle.swd_port.proofs.PlainBusLaws.{plain_of_next, is_plain_next, plain_answers}
use Rattle.swd_host.proofs.PlainShadows.{PlainShadow, PlainHasRoom, PlainTwice, plain_shadow_answer, plain_shadow_next}
use Rattle.swd_host.proofs.PlainShadows.{plain_shadow_twice, plain_grown}
use Rattle.swd_host.proofs.Lists.{host_list_memory_append, host_list_memory_next}
use Rattle.swd_host.proofs.Repeats.{resume_repeats_next}

-- WHERE THE BUS IS A PLAIN MEMORY
-- it stays one
pub is_plain_list : (list : List Access) (p : Bus) → IsPlain p → IsPlain (memory_after list p)
is_plain_list [] p h = h
is_plain_list (a ∷ list) p h = is_plain_list list (bus_after a p) (is_plain_next a p h)

-- plain memories, the second of which has a log up to c transfers longer, and is the same else
pub record ResumeShadow (c : ℕ) (p q : Bus) : Type 0 where
  pub first : IsPlain p
  pub second : IsPlain q
  pub same : PlainShadow c (plain_of p) (plain_of q)

-- there is room for the access, and for c transfers more
abbrev pub ResumeHasRoom : ℕ → Access → Bus → Type 0
ResumeHasRoom c a p = PlainHasRoom c a (plain_of p)

-- where the log has room, a memory with the same words and a longer log answers an access alike
pub resume_shadow_answer : (c : ℕ) (a : Access) (p q : Bus) → ResumeHasRoom c a p → ResumeShadow c p q
    → bus_answer a q ≡ bus_answer a p
resume_shadow_answer c a p q f h =
    plain_answers a q h.second ∙ (plain_shadow_answer c a (plain_of p) (plain_of q) f h.same
    ∙ sym (plain_answers a p h.first))

-- shadows of the memories after an access are shadows of the buses after it
shadow_after : (c : ℕ) (a : Access) (p q : Bus) → IsPlain p → IsPlain q
    → PlainShadow c (plain_after a (plain_of p)) (plain_after a (plain_of q))
    → ResumeShadow c (bus_after a p) (bus_after a q)
shadow_after c a p q h g s = record {
  first = is_plain_next a p h;
  second = is_plain_next a q g;
  same = subst (λ x. PlainShadow c x (plain_of (bus_after a q))) (sym (plain_of_next a p h))
      (subst (PlainShadow c (plain_after a (plain_of p))) (sym (plain_of_next a q g)) s);
}

-- and after the access it has the same words again, its log longer by no more than the same bound
pub resume_shadow_next : (c : ℕ) (a : Access) (p q : Bus) → ResumeHasRoom c a p → ResumeShadow c p q
    → ResumeShadow c (bus_after a p) (bus_after a q)
resume_shadow_next c a p q f h =
    shadow_after c a p q h.first h.second (plain_shadow_next c a (plain_of p) (plain_of q) f h.same)

-- an access that is done once more is answered the same, and leaves one more transfer
record Twice (c : ℕ) (a : Access) (p q : Bus) : Type 0 where
  answer : bus_answer a q ≡ bus_answer a p
  shadow : ResumeShadow (c + 1) (bus_after a p) (bus_after a q)

shadow_twice : (c : ℕ) (a : Access) (p q : Bus) → IsPlain p → ResumeHasRoom (c + 1) a p
    → ResumeShadow c (bus_after a p) q → Twice c a p q
shadow_twice c a p q is f h =
    let t : PlainTwice c a (plain_of p) (plain_of q) =
    plain_shadow_twice c a (plain_of p) (plain_of q) f
    (subst (λ x. PlainShadow c x (plain_of q)) (plain_of_next a p is) h.same) in
    record {
      answer = plain_answers a q h.second ∙ (t.answer ∙ sym (plain_answers a p is));
      shadow = shadow_after (c + 1) a p q is h.second t.shadow;
    }

-- the same with a weaker bound
pub shadow_few : (b c : ℕ) (p q : Bus) → b ≤ c → ResumeShadow b p q → ResumeShadow c p q
shadow_few b c p q l h =
    let m = h.same.most in
    record {
      first = h.first;
      second = h.second;
      same = record { words = h.same.words; room = h.same.room; most = omega (arith, l, m); least = h.same.least };
    }

-- a memory is a shadow of itself
pub shadow_self : (p : Bus) → IsPlain p → ResumeShadow 0 p p
shadow_self p h = record {
  first = h;
  second = h;
  same = record { words = refl; room = refl; most = omega arith; least = omega arith };
}

-- copies of one access
shadow_copies : (n c : ℕ) (a : Access) (p q : Bus) → IsPlain p → ResumeHasRoom (c + n) a p
    → ResumeShadow c (bus_after a p) q → ResumeShadow (c + n) (bus_after a p) (memory_after (replicate n a) q)
shadow_copies zero c a p q is f h = shadow_few c (c + zero) (bus_after a p) q (omega arith) h
shadow_copies (suc n) c a p q is f h =
    let t : Twice c a p q = shadow_twice c a p q is (record { now = f.now; later = omega (arith, f.later) }) h in
    let k : ResumeShadow (c + 1 + n) (bus_after a p) (memory_after (replicate n a) (bus_after a q)) =
    shadow_copies n (c + 1) a p (bus_after a q) is (record { now = f.now; later = omega (arith, f.later) }) t.shadow in
    shadow_few (c + 1 + n) (c + suc n) (bus_after a p) (memory_after (replicate n a) (bus_after a q)) (omega arith) k

-- HOW MANY COPIES stand before a place
abbrev below : ℕ → List ℕ → ℕ
below i [] = 0
below i (j ∷ js) = (if nat_lt j i then 1 else 0) + below i js

below_one : (i j : ℕ) → (if nat_lt j (i + 1) then 1 else 0) ≡ (if nat_lt j i then 1 else 0) + (if i == j then 1 else 0)
below_one i j = grind arith

below_next : (i : ℕ) (js : List ℕ) → below (i + 1) js ≡ below i js + resume_repeats_of i js
below_next i [] = refl
below_next i (j ∷ js) = let h = below_next i js in let e = below_one i j in omega (arith, h, e)

one_most : (b : Bool) → (if b then 1 else 0) ≤ 1
one_most b = grind arith

below_most : (i : ℕ) (js : List ℕ) → below i js ≤ length js
below_most i [] = omega arith
below_most i (j ∷ js) = let h = below_most i js in let e = one_most (nat_lt j i) in omega (arith, h, e)

below_none : (js : List ℕ) → below 0 js ≡ 0
below_none [] = refl
below_none (j ∷ js) =
    let h = below_none js in
    let e : nat_lt j 0 ≡ false = grind arith in
    rw e (omega (arith, h))

-- THE ROOM: the log only grows, and the room stays
room_list : (xs : List Access) (p : Bus) → IsPlain p → (plain_of (memory_after xs p)).room ≡ (plain_of p).room
room_list [] p h = refl
room_list (x ∷ xs) p h =
    room_list xs (bus_after x p) (is_plain_next x p h) ∙ (ap (λ m. m.room) (plain_of_next x p h)
    ∙ (plain_grown x (plain_of p) (succeeds_at (plain_address x) (plain_of p)) refl).0)

log_list : (xs : List Access) (p : Bus) → IsPlain p → plain_logged p ≤ plain_logged (memory_after xs p)
log_list [] p h = omega arith
log_list (x ∷ xs) p h =
    let l = log_list xs (bus_after x p) (is_plain_next x p h) in
    let g = (plain_grown x (plain_of p) (succeeds_at (plain_address x) (plain_of p)) refl).1 in
    let e = ap (λ m. length m.log) (plain_of_next x p h) in
    omega (arith, l, g, e)

pub resume_list_split : (i : ℕ) (xs : List Access) (p : Bus)
    → memory_after xs p ≡ memory_after (drop i xs) (memory_after (take i xs) p)
resume_list_split (suc i) (x ∷ xs) p = resume_list_split i xs (bus_after x p)
resume_list_split _ _ p = refl

log_take : (i : ℕ) (xs : List Access) (p : Bus) → IsPlain p
    → plain_logged (memory_after (take i xs) p) ≤ plain_logged (memory_after xs p)
log_take i xs p is =
    let h = log_list (drop i xs) (memory_after (take i xs) p) (is_plain_list (take i xs) p is) in
    let e = ap plain_logged (resume_list_split i xs p) in
    omega (arith, h, e)

-- there is room for the list, for one more, and for c more, in a plain memory
pub record ResumeRoomy (c : ℕ) (list : List Access) (m : Bus) : Type 0 where
  pub plain : IsPlain m
  pub one : plain_logged (memory_after list m) + 1 ≤ (plain_of m).room
  pub all : plain_logged (memory_after list m) + c ≤ (plain_of m).room

-- the room that the log of a whole list has is there before each access
pub resume_room_at : (list : List Access) (i c : ℕ) (d : Access) (m : Bus) → i < length list
    → ResumeRoomy c list m → ResumeHasRoom c (get_or list i d) (memory_after (take i list) m)
resume_room_at list i c d m l room =
    let a : Access = get_or list i d in
    let p : Bus = memory_after (take i list) m in
    let here = log_take i list m room.plain in
    let next = log_take (i + 1) list m room.plain in
    let same = room_list (take i list) m room.plain in
    let is : plain_of (memory_after (take (i + 1) list) m) ≡ plain_after a (plain_of p) =
    ap plain_of (host_list_memory_next list i d m l) ∙ plain_of_next a p (is_plain_list (take i list) m room.plain) in
    let long = ap (λ x. length x.log) is in
    let one = room.one in
    let all = room.all in
    record { now = omega (arith, here, same, one); later = omega (arith, next, same, long, all) }

pub resume_roomy_less : (c c' : ℕ) (list : List Access) (m : Bus) → c' ≤ c → ResumeRoomy c list m
    → ResumeRoomy c' list m
resume_roomy_less c c' list m l h = record { plain = h.plain; one = h.one; all = omega (arith, h.all) }

-- THE WHOLE
after_shadow : (js : List ℕ) (i : ℕ) (list : List Access) (d : Access) (m : Bus) → i ≤ length list
    → ResumeRoomy (length js) list m
    → ResumeShadow (below i js) (memory_after (take i list) m)
    (memory_after (list_with_resume_repeats js 0 (take i list)) m)
after_shadow js zero list d m l room =
    let h = below_none js in
    shadow_few 0 (below 0 js) m m (omega (arith, h)) (shadow_self m room.plain)
after_shadow js (suc i) list d m l room =
    let a : Access = get_or list i d in
    let p : Bus = memory_after (take i list) m in
    let q : Bus = memory_after (list_with_resume_repeats js 0 (take i list)) m in
    let n : ℕ = resume_repeats_of i js in
    let s : suc i ≡ i + 1 = omega arith in
    let low : i < length list = omega (arith, l) in
    let few : below (i + 1) js ≤ length js = below_most (i + 1) js in
    let e : below (i + 1) js ≡ below i js + n = below_next i js in
    let place : (c : ℕ) → c ≤ below (i + 1) js → ResumeHasRoom c a p =
    λ c less. resume_room_at list i c d m low (resume_roomy_less (length js) c list m (omega (arith, few)) room) in
    let one : ResumeShadow (below i js) (bus_after a p) (bus_after a q) =
    resume_shadow_next (below i js) a p q (place (below i js) (omega (arith, e)))
    (after_shadow js i list d m (omega (arith, l)) room) in
    let all : ResumeShadow (below i js + n) (bus_after a p) (memory_after (replicate n a) (bus_after a q)) =
    shadow_copies n (below i js) a p (bus_after a q) (is_plain_list (take i list) m room.plain)
    (place (below i js + n) (omega (arith, e))) one in
    let plain : memory_after (take (i + 1) list) m ≡ bus_after a p = host_list_memory_next list i d m low in
    let there : memory_after (list_with_resume_repeats js 0 (take (i + 1) list)) m
    ≡ memory_after (replicate n a) (bus_after a q) =
    ap (λ xs. memory_after xs m) (resume_repeats_next js list i d low)
    ∙ host_list_memory_append (list_with_resume_repeats js 0 (take i list)) (a ∷ replicate n a) m in
    subst (λ n. ResumeShadow (below n js) (memory_after (take n list) m)
    (memory_after (list_with_resume_repeats js 0 (take n list)) m))
    (sym s)
    (subst (λ n. ResumeShadow n (memory_after (take (i + 1) list) m)
    (memory_after (list_with_resume_repeats js 0 (take (i + 1) list)) m))
    (sym e)
    (subst (λ x. ResumeShadow (below i js + n) x (memory_after (list_with_resume_repeats js 0 (take (i + 1) list)) m))
    (sym plain) (subst (λ y. ResumeShadow (below i js + n) (bus_after a p) y) (sym there) all)))

-- the next access is answered as in the plain memory
pub resume_answered_next : (js : List ℕ) (i : ℕ) (list : List Access) (d : Access) (m q : Bus) → i < length list
    → ResumeRoomy (length js) list m → IsAfterResumeRepeats js i list m q
    → bus_answer (get_or list i d) q ≡ bus_answer (get_or list i d) (memory_after (take i list) m)
resume_answered_next js i list d m q l room h =
    let few : below i js ≤ length js = below_most i js in
    resume_shadow_answer (below i js) (get_or list i d) (memory_after (take i list) m) q
    (resume_room_at list i (below i js) d m l (resume_roomy_less (length js) (below i js) list m few room))
    (subst (λ y. ResumeShadow (below i js) (memory_after (take i list) m) y) (sym h.memory)
    (after_shadow js i list d m (omega (arith, l)) room))

-- and so is the last one where it is done once more
pub resume_answered_again : (js : List ℕ) (k : ℕ) (list : List Access) (d : Access) (m q : Bus)
    → k < length list → LogHasRoomForResume js list m → IsAfterResumeRepeats js (k + 1) list m q
    → bus_answer (get_or list k d) q ≡ bus_answer (get_or list k d) (memory_after (take k list) m)
resume_answered_again js k list d m q l room h =
    let c : ℕ = below (k + 1) js in
    let few : c ≤ length js = below_most (k + 1) js in
    let there : ResumeShadow c (memory_after (take (k + 1) list) m) q =
    subst (λ y. ResumeShadow c (memory_after (take (k + 1) list) m) y) (sym h.memory)
    (after_shadow js (k + 1) list d m (omega (arith, l))
    (record { plain = room.plain; one = omega (arith, room.room); all = omega (arith, room.room) })) in
    (shadow_twice c (get_or list k d) (memory_after (take k list) m) q (is_plain_list (take k list) m room.plain)
    (resume_room_at list k (c + 1) d m l
    (record { plain = room.plain; one = omega (arith, room.room); all = omega (arith, few, room.room) }))
    (subst (λ x. ResumeShadow c x q) (host_list_memory_next list k d m l) there)).answer

-- a whole list, some of whose accesses were repeated, has the words of the plain memory
pub resume_again_words : (more js : List ℕ) (list : List Access) (m : Bus) (told : HostReport)
    (now : Bus) (d : Access) → length more ≤ length js + 1 → LogHasRoomForResume js list m → told.ended ≡ All
    → Again more list m told now → plain_words_of now ≡ plain_words_of (memory_after list m)
resume_again_words more js list m told now d few room all (k, a) =
    let whole : k ≡ length list = a.all all in
    let roomy : ResumeRoomy (length more) list m =
    record { plain = room.plain; one = omega (arith, room.room); all = omega (arith, room.room, few) } in
    let here : IsAfterResumeRepeats more k list m now = elim a.memory [
      | inl h ↦ h
      | inr h ↦ absurd ((a.begun h.0).1 all)
    ] in
    let shadow : ResumeShadow (below k more) (memory_after (take k list) m)
    (memory_after (list_with_resume_repeats more 0 (take k list)) m) =
    after_shadow more k list d m (omega arith) roomy in
    ap plain_words_of here.memory ∙ (shadow.same.words
    ∙ ap (λ xs. plain_words_of (memory_after xs m))
    (ap (λ n. take n list) whole ∙ take_all (length list) list (omega arith)))
