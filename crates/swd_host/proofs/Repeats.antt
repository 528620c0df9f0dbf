-- Lists where accesses are repeated, one access more at a time: the list, and the memory after it.
use Rattle.swd_host.proofs.Words.{◌≡◌, ◌+◌, ◌<◌, ℕ, false, refl, sym, ap, subst, arith, ◌∙◌, List, [], ◌∷◌, ◌++◌}
use Rattle.swd_host.proofs.Words.{length, take, get_or, suc, replicate, ◌==◌, if◌then◌else◌, Access, Bus}
use Rattle.swd_host.proofs.Words.{bus_after, memory_after, resume_repeats_of, list_with_resume_repeats}
use Rattle.swd_host.proofs.Words.{ResumePlacesBelow, IsAfterResumeRepeats}
use Rattle.std.proofs.lemmas.Grind.{take_at_read}
use Rattle.std.proofs.lemmas.List.{append-nil, append_assoc, replicate_more, length-take-le}
use Rattle.swd_host.proofs.Lists.{host_list_memory_append}

-- THE LIST
repeated_append : (js : List ℕ) (i : ℕ) (xs : List Access) (a : Access)
    → list_with_resume_repeats js i (xs ++ a ∷ []) ≡ list_with_resume_repeats js i xs ++ a
    ∷ replicate (resume_repeats_of (i + length xs) js) a
repeated_append js i [] a =
    let none : i ≡ i + 0 = omega arith in
    ap (λ l. a ∷ l) (append-nil (replicate (resume_repeats_of i js) a)) ∙ ap
    (λ n. a ∷ replicate (resume_repeats_of n js) a) none
repeated_append js i (x ∷ xs) a =
    let same : i + 1 + length xs ≡ i + suc (length xs) = omega arith in
    let h : list_with_resume_repeats js (i + 1) (xs ++ a ∷ [])
    ≡ list_with_resume_repeats js (i + 1) xs ++ a ∷ replicate (resume_repeats_of (i + suc (length xs)) js) a =
    subst (λ n. list_with_resume_repeats js (i + 1) (xs ++ a ∷ []) ≡ list_with_resume_repeats js (i + 1) xs ++ a
    ∷ replicate (resume_repeats_of n js) a) same (repeated_append js (i + 1) xs a) in
    ap (λ l. x ∷ (replicate (resume_repeats_of i js) x ++ l)) h
    ∙ ap (λ l. x ∷ l) (sym (append_assoc (replicate (resume_repeats_of i js) x) (list_with_resume_repeats js (i + 1) xs)
    _))

-- with one access more, a list with repetitions ends in that access and one copy for each occurrence of its place
pub resume_repeats_next : (js : List ℕ) (list : List Access) (i : ℕ) (d : Access) → i < length list
    → list_with_resume_repeats js 0 (take (i + 1) list) ≡ list_with_resume_repeats js 0 (take i list) ++ get_or list i d
    ∷ replicate (resume_repeats_of i js) (get_or list i d)
resume_repeats_next js list i d l = grind (arith, length-take-le, repeated_append, take_at_read)

-- a list of which no place is repeated is unchanged
pub resume_repeats_none : (i : ℕ) (xs : List Access) → list_with_resume_repeats [] i xs ≡ xs
resume_repeats_none i [] = refl
resume_repeats_none i (x ∷ xs) = ap (λ l. x ∷ l) (resume_repeats_none (i + 1) xs)

-- THE PLACES
differs : (i j : ℕ) → j < i → (i == j) ≡ false
differs i j l = grind arith

below_times : (i : ℕ) (js : List ℕ) → ResumePlacesBelow i js → resume_repeats_of i js ≡ 0
below_times i [] h = refl
below_times i (j ∷ js) h = rw (differs i j h.0) (let e = below_times i js h.1 in omega (arith, e))

below_more : (i : ℕ) (js : List ℕ) → ResumePlacesBelow i js → ResumePlacesBelow (i + 1) js
below_more i [] h = h
below_more i (j ∷ js) h = (omega (arith, h.0), below_more i js h.1)

below_append : (i : ℕ) (js : List ℕ) (j : ℕ) → j < i → ResumePlacesBelow i js → ResumePlacesBelow i (js ++ j ∷ [])
below_append i [] j l h = (l, h)
below_append i (k ∷ js) j l h = (h.0, below_append i js j l h.1)

times_append : (i j : ℕ) (js : List ℕ) → resume_repeats_of i (js ++ j ∷ []) ≡ resume_repeats_of i js
    + (if i == j then 1 else 0)
times_append i j [] = omega arith
times_append i j (k ∷ js) = let h = times_append i j js in omega (arith, h)

repeated_same : (js ks : List ℕ) (i : ℕ) (xs : List Access)
    → ((n : ℕ) → n < i + length xs → resume_repeats_of n ks ≡ resume_repeats_of n js)
    → list_with_resume_repeats ks i xs ≡ list_with_resume_repeats js i xs
repeated_same js ks i [] h = refl
repeated_same js ks i (x ∷ xs) h =
    ap (λ n. x ∷ (replicate n x ++ list_with_resume_repeats ks (i + 1) xs)) (h i (omega arith))
    ∙ ap (λ l. x ∷ (replicate (resume_repeats_of i js) x ++ l))
    (repeated_same js ks (i + 1) xs (λ n l. h n (omega arith)))

-- THE MEMORY
-- the next access, done once
pub resume_after_next : (js : List ℕ) (i : ℕ) (list : List Access) (d : Access) (m q : Bus) → i < length list
    → ResumePlacesBelow i js → IsAfterResumeRepeats js i list m q
    → IsAfterResumeRepeats js (i + 1) list m (bus_after (get_or list i d) q)
resume_after_next js i list d m q l none h =
    let a : Access = get_or list i d in
    let once : list_with_resume_repeats js 0 (take i list) ++ a ∷ []
    ≡ list_with_resume_repeats js 0 (take (i + 1) list) =
    ap (λ n. list_with_resume_repeats js 0 (take i list) ++ a ∷ replicate n a) (sym (below_times i js none))
    ∙ sym (resume_repeats_next js list i d l) in
    record {
      places = below_more i js none;
      memory = ap (λ x. bus_after a x) h.memory
          ∙ (sym (host_list_memory_append (list_with_resume_repeats js 0 (take i list)) (a ∷ []) m) ∙ ap
          (λ xs. memory_after xs m) once);
    }

-- the last access, once more
pub resume_after_again : (js : List ℕ) (k : ℕ) (list : List Access) (d : Access) (m q : Bus) → k < length list
    → IsAfterResumeRepeats js (k + 1) list m q
    → IsAfterResumeRepeats (js ++ k ∷ []) (k + 1) list m (bus_after (get_or list k d) q)
resume_after_again js k list d m q l h =
    let a : Access = get_or list k d in
    let ks : List ℕ = js ++ k ∷ [] in
    let one : resume_repeats_of k ks ≡ resume_repeats_of k js + 1 = times_append k k js ∙ grind arith in
    let many : length (take k list) ≡ k = length-take-le k list (omega arith) in
    let before : list_with_resume_repeats ks 0 (take k list) ≡ list_with_resume_repeats js 0 (take k list) =
    repeated_same js ks 0 (take k list) (λ n low. times_append n k js
    ∙ (let other : (n == k) ≡ false = grind (arith, many) in rw other (omega arith))) in
    let left : List Access = list_with_resume_repeats js 0 (take k list) in
    let whole : list_with_resume_repeats ks 0 (take (k + 1) list) ≡ (left ++ a ∷ replicate (resume_repeats_of k js) a)
    ++ a ∷ [] =
    resume_repeats_next ks list k d l ∙ (ap (λ xs. xs ++ a ∷ replicate (resume_repeats_of k ks) a) before
    ∙ (ap (λ n. left ++ a ∷ replicate n a) one
    ∙ (ap (λ xs. left ++ a ∷ xs) (sym (replicate_more (resume_repeats_of k js) a))
    ∙ sym (append_assoc left (a ∷ replicate (resume_repeats_of k js) a) (a ∷ []))))) in
    record {
      places = below_append (k + 1) js k (omega arith) h.places;
      memory = ap (λ x. bus_after a x) h.memory
          ∙ (ap (λ xs. bus_after a (memory_after xs m)) (resume_repeats_next js list k d l)
          ∙ (sym (host_list_memory_append (left ++ a ∷ replicate (resume_repeats_of k js) a) (a ∷ []) m)
          ∙ ap (λ xs. memory_after xs m) (sym whole)));
    }

-- no place is repeated
pub resume_after_none : (k : ℕ) (list : List Access) (m now : Bus) → now ≡ memory_after (take k list) m
    → IsAfterResumeRepeats [] k list m now
resume_after_none k list m now e = grind (arith, resume_repeats_none)
