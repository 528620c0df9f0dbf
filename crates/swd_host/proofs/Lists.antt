-- Lists of accesses, one access more at a time: that they are valid, their answers, and the memory after them.
use Rattle.swd_host.proofs.Words.{◌≡◌, ◌+◌, ◌<◌, ℕ, true, refl, ap, subst, arith, List, [], ◌∷◌, ◌++◌, length, take}
use Rattle.swd_host.proofs.Words.{zero, suc, get_or, Option, Some, None, Access, Bus, bus_answer, bus_after}
use Rattle.swd_host.proofs.Words.{continues_burst, memory_after, answers_of, IsHostAccess, AreHostAccesses}
use Rattle.swd_host.proofs.Words.{HostNextAccess, BurstContinuesAt}
use Rattle.std.specs.Prelude.{IfSome}
use Rattle.std.proofs.lemmas.Grind.{take_at_read}
use Rattle.std.proofs.lemmas.Bool.{eqb-true}
use Rattle.swd_host.specs.Plain.{host_access_is_aligned}
use Rattle.swd_host.specs.Accepting.{HostAccessHasRanges}

-- WHAT THEY LEAVE, AND WHAT THEY ARE ANSWERED
pub host_list_memory_append : (xs ys : List Access) (m : Bus)
    → memory_after (xs ++ ys) m ≡ memory_after ys (memory_after xs m)
host_list_memory_append [] ys m = refl
host_list_memory_append (x ∷ xs) ys m = host_list_memory_append xs ys (bus_after x m)

-- the answers to one list and then another are those to the first, and those to the second over the memory after it
pub host_list_answers_append : (xs ys : List Access) (m : Bus)
    → answers_of (xs ++ ys) m ≡ answers_of xs m ++ answers_of ys (memory_after xs m)
host_list_answers_append [] ys m = refl
host_list_answers_append (x ∷ xs) ys m = ap (λ rest. bus_answer x m ∷ rest)
    (host_list_answers_append xs ys (bus_after x m))

-- the memory after i + 1 accesses is that of the access at i over the memory after i
pub host_list_memory_next : (list : List Access) (i : ℕ) (d : Access) (m : Bus) → i < length list
    → memory_after (take (i + 1) list) m ≡ bus_after (get_or list i d) (memory_after (take i list) m)
host_list_memory_next list i d m l = grind (arith, host_list_memory_append, take_at_read)

-- the answers to i + 1 accesses are those to i, and the answer to the access at i over the memory after those
pub host_list_answers_next : (list : List Access) (i : ℕ) (d : Access) (m : Bus) → i < length list
    → answers_of (take (i + 1) list) m
    ≡ answers_of (take i list) m ++ bus_answer (get_or list i d) (memory_after (take i list) m) ∷ []
host_list_answers_next list i d m l = grind (arith, host_list_answers_append, take_at_read)

-- THE CHECKS OF A LIST
pub host_list_access_valid : (list : List Access) (i : ℕ) (d : Access) → i < length list → AreHostAccesses list
    → IsHostAccess (get_or list i d)
host_list_access_valid [] i d l h = absurd (omega arith)
host_list_access_valid (x ∷ list) zero d l h = h.0
host_list_access_valid (x ∷ list) (suc i) d l h = host_list_access_valid list i d (omega arith) h.1

-- an access whose numbers have 32 bits and whose address is aligned is valid
pub host_access_valid : (a : Access) → HostAccessHasRanges a → host_access_is_aligned a ≡ true → IsHostAccess a
host_access_valid a h e = grind (arith, eqb-true)

are_more : (xs : List Access) (a : Access) → AreHostAccesses xs → IsHostAccess a → AreHostAccesses (xs ++ a ∷ [])
are_more [] a h i = (i, tt)
are_more (x ∷ xs) a h i = (h.0, are_more xs a h.1 i)

-- if the first i accesses of a list are valid and so is the one at i, the first i + 1 are
pub host_list_valid_next : (list : List Access) (i : ℕ) (d : Access) → i < length list
    → AreHostAccesses (take i list) → IsHostAccess (get_or list i d) → AreHostAccesses (take (i + 1) list)
host_list_valid_next list i d l h a = grind (arith, are_more, take_at_read)

-- THE ACCESS THAT FOLLOWS
pub host_list_follower : (list : List Access) (i : ℕ) (following : Option Access)
    → IfSome following (HostNextAccess i list) → (b : Access) → following ≡ Some b → HostNextAccess i list b
host_list_follower list i None h b e = absurd (cc)
host_list_follower list i (Some a) h b e = let same : a ≡ b = cc in subst (HostNextAccess i list) same h

-- an access that the one after place i of a list continues is continued by the list's access at i + 1
pub burst_follower_continues : (list : List Access) (i : ℕ) (a : Access) (following : Option Access)
    → continues_burst a following ≡ true → ((b : Access) → following ≡ Some b → HostNextAccess i list b)
    → BurstContinuesAt list (i + 1) a
burst_follower_continues list i a following on next = grind arith
