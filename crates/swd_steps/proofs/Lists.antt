-- Lists of accesses, by what stands at an index. For `Stepping`, `Keeping` and `run::unaligned`.
use Rattle.std.proofs.Common.{arith, ◌≡◌, ◌+◌, ◌≤◌, ℕ, true, refl, sym, subst, ◌∙◌, List, [], ◌∷◌, length, zero}
use Rattle.std.proofs.Common.{suc, ap}
use Rattle.std.specs.Prelude.{Option, Some, None, drop, slice_get, take}
use Rattle.std.proofs.lemmas.Option.{slice_get_within, get_or_from_slice_get}
use Rattle.swd_port.specs.declared.access.Access.{Access}
use Rattle.swd_port.specs.declared.access.Access.TheVariants.{Read}
use Rattle.swd_host.specs.Plain.{AreHostAccesses, host_access_is_aligned, IsHostAccess}
use Rattle.swd_host.specs.Accepting.{HostAccessHasRanges}
use Rattle.swd_host.specs.Standing.{HostNextAccess}
use Rattle.swd_host.proofs.Folding.{host_list_valid_next, host_access_valid}

-- what stands at i of the rest of a list from place k on stands at k + i of the list
pub stepped_get_in_rest : (k : ℕ) (list : List Access) (i : ℕ) → slice_get (drop k list) i ≡ slice_get list (k + i)
stepped_get_in_rest zero list i = ap (λ n. slice_get list n) (omega arith)
stepped_get_in_rest (suc k) [] i = refl
stepped_get_in_rest (suc k) (a ∷ list) i =
    let next : suc (k + i) ≡ suc k + i = omega arith in
    stepped_get_in_rest k list i ∙ ap (λ n. slice_get (a ∷ list) n) next

-- there is none past the end
pub stepped_none_past_end : (list : List Access) (i : ℕ) → slice_get list i ≡ None → length list ≤ i
stepped_none_past_end [] i h = omega arith
stepped_none_past_end (a ∷ list) zero h = absurd (cc)
stepped_none_past_end (a ∷ list) (suc i) h = omega (arith, stepped_none_past_end list i h)

-- what stands there follows
pub stepped_next_access : (list : List Access) (i : ℕ) (following : Option Access) → following ≡ slice_get list (i + 1)
    → (b : Access) → following ≡ Some b → HostNextAccess i list b
stepped_next_access list i following is b some = record {
  number = slice_get_within list (i + 1) b (sym is ∙ some);
  same = λ d. get_or_from_slice_get list (i + 1) b d (sym is ∙ some);
}

-- one access more is one that may be done
pub stepped_take_is_valid : (list : List Access) (i : ℕ) (a : Access) → slice_get list i ≡ Some a
    → HostAccessHasRanges a
    → host_access_is_aligned a ≡ true → AreHostAccesses (take i list) → AreHostAccesses (take (i + 1) list)
stepped_take_is_valid list i a at ranges aligned are =
    host_list_valid_next list i (Read 0) (slice_get_within list i a at) are
    (subst IsHostAccess (sym (get_or_from_slice_get list i a (Read 0) at)) (host_access_valid a ranges aligned))
