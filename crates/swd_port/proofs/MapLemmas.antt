-- Insertions into a map from numbers to numbers.
use Rattle.std.proofs.Common.{◌≡◌, ℕ, refl, inl, inr, ◌⊎◌, sym, ◌∙◌, arith}
use Rattle.std.proofs.lemmas.Bool.{cases_eq}
use Rattle.std.specs.Prelude.{false, Some}
use Rattle.std.specs.Ordering.{nat_cmp, eq_by_cmp, is_eq}
use Rattle.std.specs.declared.cmp.Ordering.TheVariants.{Less, Equal, Greater}
use Rattle.std.specs.FinMap.{FinMap, get, insert, gets, get-insert, same_map, nat_cmp-IsAntisymmetric}
use Rattle.std.specs.Cmp.{nat_cmp_total}

-- two keys that differ don't tie
apart : (q k : ℕ) → (q ≡ k → ⊥) → eq_by_cmp nat_cmp q k ≡ false
apart q k none =
    elim (nat_cmp q k) as (λ r. nat_cmp q k ≡ r → is_eq r ≡ false)
    [ Less ↦ λ e. refl | Equal ↦ λ e. absurd (none (nat_cmp-IsAntisymmetric q k e)) | Greater ↦ λ e. refl ] refl

-- one insertion, at another key and at its own
pub port_map_get_other : (m : FinMap nat_cmp ℕ) (k v q : ℕ) → (q ≡ k → ⊥) → get (insert m k v) q ≡ get m q
port_map_get_other m k v q none = get-insert nat_cmp_total m k v q ∙ rw (apart q k none)

-- at its own key an insertion puts its value
pub port_map_get_same : (m : FinMap nat_cmp ℕ) (k v q : ℕ) → q ≡ k → get (insert m k v) q ≡ Some v
port_map_get_same m k v q e = grind (arith, gets)

-- two insertions at one key
twice_at : (m : FinMap nat_cmp ℕ) (k v w q : ℕ) → (q ≡ k) ⊎ (q ≡ k → ⊥)
    → get (insert (insert m k v) k w) q ≡ get (insert m k w) q
twice_at m k v w q (inl e) = port_map_get_same _ k w q e ∙ sym (port_map_get_same m k w q e)
twice_at m k v w q (inr none) = port_map_get_other _ k w q none ∙
    (port_map_get_other m k v q none ∙ sym (port_map_get_other m k w q none))

-- a second insertion at the same key replaces the first
pub port_map_insert_twice : (m : FinMap nat_cmp ℕ) (k v w : ℕ) → insert (insert m k v) k w ≡ insert m k w
port_map_insert_twice m k v w = same_map nat_cmp_total nat_cmp-IsAntisymmetric _ _
    (λ q. twice_at m k v w q (cases_eq q k))
