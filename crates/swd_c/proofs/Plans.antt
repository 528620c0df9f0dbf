-- How a plan is stored.
use Rattle.std.proofs.Common.{arith, ap, sym, subst, ◌∙◌, ◌≡◌, ◌+◌, ◌<◌, ◌≤◌, ℕ, List, [], ◌∷◌, ◌++◌, length}
use Rattle.std.specs.Prelude.{drop, get_or, map, set, take}
use Rattle.std.proofs.Math.Seq.{set-append_seam}
use Rattle.std.proofs.lemmas.List.{append_assoc, drop_more, length-map, length-take-le, map_more}
use Rattle.swd_port.specs.declared.coming.Coming.{Coming}
use Rattle.swd_c.specs.declared.plan.SwdPlanned.{SwdPlanned}
use Rattle.swd_c.specs.Plans.{c_api_planned}

-- the objects, of which so many are stored
abbrev pub plan_stored : ℕ → List Coming → List SwdPlanned → List SwdPlanned
plan_stored place coming before = map c_api_planned (take place coming) ++ drop place before

-- one more is stored
pub plan_stores_more : (place : ℕ) (coming : List Coming) (before : List SwdPlanned) (value : SwdPlanned) (d : Coming)
    → place < length coming → length coming ≤ length before → value ≡ c_api_planned (get_or coming place d)
    → set (plan_stored place coming before) place value ≡ plan_stored (place + 1) coming before
plan_stores_more place coming before value d small fits is =
    let count : length (map c_api_planned (take place coming)) ≡ place =
    length-map (take place coming) c_api_planned ∙ length-take-le place coming (omega (arith, small)) in
    let old = drop_more before place value (omega (arith, small, fits)) in
    let first = map c_api_planned (take place coming) in
    let rest = drop (place + 1) before in
    let more = map_more c_api_planned coming place d small in
    ap (λ l. set (first ++ l) place value) old
    ∙ (subst (λ n. set (first ++ (get_or before place value ∷ rest)) n value ≡ first ++ value ∷ rest) count
    (set-append_seam first (get_or before place value) rest value)
    ∙ (sym (append_assoc first (value ∷ []) rest) ∙ ap (λ l. l ++ rest) (ap (λ x. first ++ x ∷ []) is ∙ sym more)))
