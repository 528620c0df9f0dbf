-- Plans of legal marks.
use Rattle.std.proofs.Common.{◌≡◌, ◌+◌, ℕ, zero, suc, true, List, [], ◌∷◌, take, refl, sym, add-one, arith}
use Rattle.std.proofs.lemmas.List.Sums.{sum_by-cons}
use Rattle.std.specs.List.{list_all, sum_by}
use Rattle.swd_port.specs.Choices.{IsPortMark, port_disturbs, port_loses}
use Rattle.swd_port.specs.MarkCounts.{port_disturbed_among, port_lost_among}
use Rattle.swd_port.specs.declared.mark.Mark.{Mark}
use Rattle.swd_port.specs.declared.mark.Mark.TheVariants.{Clean}
use Rattle.swd_target.specs.Marks.{plan_mark_at, is_legal_mark, IsLegalPlan}

legal_mark : (mark : Mark) → IsPortMark mark → is_legal_mark mark ≡ true
legal_mark mark h = grind arith

-- the test of a plan
pub list_all-legal : (plan : List Mark) → IsLegalPlan plan → list_all is_legal_mark plan ≡ true
list_all-legal [] h = refl
list_all-legal (mark ∷ plan) h =
    rw (legal_mark mark (h 0 mark (omega arith)), list_all-legal plan (λ k d l. h (suc k) d (omega arith))) refl

-- a sum over the marks used, with one request more: a mark past the end of the plan adds nothing
sum_next : (f : Mark → ℕ) → f Clean ≡ 0 → (plan : List Mark) (n : ℕ)
    → sum_by f (take (suc n) plan) ≡ sum_by f (take n plan) + f (plan_mark_at plan n)
sum_next f clean [] zero = grind arith
sum_next f clean [] (suc n) = grind arith
sum_next f clean (mark ∷ plan) zero = grind arith
sum_next f clean (mark ∷ plan) (suc n) =
    omega (arith, sum_by-cons f mark (take (suc n) plan), sum_by-cons f mark (take n plan), sum_next f clean plan n)

sum_used : (f : Mark → ℕ) → f Clean ≡ 0 → (plan : List Mark) (n : ℕ)
    → sum_by f (take (n + 1) plan) ≡ sum_by f (take n plan) + f (plan_mark_at plan n)
sum_used f clean plan n = rw add-one (sum_next f clean plan n)

-- so the counts over the marks used stay counts over them
pub plan_disturbed_used : (plan : List Mark) (n n' d d' : ℕ) (mark : Mark) → mark ≡ plan_mark_at plan n → n' ≡ n + 1
    → d ≡ port_disturbed_among (take n plan)
    → d' ≡ d + port_disturbs mark → d' ≡ port_disturbed_among (take n' plan)
plan_disturbed_used plan n n' d d' mark is next old new =
    rw (new, old, is, next) (sym (sum_used port_disturbs refl plan n))

-- the count of lost requests, with the next request's mark, is that among the marks used then
pub plan_lost_used : (plan : List Mark) (n n' d d' : ℕ) (mark : Mark) → mark ≡ plan_mark_at plan n → n' ≡ n + 1
    → d ≡ port_lost_among (take n plan)
    → d' ≡ d + port_loses mark → d' ≡ port_lost_among (take n' plan)
plan_lost_used plan n n' d d' mark is next old new = rw (new, old, is, next) (sym (sum_used port_loses refl plan n))
