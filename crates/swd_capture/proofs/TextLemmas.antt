-- Laws of texts that are put together.
use Rattle.std.proofs.Common.{◌≡◌, ℕ, List, ◌++◌, ap, ◌∙◌, append_assoc}

-- a part more is added
pub capture_prints_joined : (old first more mid new : List ℕ) → mid ≡ old ++ first → new ≡ mid ++ more
    → new ≡ old ++ (first ++ more)
capture_prints_joined old first more mid new e f = f ∙ ap (λ x. x ++ more) e ∙ append_assoc old first more
