use Rattle.std.proofs.Common.{◌≡◌, ◌+◌, ◌<◌, ℕ, zero, suc, List, [], ◌∷◌, get_or, ap, ◌∙◌, arith}
use lib.Count.{count_leading_zeros}
use Rattle.swd_clocked.specs.declared.frame.Frame.TheVariants.{Asks}
use Rattle.swd_clocked.specs.Frames.{unswitched_frame}
use Rattle.swd_clocked.proofs.frame.Frame.unswitched.Goals as goal

-- a table of so many values of a function, from a place on
abbrev values : {A : Type 0} → (ℕ → A) → ℕ → ℕ → List A
values f zero place = []
values f (suc count) place = f place ∷ values f count (place + 1)

row : {A : Type 0} (f : ℕ → A) (count place n : ℕ) (other : A) → n < count
    → get_or (values f count place) n other ≡ f (place + n)
row f zero place n other h = absurd (omega arith)
row f (suc count) place zero other h =
    let e : place ≡ place + 0 = omega arith in ap f e
row f (suc count) place (suc n) other h =
    let e : place + 1 + n ≡ place + suc n = omega arith in
    row f count (place + 1) n other (omega arith) ∙ ap f e

pub returns-clause-frame : goal.returns-clause-frame
unfolding count_leading_zeros
returns-clause-frame c =
    let e : 0 + c.from.result ≡ c.args.place = omega (arith, c.from.ensures) in
    row unswitched_frame 16 0 c.from.result (Asks 0 0) (omega arith) ∙ ap unswitched_frame e
