-- Lists that grow by further items, as what a sink was given does.
use Rattle.std.proofs.Common.{◌≡◌, ◌∙◌, List, [], ◌++◌, refl, sym, ap, subst, append_assoc}
use Rattle.std.proofs.lemmas.List.{append-nil}

pub run_sink_unchanged : {X : Type 0} (xs : List X) → xs ≡ xs
run_sink_unchanged xs = refl

pub run_sink_no_more : {X : Type 0} (xs ys : List X) → ys ≡ xs → ys ≡ xs ++ []
run_sink_no_more xs ys e = e ∙ sym (append-nil xs)

pub run_sink_grows_twice : {X : Type 0} (xs ys zs first next : List X) → ys ≡ xs ++ first → zs ≡ ys ++ next
    → zs ≡ xs ++ (first ++ next)
run_sink_grows_twice xs ys zs first next e f = f ∙ ap (λ l. l ++ next) e ∙ append_assoc xs first next

module _ {X S : Type 0} (P : List X → S → Type 0) where
  -- what holds of a list and a state holds of a longer one and a later state
  abbrev pub Leads : S → List X → S → Type 0
  Leads a more b = (before : List X) → P before a → P (before ++ more) b

  pub leads_nowhere : (a : S) → Leads a [] a
  leads_nowhere a before h = subst (λ l. P l a) (sym (append-nil before)) h

  pub leads_further : (a b c : S) (first next : List X) → Leads a first b → Leads b next c → Leads a (first ++ next) c
  leads_further a b c first next on further before h =
      subst (λ l. P l c) (append_assoc before first next) (further (before ++ first) (on before h))
