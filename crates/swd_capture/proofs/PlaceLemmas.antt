-- The digits of places: those of the tens, and the last one.
use Rattle.std.proofs.Common.{◌≡◌, ℕ, zero, suc, ◌+◌, ◌/◌, ◌%◌, ◌^◌, ◌<◌, List, [], ◌∷◌, ◌++◌}
use Rattle.std.proofs.Common.{refl, sym, ap, ◌∙◌, append_assoc, arith}
use Rattle.std.specs.Prelude.{◌==◌, if◌then◌else◌}
use Rattle.std.specs.Fmt.{decimal}
use Rattle.std.proofs.Math.Dec.{eqb-suc-zero}
use Rattle.std.proofs.lemmas.Fmt.{decimal_digit, decimal_step}
use Rattle.swd_capture.specs.Places.{capture_place_prefix, capture_tens_prefix}

-- the digits of a number are those of its tens, if there are any, and its last one
last_digit : (n tens : ℕ) → n < 2 ^ 64 → n / 10 ≡ tens
    → decimal n ≡ (if tens == 0 then [] else decimal tens) ++ (48 + n % 10) ∷ []
last_digit n zero h e =
    let same : n ≡ n % 10 = omega (arith, e) in
    decimal_digit n (omega (arith, e)) ∙ ap (λ d. (48 + d) ∷ []) same
last_digit n (suc tens) h e =
    let last = (48 + n % 10) ∷ [] in
    decimal_step n (omega (arith, e)) h ∙ ap (λ t. decimal t ++ last) e
    ∙ ap (λ t. (if t then [] else decimal (suc tens)) ++ last) (sym (eqb-suc-zero tens))

-- so a place is what its ten begins with, its last digit and a space
pub capture_place_split : (n : ℕ) (rest : List ℕ) → n < 2 ^ 64
    → capture_place_prefix n ++ rest ≡ capture_tens_prefix (n / 10) ++ ((48 + n % 10) ∷ 32 ∷ rest)
capture_place_split n rest h =
    append_assoc (64 ∷ decimal n) (32 ∷ []) rest
    ∙ ap (λ x. 64 ∷ (x ++ 32 ∷ rest)) (last_digit n (n / 10) h refl)
    ∙ ap (λ x. 64 ∷ x) (append_assoc (if n / 10 == 0 then [] else decimal (n / 10)) ((48 + n % 10) ∷ []) (32 ∷ rest))

-- and what a ten begins with is what its hundred begins with, and a digit
pub capture_tens_split : (n : ℕ) → 0 < n → n < 2 ^ 64
    → capture_tens_prefix n ≡ capture_tens_prefix (n / 10) ++ (48 + n % 10) ∷ []
capture_tens_split zero some h = absurd (omega (arith, some))
capture_tens_split (suc n) some h =
    ap (λ t. 64 ∷ (if t then [] else decimal (suc n))) (eqb-suc-zero n)
    ∙ ap (λ x. 64 ∷ x) (last_digit (suc n) (suc n / 10) h refl)
