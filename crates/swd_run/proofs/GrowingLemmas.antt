-- A file that is written while what it is about grows: what its writer has. For `GrowingFile`.
use Rattle.std.proofs.Common.{◌≡◌, ◌∙◌, ℕ, ◌+◌, ◌-◌, ◌≤◌, List, [], ◌++◌, take, drop, Option, None, Some, Result, Ok}
use Rattle.std.proofs.Common.{Err, refl, sym, ap, subst, arith, inl, inr, true}
use Rattle.std.proofs.KnownBytes.{Appends-nil}
use Rattle.std.proofs.lemmas.List.{drop-take, take-append-drop, take-take}
use Rattle.std.proofs.Math.Logic.{∥∥₁_elim, ∥∥₁_map}
use Rattle.std.specs.Coded.{Unit-prop, coded_list, coded_ℕ}
use denote.Struct.Props.{≡_prop}
use Rattle.std.specs.Prelude.{◌⊎◌, is_some}
use Rattle.std.specs.Io.KnownBytes.{Appends}
use Rattle.swd_io.specs.Blocks.{OutputStopped}
use Rattle.swd_run.specs.GrowingFiles.{GrowingWriterHas}
use Rattle.swd_run.specs.Records.{ForRunFile, IsRunFileStarted, run_file_held}
use Rattle.swd_run.specs.Reports.{ReportWritesOn}

-- nothing was written to a new file
pub growing_file_new_has : {T : Type 0} (contents : T → Option (List ℕ)) (writer : Option T)
    → GrowingWriterHas contents (run_file_held contents writer) writer (Ok 0) []
growing_file_new_has contents None = refl
growing_file_new_has contents (Some writer) = record { gone = Appends-nil (contents writer); count = refl }

-- the first entries, and those behind them
pub growing_first_next : {X : Type 0} (xs : List X) (m n : ℕ) → m ≤ n
    → take m xs ++ take (n - m) (drop m xs) ≡ take n xs
growing_first_next xs m n h =
    let sum : m + (n - m) ≡ n = omega (arith, h) in
    ap (λ l. l ++ take (n - m) (drop m xs)) (sym (take-take m n xs h))
    ∙ ap (λ l. take m (take n xs) ++ l) (sym (drop-take m (n - m) xs) ∙ ap (λ k. drop m (take k xs)) sum)
    ∙ take-append-drop m (take n xs)

-- ---- at the end

-- what was appended to bytes that are known has one proof at most
appended_once : (old new : Option (List ℕ)) (text : List ℕ) → IsProp (Appends old new text)
appended_once None new text = Unit-prop
appended_once (Some xs) None text = λ a b. absurd a
appended_once (Some xs) (Some ys) text = ≡_prop (coded_list coded_ℕ) ys (xs ++ text)

impossible : {P : Type 0} → ∥ ⊥ ∥₁ → P
impossible h = absurd (∥∥₁_elim h (λ a b. absurd a) (λ never. never))

-- a file whose writer didn't fail has the whole text
pub growing_file_whole : {T : Type 0} (contents : T → Option (List ℕ)) (start : Option (Option (List ℕ)))
    (writer : Option T) (sent : Result ℕ ℕ) (text : List ℕ) (told : ℕ) → sent ≡ Ok told
    → ∥ GrowingWriterHas contents start writer sent text ∥₁
    → ForRunFile (λ old new. Appends old new text) start (run_file_held contents writer)
growing_file_whole contents None None sent text told is h = refl
growing_file_whole contents (Some first) (Some writer) sent text told is h = (
  contents writer,
  refl,
  ∥∥₁_elim h (appended_once first (contents writer) text)
      (λ w. (subst (λ r. ReportWritesOn r first (contents writer) text) is w).gone),
)
growing_file_whole contents None (Some writer) sent text told is h = impossible h
growing_file_whole contents (Some first) None sent text told is h = impossible h

-- one whose writer failed has exactly the first bytes of it
pub growing_file_stopped : {T : Type 0} (contents : T → Option (List ℕ)) (start : Option (Option (List ℕ)))
    (writer : Option T) (sent : Result ℕ ℕ) (text : List ℕ) (told : ℕ) → sent ≡ Err told
    → ∥ GrowingWriterHas contents start writer sent text ∥₁ → (is_some start ≡ true)
    × ForRunFile (λ old new. ∥ OutputStopped told old new text ∥₁) start (run_file_held contents writer)
growing_file_stopped contents None None sent text told is h = impossible (∥∥₁_map h (λ none. absurd cc))
growing_file_stopped contents (Some first) (Some writer) sent text told is h = (
  refl,
  (contents writer, refl, ∥∥₁_map h (λ w. subst (λ r. ReportWritesOn r first (contents writer) text) is w)),
)
growing_file_stopped contents None (Some writer) sent text told is h = impossible h
growing_file_stopped contents (Some first) None sent text told is h = impossible h

-- in each case its text was begun
pub growing_file_started : {T : Type 0} (contents : T → Option (List ℕ)) (start : Option (Option (List ℕ)))
    (writer : Option T) (sent : Result ℕ ℕ) (text : List ℕ) → ∥ GrowingWriterHas contents start writer sent text ∥₁
    → ForRunFile (IsRunFileStarted text) start (run_file_held contents writer)
growing_file_started contents None None sent text h = refl
growing_file_started contents (Some first) (Some writer) sent text h =
    (contents writer, refl, ∥∥₁_map h (λ w. begun sent w))
  where
    begun : (r : Result ℕ ℕ) → ReportWritesOn r first (contents writer) text
        → Appends first (contents writer) text ⊎ ((told : ℕ) × OutputStopped told first (contents writer) text)
    begun (Ok told) w = inl w.gone
    begun (Err told) w = inr (told, w)
growing_file_started contents None (Some writer) sent text h = impossible h
growing_file_started contents (Some first) None sent text h = impossible h
