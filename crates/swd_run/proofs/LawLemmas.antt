-- A script without `until` unfolds to itself.
use Rattle.std.proofs.Common.{◌≡◌, ℕ, zero, suc, ◌∙◌, Bool, true, false, List, [], ◌∷◌, ◌++◌, length, map, take, None}
use Rattle.std.proofs.Common.{Some, Option, refl, sym, ap, subst}
use Rattle.std.specs.Prelude.{is_none, ◌&&◌}
use Rattle.std.specs.List.{list_all}
use Rattle.std.proofs.lemmas.List.Folds.{list_all-append}
use Rattle.swd_script.specs.declared.batch.Until.{Until}
use Rattle.swd_script.specs.Scripts.{ScriptListed}
use Rattle.swd_run.specs.Laws.{UnfoldsToItself, is_until_free, until_free_report}
use Rattle.swd_run.specs.Reports.{report_pair_texts, report_text, session_text, report_shown_reads}
use Rattle.swd_run.specs.Sessions.{ScriptRun}
use Rattle.swd_run.specs.Unfoldings.{AreEarlierReads, BatchRuns, Unfolds, batch_again, calls_of, ends_until}
use Rattle.swd_run.specs.Unfoldings.{until_never_came, no_batch, one_more, batch_reads_of, runs_of}
use Rattle.swd_run.proofs.UnfoldingLemmas.{until_and_left, until_and_right, until_and_both}

abbrev is_empty : List ScriptRun → Bool
is_empty [] = true
is_empty (run ∷ later) = false

-- there is one run
abbrev is_alone : BatchRuns → Bool
is_alone runs = is_empty runs.earlier

alone_empty : (earlier : List ScriptRun) → is_empty earlier ≡ true → earlier ≡ []
alone_empty [] e = refl
alone_empty (run ∷ later) e = absurd cc

no_until : (until : Option Until) → is_none until ≡ true → until ≡ None
no_until None e = refl
no_until (Some until) e = absurd cc

plain_front : (n : ℕ) (batches : List ScriptListed) → list_all is_until_free batches ≡ true
    → list_all is_until_free (take n batches) ≡ true
plain_front n batches e = each batches n e
  where
    each : (batches : List ScriptListed) (n : ℕ) → list_all is_until_free batches ≡ true
        → list_all is_until_free (take n batches) ≡ true
    each batches zero e = refl
    each [] (suc n) e = refl
    each (batch ∷ batches) (suc n) e =
        until_and_both (is_until_free batch) (list_all is_until_free (take n batches))
        (until_and_left (is_until_free batch) (list_all is_until_free batches) e)
        (each batches n (until_and_right (is_until_free batch) (list_all is_until_free batches) e))

-- a batch without `until` has one run
plain_alone : (batches : List ScriptListed) (made : List BatchRuns) → Unfolds batches made
    → list_all is_until_free batches ≡ true → list_all is_alone made ≡ true
plain_alone batches made no_batch e = refl
plain_alone batches made (one_more {batches = before} {made = earlier} {batch = batch} {runs = runs} prior came are) e =
    let split = sym (list_all-append is_until_free before (batch ∷ [])) ∙ e in
    let front = until_and_left (list_all is_until_free before) (is_until_free batch && true) split in
    let last = until_and_left (is_until_free batch) true
    (until_and_right (list_all is_until_free before) (is_until_free batch && true) split) in
    list_all-append is_alone earlier (runs ∷ [])
    ∙ until_and_both (list_all is_alone earlier) (is_alone runs && true) (plain_alone before earlier prior front)
    (until_and_both (is_alone runs) true
    (ap is_empty (subst (λ until. AreEarlierReads until runs.earlier) (no_until batch.until last) are.earlier)) refl)

-- a script without `until` unfolds to itself
pub until_free_unfolds_itself : (batches : List ScriptListed) (made : List BatchRuns)
    → list_all is_until_free batches ≡ true → Unfolds (take (length made) batches) made → UnfoldsToItself batches made
until_free_unfolds_itself batches made e unfolds =
    itself batches made e (plain_alone (take (length made) batches) made unfolds (plain_front (length made) batches e))
  where
    itself : (batches : List ScriptListed) (made : List BatchRuns) → list_all is_until_free batches ≡ true
        → list_all is_alone made ≡ true → UnfoldsToItself batches made
    itself batches made e f = record {
      calls = calls batches made e f;
      runs = runs made f;
      came = came batches made e;
      text = text batches made e f;
    }
      where
        calls : (batches : List ScriptListed) (made : List BatchRuns) → list_all is_until_free batches ≡ true
            → list_all is_alone made ≡ true → calls_of batches made ≡ take (length made) batches
        calls [] [] e f = refl
        calls [] (v ∷ made) e f = refl
        calls (u ∷ batches) [] e f = refl
        calls (u ∷ batches) (v ∷ made) e f =
            ap (λ l. batch_again u l ++ u ∷ calls_of batches made)
            (alone_empty v.earlier (until_and_left (is_alone v) (list_all is_alone made) f))
            ∙ ap (λ l. u ∷ l) (calls batches made (until_and_right (is_until_free u) (list_all is_until_free batches) e)
            (until_and_right (is_alone v) (list_all is_alone made) f))

        runs : (made : List BatchRuns) → list_all is_alone made ≡ true → runs_of made ≡ map (λ runs. runs.last) made
        runs [] f = refl
        runs (v ∷ made) f =
            ap (λ l. l ++ v.last ∷ runs_of made)
            (alone_empty v.earlier (until_and_left (is_alone v) (list_all is_alone made) f))
            ∙ ap (λ l. v.last ∷ l) (runs made (until_and_right (is_alone v) (list_all is_alone made) f))

        came : (batches : List ScriptListed) (made : List BatchRuns) → list_all is_until_free batches ≡ true
            → ends_until batches made ≡ false
        came [] made e = refl
        came (u ∷ batches) [] e = refl
        came (u ∷ batches) (v ∷ []) e =
            ap (λ until. until_never_came until v.last.told)
            (no_until u.until (until_and_left (is_until_free u) (list_all is_until_free batches) e))
        came (u ∷ batches) (v ∷ w ∷ made) e =
            came batches (w ∷ made) (until_and_right (is_until_free u) (list_all is_until_free batches) e)

        text : (batches : List ScriptListed) (made : List BatchRuns) → list_all is_until_free batches ≡ true
            → list_all is_alone made ≡ true
            → session_text batches made ≡ report_pair_texts until_free_report batches (runs_of made)
        text [] made e f = refl
        text (u ∷ batches) [] e f = refl
        text (u ∷ batches) (v ∷ made) e f =
            let free = no_until u.until (until_and_left (is_until_free u) (list_all is_until_free batches) e) in
            let alone = alone_empty v.earlier (until_and_left (is_alone v) (list_all is_alone made) f) in
            ap (λ until. report_text (report_shown_reads until (batch_reads_of v)) (until_never_came until v.last.told)
            u.accesses v.last.stops v.last.told ++ session_text batches made) free
            ∙ ap (λ l. until_free_report u v.last ++ l)
            (text batches made (until_and_right (is_until_free u) (list_all is_until_free batches) e)
            (until_and_right (is_alone v) (list_all is_alone made) f))
            ∙ ap (λ l. report_pair_texts until_free_report (u ∷ batches) (l ++ v.last ∷ runs_of made)) (sym alone)
