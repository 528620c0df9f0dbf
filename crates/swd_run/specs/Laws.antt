-- What holds for every script.
use Rattle.std.specs.Prelude.{◌≡◌, ℕ, Bool, false, true, List, is_none, length, map, take, None}
use Rattle.std.specs.List.{list_all}
use Rattle.swd_script.specs.Scripts.{ScriptListed}
use Rattle.swd_run.specs.Reports.{report_pair_texts, report_text, session_text}
use Rattle.swd_run.specs.Sessions.{ScriptRun}
use Rattle.swd_run.specs.Unfoldings.{BatchRuns, Unfolds, calls_of, ends_until, runs_of}

-- it is no `until`
abbrev pub is_until_free : ScriptListed → Bool
is_until_free batch = is_none batch.until

-- the report of the one run of a batch
abbrev pub until_free_report : ScriptListed → ScriptRun → List ℕ
until_free_report batch run = report_text None false batch.accesses run.stops run.told

-- The unfolding is the script itself: the calls are its batches, each once, none waits for a word, and the reports are
-- those of the runs.
pub record UnfoldsToItself (batches : List ScriptListed) (made : List BatchRuns) : Type 0 where
  pub calls : calls_of batches made ≡ take (length made) batches
  pub runs : runs_of made ≡ map (λ runs. runs.last) made
  pub came : ends_until batches made ≡ false
  pub text : session_text batches made ≡ report_pair_texts until_free_report batches (runs_of made)

-- a script without `until` unfolds to itself
abbrev pub UntilFreeScripts : Type 0
UntilFreeScripts = (batches : List ScriptListed) (made : List BatchRuns) → list_all is_until_free batches ≡ true
    → Unfolds (take (length made) batches) made → UnfoldsToItself batches made
