-- The calls that a script's batches unfold to. A batch is one call. But the read of an `until` is made again, as a call
-- of its own, until its word comes.
use Rattle.std.specs.Prelude.{ℕ, ◌≡◌, ◌+◌, ◌<◌, ◌==◌, ◌&&◌, not, bit_and, Bool, true, false, List, [], ◌∷◌, ◌++◌}
use Rattle.std.specs.Prelude.{length, map, Option, None, Some}
use Rattle.std.specs.List.{list_all}
use Rattle.swd_port.specs.declared.access.Answer.{Answer}
use Rattle.swd_port.specs.declared.access.Answer.TheVariants.{Value}
use Rattle.swd_port.specs.declared.wire.Wire.{Ghosts}
use Rattle.swd_host.specs.declared.outcome.End.TheVariants.{All}
use Rattle.swd_host.specs.Reports.{HostReport}
use Rattle.swd_host.specs.Resuming.{host_end_is_all}
use Rattle.swd_script.specs.declared.batch.Until.{Until}
use Rattle.swd_script.specs.Scripts.{ScriptListed}
use Rattle.swd_run.specs.declared.limits.Limits.{Limits}
use Rattle.swd_run.specs.Sessions.{ScriptRun, RunsBatchFrom, IsBatchRefused, RunsBatches, script_ended, batch_bursts}
use Rattle.swd_run.specs.Sessions.{script_is_open}

-- ONE UNTIL
-- the word under the mask is the value
abbrev pub is_until_word : Until → ℕ → Bool
is_until_word until word = bit_and word until.mask == until.value

-- the read was answered with the awaited word
abbrev pub until_word_came : Until → List Answer → Bool
until_word_came until (Value word ∷ []) = is_until_word until word
until_word_came until answers = false

-- the read was answered with another word; a bus error is none
abbrev pub is_other_until_word : Until → List Answer → Bool
is_other_until_word until (Value word ∷ []) = not (is_until_word until word)
is_other_until_word until answers = false

-- the read has to be made again: it ended `All`, and was answered with another word
abbrev pub asks_again : Until → ScriptRun → Bool
asks_again until run = host_end_is_all run.told.ended && is_other_until_word until run.told.answers

-- the read ended `All`, but not with the awaited word
abbrev pub until_never_came : Option Until → HostReport → Bool
until_never_came None told = false
until_never_came (Some until) told = host_end_is_all told.ended && not (until_word_came until told.answers)

-- THE RUNS OF ONE BATCH
-- the reads of an `until` before the last one, and the last run
pub record BatchRuns : Type 0 where
  pub earlier : List ScriptRun
  pub last : ScriptRun

-- how many runs there were
abbrev pub batch_reads_of : BatchRuns → ℕ
batch_reads_of runs = length runs.earlier + 1

-- Earlier runs after which there may be one more. A batch without `until` has none. Each read of an `until` has to ask
-- for the next one, and there are fewer than the most.
abbrev pub AreEarlierReads : Option Until → List ScriptRun → Type 0
AreEarlierReads None earlier = earlier ≡ []
AreEarlierReads (Some until) earlier =
    (list_all (λ run. asks_again until run) earlier ≡ true) × (length earlier < until.most)

-- after the last read the word has come, or the run didn't end `All`, or it was a bus error, or no more are allowed
abbrev pub IsLastRead : Option Until → BatchRuns → Type 0
IsLastRead None runs = Unit {0}
IsLastRead (Some until) runs = asks_again until runs.last ≡ true → batch_reads_of runs ≡ until.most

-- these are runs of this batch
pub record AreRunsOfBatch (batch : ScriptListed) (runs : BatchRuns) : Type 0 where
  pub earlier : AreEarlierReads batch.until runs.earlier
  pub last : IsLastRead batch.until runs

-- THE RUNS OF ALL BATCHES
-- the last run is the read of an `until` whose word didn't come
abbrev pub ends_until : List ScriptListed → List BatchRuns → Bool
ends_until [] made = false
ends_until (batch ∷ batches) [] = false
ends_until (batch ∷ batches) (runs ∷ []) = until_never_came batch.until runs.last.told
ends_until (batch ∷ batches) (runs ∷ next ∷ made) = ends_until batches (next ∷ made)

-- These are runs of these batches. After an `until` whose word never came there is none.
pub data Unfolds : List ScriptListed → List BatchRuns → Type 0 where
  no_batch : Unfolds [] []
  one_more : {batches : List ScriptListed} {made : List BatchRuns} {batch : ScriptListed} {runs : BatchRuns}
      → Unfolds batches made
      → ends_until batches made ≡ false → AreRunsOfBatch batch runs
      → Unfolds (batches ++ batch ∷ []) (made ++ runs ∷ [])

-- a batch, once for each of these runs
abbrev pub batch_again : ScriptListed → List ScriptRun → List ScriptListed
batch_again batch runs = map (λ run. batch) runs

-- the first of these batches, once for each of these runs
abbrev pub first_batch_again : List ScriptListed → List ScriptRun → List ScriptListed
first_batch_again [] runs = []
first_batch_again (batch ∷ batches) runs = batch_again batch runs

-- the calls that were made of these batches
abbrev pub calls_of : List ScriptListed → List BatchRuns → List ScriptListed
calls_of [] made = []
calls_of (batch ∷ batches) [] = []
calls_of (batch ∷ batches) (runs ∷ made) = batch_again batch runs.earlier ++ batch ∷ calls_of batches made

-- the runs of these calls
abbrev pub runs_of : List BatchRuns → List ScriptRun
runs_of [] = []
runs_of (runs ∷ made) = runs.earlier ++ runs.last ∷ runs_of made

-- runs of each batch, or of the batches up to a run that didn't end `All` or an `until` whose word never came
abbrev pub AreBatchesDone : List ScriptListed → List BatchRuns → Type 0
AreBatchesDone batches made = script_ended (runs_of made) ≡ All → ends_until batches made ≡ false
    → length made ≡ length batches

-- OVER A WIRE
module _ {W : Type 0} (wire : Ghosts W) (opened : Bool)
    (limits : Limits) (batch : ScriptListed) where
  -- the runs of one batch, from the wire s to the wire t; `opened` says whether the target is open at s
  pub record Performs (s : W) (runs : BatchRuns) (t : W) : Type 0 where
    pub between : W
    pub earlier : RunsBatches wire opened (batch_bursts limits.bursts) limits s (batch_again batch runs.earlier)
        runs.earlier between
    pub last : RunsBatchFrom wire (script_is_open opened runs.earlier)
        (batch_bursts limits.bursts batch) limits batch between
        runs.last t
    pub are : AreRunsOfBatch batch runs

  -- The same, where the last run ran out of memory. Only the read of an `until` may do so once it started.
  pub record IsCutShort (s t : W) : Type 0 where
    pub runs : List ScriptRun
    pub are : AreEarlierReads batch.until runs
    pub between : W
    pub earlier : RunsBatches wire opened (batch_bursts limits.bursts) limits s (batch_again batch runs) runs between
    pub refused : IsBatchRefused wire (script_is_open opened runs) (batch_bursts limits.bursts batch) limits batch
        between t
    pub unsent : batch.until ≡ None → t ≡ s
